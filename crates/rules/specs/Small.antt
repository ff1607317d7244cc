-- Ten small reports, and what a run and a close make of them.
use Rattle.std.specs.Prelude.{ℕ, true, List, [], ◌∷◌, replicate, Ok, Err, Result}
use Rattle.terms.specs.declared.refusal.Refusal.{Refusal}
use Rattle.sets.specs.Sets.{elements}
use Rattle.meaning.specs.Meaning.{Meaning, qubits}
use Rattle.meaning.specs.Product.{product_code}
use Rattle.rules.specs.declared.answers.Outcome.{Outcome}
use Rattle.rules.specs.declared.answers.Outcome.TheVariants.{Solved, Nothing, Unfinished}
use Rattle.rules.specs.declared.answers.Verdict.{Verdict}
use Rattle.rules.specs.States.{State}
use Rattle.rules.specs.Tallies.{Tally, new_tally, Opened, open_trial, close}
use Rattle.rules.specs.Run.{run}

-- the seed with the one row 1 1, and that with two rows 1 1
abbrev pub S : Meaning
S = product_code 1 2 ((true ∷ true ∷ []) ∷ [])

abbrev pub D : Meaning
D = product_code 2 2 ((true ∷ true ∷ []) ∷ (true ∷ true ∷ []) ∷ [])

-- what is asked: a code, the lost qubits, the odd checks, and the switches of the run
pub record Question : Type 0 where
  pub code : Meaning
  pub lost : List ℕ
  pub odds : List ℕ
  pub switches : ℕ

-- what is told: the close's answer, and of a solved trial the flipped qubits
pub record Told : Type 0 where
  pub verdict : Result Verdict Refusal
  pub flips : List ℕ

abbrev pub flips_of : Result Verdict Refusal → State → List ℕ
flips_of (Ok v) s = elim v.outcome [ Solved ↦ elements s.flipped | Nothing ↦ [] | Unfinished ↦ [] ]
flips_of (Err r) s = []

-- a trial is opened on a new tally, run with a clean scratch buffer, and closed
abbrev pub closed_after_run : Question → Result Opened Refusal × Tally → Told
closed_after_run a (Ok o, t) =
    let s : State = (run a.code o.trial o.slip a.switches (replicate (qubits a.code) 0)).1 in
    let v : Result Verdict Refusal = (close s o.slip t).answer in
    record { verdict = v; flips = flips_of v s }
closed_after_run a (Err r, t) = record { verdict = Err r; flips = [] }

abbrev pub told : Question → Told
told a = closed_after_run a (open_trial a.code new_tally a.lost a.odds)

abbrev pub ask : Meaning → List ℕ → List ℕ → ℕ → Question
ask m l o w = record { code = m; lost = l; odds = o; switches = w }

abbrev pub tells : Outcome → ℕ → ℕ → ℕ → List ℕ → Told
tells r p q c f = record { verdict = Ok (record { outcome = r; peeled = p; pruned = q; chosen = c }); flips = f }

abbrev pub questions : List Question
questions =
    ask S [] [] 15
    ∷ ask S [] (0 ∷ []) 15
    ∷ ask S (0 ∷ []) (1 ∷ []) 15
    ∷ ask S (0 ∷ 1 ∷ []) (0 ∷ []) 15
    ∷ ask S (0 ∷ 2 ∷ 4 ∷ []) (0 ∷ []) 4
    ∷ ask D (0 ∷ 1 ∷ []) (0 ∷ []) 4
    ∷ ask D (0 ∷ 1 ∷ 4 ∷ []) (1 ∷ 2 ∷ []) 4
    ∷ ask D (0 ∷ 2 ∷ 4 ∷ 5 ∷ []) [] 4
    ∷ ask D (0 ∷ 2 ∷ 4 ∷ 5 ∷ []) [] 12
    ∷ ask D (0 ∷ 2 ∷ 4 ∷ 5 ∷ []) (0 ∷ []) 15
    ∷ []

abbrev pub answers : List Told
answers =
    tells Solved 0 0 0 []
    ∷ tells Nothing 0 0 0 []
    ∷ tells Nothing 1 0 0 []
    ∷ tells Solved 0 0 1 (1 ∷ [])
    ∷ tells Solved 0 0 1 (0 ∷ [])
    ∷ tells Nothing 0 0 0 []
    ∷ tells Solved 0 0 1 (1 ∷ 4 ∷ [])
    ∷ tells Unfinished 0 0 0 []
    ∷ tells Solved 0 0 1 []
    ∷ tells Nothing 3 1 0 []
    ∷ []

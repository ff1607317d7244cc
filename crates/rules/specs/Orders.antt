-- The refusals of each call by their numbers, first to last.
use Rattle.std.specs.Prelude.{◌≡◌, ℕ, Bool, List, [], ◌∷◌, map, Some, Err, Option}
use Rattle.terms.specs.declared.refusal.Refusal.TheVariants.{NoSolution}
use Rattle.terms.specs.Refusals.{number}
use Rattle.meaning.specs.Meaning.{Meaning}
use Rattle.rules.specs.States.{State, voided}
use Rattle.rules.specs.Refusing.{Bar}
use Rattle.rules.specs.Calls.{peel_bars, prune_bars, solve_bars, solve_found, sweep_bars, sweep_found, settle_bars}
use Rattle.rules.specs.Tallies.{Tally, open_bars, close_bars}
use Rattle.rules.specs.Run.{run_bars}

-- the numbers of the bars, first to last
abbrev pub numbers : List Bar → List (Option ℕ)
numbers bars = map (λ b. number b.says) bars

-- after its bars, a solve or sweep without a solution answers 26 and sets void, and only with one is the slip looked at, for 30
pub record Order (M : Meaning) (s : State) (t : Tally) (slip q c w : ℕ) (l lost odds scratch : List ℕ) (k connects : List Bool) : Type 0 where
  pub open_order : numbers (open_bars M t lost odds) ≡ Some 1 ∷ Some 2 ∷ Some 6 ∷ Some 29 ∷ []
  pub peel_order : numbers (peel_bars M s slip c) ≡ Some 2 ∷ Some 26 ∷ Some 20 ∷ Some 30 ∷ []
  pub prune_order : numbers (prune_bars M s slip q l) ≡ Some 1 ∷ Some 3 ∷ Some 4 ∷ Some 26 ∷ Some 22 ∷ Some 23 ∷ Some 30 ∷ []
  pub solve_order : numbers (solve_bars M s q scratch k connects) ≡ Some 1 ∷ Some 5 ∷ Some 12 ∷ Some 26 ∷ Some 21 ∷ Some 24 ∷ Some 25 ∷ []
  pub solve_void : (isFree : Bool) → solve_found M s slip k connects isFree [] ≡ (Err NoSolution, voided s)
  pub sweep_order : numbers (sweep_bars s) ≡ Some 26 ∷ Some 21 ∷ Some 25 ∷ []
  pub sweep_void : sweep_found M s slip [] ≡ (Err NoSolution, voided s)
  pub settle_order : numbers (settle_bars s slip) ≡ Some 26 ∷ Some 27 ∷ Some 28 ∷ Some 30 ∷ []
  pub run_order : numbers (run_bars M s slip w scratch) ≡ Some 5 ∷ Some 7 ∷ Some 12 ∷ Some 30 ∷ []
  pub close_order : numbers (close_bars s slip t) ≡ Some 30 ∷ Some 30 ∷ []

abbrev pub Ordered : Type 0
Ordered = (M : Meaning) (s : State) (t : Tally) (slip q c w : ℕ) (l lost odds scratch : List ℕ) (k connects : List Bool) → Order M s t slip q c w l lost odds scratch k connects

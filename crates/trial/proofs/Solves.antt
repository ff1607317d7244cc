-- A solve, by the way it goes.
use Rattle.std.proofs.Common.{◌≡◌, ℕ, ◌≤◌, Bool, true, false, cond, not, eqb, List, [], ◌∷◌, length, vec_items, Some, None, Option, Ok, Err, Result, sym, refl, ap, ◌∙◌, subst, arith}
use Rattle.terms.specs.declared.refusal.Refusal.{Refusal}
use Rattle.terms.specs.declared.refusal.Refusal.TheVariants.{NoSolution, WrongSlip}
use Rattle.terms.specs.Answering.{Answers}
use Rattle.terms.proofs.Answering.{answered_ok, answered_err}
use Rattle.sets.specs.Sets.{has, size, lowest}
use Rattle.meaning.specs.Meaning.{Meaning, qubits}
use Rattle.rules.specs.declared.answers.Cluster.{Cluster}
use Rattle.rules.specs.declared.answers.Cluster.TheVariants.{Shelved, Flipped}
use Rattle.rules.specs.States.{State, voided, shelve}
use Rattle.rules.specs.Clusters.{cluster, internal, free}
use Rattle.rules.specs.Systems.{slack}
use Rattle.rules.specs.Moves.{solve_from, connects}
use Rattle.rules.specs.Refusing.{wrong_slip, bar}
use Rattle.rules.specs.Calls.{solve_bars, solve_found, solve, choose}
use Rattle.rules.proofs.Bars.{passed}
use Rattle.rules.proofs.Cluster.{cluster_long, cluster_erased}
use Rattle.rules.proofs.Counts.{slack_below}
use Rattle.table.specs.Stands.{table_sound}
use Rattle.systems.specs.declared.System.{System}
use Rattle.walking.specs.Walked.{Findings}
use Rattle.upkeep.proofs.Faults.{fault_some, fault_none, fault_at}
use Rattle.trial.specs.Clusters.{StandsOn, FoundBy, solve_fault}
use Rattle.trial.specs.Seen.{standing_of}
use Rattle.trial.specs.declared.trial.Trial.TheInside.{Inside}
use Rattle.trial.specs.declared.trial.finding.Finding.{Finding}
use Rattle.trial.proofs.Done.{code_of}

module _ (M : Meaning) (s : State) (slip q : ℕ) (scratch : List ℕ) where
  abbrev Answer : Type 0
  Answer = Result Cluster Refusal × State × List ℕ

  abbrev K : List Bool
  K = cluster M s q

  abbrev C : List Bool
  C = connects M s q

  abbrev solved : List (List Bool) → Result Cluster Refusal × State
  solved found = solve_found M s slip K C (free M s K C) found

  abbrev beside : Result Cluster Refusal × State → Answer
  beside r = (r.0, r.1, scratch)

  pub barred : (f : Refusal) → Some f ≡ solve_fault M s q scratch → ◌≡◌ {A = Answer} (Err f, s, scratch) (solve M s slip q scratch)
  barred f e = ap beside (sym (fault_some s (solved (solve_from M s q)) (solve_bars M s q scratch K C) f e))

  module _ (clear : None ≡ solve_fault M s q scratch) where
    through : (found : List (List Bool)) → solve_from M s q ≡ found → beside (solved found) ≡ solve M s slip q scratch
    through found e = ap beside (sym (fault_none s (solved (solve_from M s q)) (solve_bars M s q scratch K C) clear ∙ ap solved e))

    pub of_none : solve_from M s q ≡ [] → ◌≡◌ {A = Answer} (Err NoSolution, voided s, scratch) (solve M s slip q scratch)
    of_none e = through [] e

    module _ (z : List Bool) (others : List (List Bool)) (found : solve_from M s q ≡ z ∷ others) where
      abbrev right : Bool → Result Cluster Refusal × State
      right b = cond b (Ok Shelved, shelve K (lowest C) s) (Ok Flipped, choose M K z (z ∷ others) s)

      pub of_wrong : eqb slip s.number ≡ false → ◌≡◌ {A = Answer} (Err WrongSlip, s, scratch) (solve M s slip q scratch)
      of_wrong e =
          ap beside (sym (fault_some s (right (free M s K C)) (wrong_slip s slip ∷ []) WrongSlip (fault_at 0 (wrong_slip s slip ∷ []) (bar true NoSolution) (omega arith) tt (ap not e)))) ∙ through (z ∷ others) found

      module _ (shown : eqb slip s.number ≡ true) where
        goes : (b : Bool) → free M s K C ≡ b → beside (right b) ≡ solve M s slip q scratch
        goes b e = ap (λ t. beside (right t)) (sym e) ∙ ap beside (sym (passed (wrong_slip s slip ∷ []) s (right (free M s K C)) (ap not shown, tt))) ∙ through (z ∷ others) found

        pub of_shelved : (c : ℕ) → lowest C ≡ c → free M s K C ≡ true → ◌≡◌ {A = Answer} (Ok Shelved, shelve K c s, scratch) (solve M s slip q scratch)
        of_shelved c e f = ap (λ k. (Ok Shelved, shelve K k s, scratch)) (sym e) ∙ goes true f

        pub of_flipped : free M s K C ≡ false → ◌≡◌ {A = Answer} (Ok Flipped, choose M K z (solve_from M s q) s, scratch) (solve M s slip q scratch)
        of_flipped f = ap (λ l. (Ok Flipped, choose M K z l s, scratch)) found ∙ goes false f

-- what is known once something was found in the trial t
module _ (t : Inside) (q : ℕ) (scratch : List ℕ) (w : Findings) (e : System) where
  abbrev M : Meaning
  M = code_of t.board

  abbrev s : State
  s = (standing_of t).state

  stands : (shut : List Bool) → shut ≡ vec_items t.closed → t.void ≡ false → StandsOn t.board shut s
  stands shut is live = record { erased = refl; closed = sym is; odds = refl; live = live }

  module _ (shut : List Bool) (is : shut ≡ vec_items t.closed) (live : t.void ≡ false) where
    pub refused : (f : Refusal) → ((r : State) → StandsOn t.board shut r → Answers (Err f) (solve_fault M r q scratch) (FoundBy w e M r q)) → Some f ≡ solve_fault M s q scratch
    refused f h = sym (answered_err f (solve_fault M s q scratch) (FoundBy w e M s q) (h s (stands shut is live)))

    pub taken : (o p : Option Finding) → o ≡ p → ((r : State) → StandsOn t.board shut r → Answers (Ok o) (solve_fault M r q scratch) (FoundBy w e M r q))
        → (None ≡ solve_fault M s q scratch) × FoundBy w e M s q p
    taken o p same h =
        let a = answered_ok o (solve_fault M s q scratch) (FoundBy w e M s q) (h s (stands shut is live)) in
        (sym a.0, subst (λ (x : Option Finding). FoundBy w e M s q x) same a.1)

  -- the cluster of an erased qubit
  module _ (start : has s.erased q ≡ true) where
    pub long_cluster : length (cluster M s q) ≡ qubits M
    long_cluster = cluster_long M (table_sound t.board.erasures.table.now) s t.sized.erased q start

    pub erased_cluster : (i : ℕ) → has (cluster M s q) i ≡ true → has s.erased i ≡ true
    erased_cluster = cluster_erased M (table_sound t.board.erasures.table.now) s t.sized.erased q start

    pub slack_fits : (c : ℕ) → slack (solve_from M s q) ≡ c → c ≤ size (cluster M s q)
    slack_fits c e = omega (arith, slack_below M.checks (cluster M s q) (internal M s q (cluster M s q)) s.odds, e)

-- Clusters that a solve is refused in for several connecting checks or too many unknowns.
use Rattle.std.proofs.Common.{◌≡◌, ℕ, ◌<◌, Bool, true, false, cond, not, ◌&&◌, ltb, List, length, Some, None, Option, Err, Result, sym, refl, ap, ap₂, ◌∙◌, ◌⊎◌, take, drop, arith}
use Rattle.std.proofs.lemmas.Bool.{and_from, or_cases}
use Rattle.terms.specs.declared.refusal.Refusal.{Refusal}
use Rattle.terms.specs.declared.refusal.Refusal.TheVariants.{QubitTooLarge, BufferTooShort, ScratchNotZero, SeveralConnecting, TooManyUnknowns, NoSolution}
use Rattle.terms.specs.Refusals.{number}
use Rattle.sets.specs.Sets.{has, size, among}
use Rattle.sets.proofs.Bits.{clash}
use Rattle.sets.proofs.Sets.{has_below}
use Rattle.sets.proofs.Numbers.{length_elements}
use Rattle.meaning.specs.Meaning.{Meaning, Sound, qubits}
use Rattle.rules.specs.declared.answers.Cluster.{Cluster}
use Rattle.rules.specs.States.{State}
use Rattle.rules.specs.Clusters.{cluster, connecting, internal, free}
use Rattle.rules.specs.Systems.{solutions}
use Rattle.rules.specs.Refusing.{unless, some_nonzero}
use Rattle.rules.specs.Calls.{solve_bars, solve_found, solve}
use Rattle.rules.specs.Run.{is24or25, passed_over, can_solve}
use Rattle.running.specs.Solving.{of_some, solve_at}
use Rattle.running.proofs.Passing.{found_passes, one_solve, member_erased}
use Rattle.elimination.specs.Calls.{too_many}
use Rattle.upkeep.specs.Changed.{marked}
use Rattle.upkeep.proofs.Changed.{length_changed, marked_at}
use Rattle.upkeep.proofs.Faults.{fault_some, fault_none}
use Rattle.walking.specs.Walked.{Findings}
use Rattle.walking.specs.declared.found.Connecting.{Connecting}
use Rattle.walking.specs.declared.found.Connecting.TheVariants.{Several}
use Rattle.trial.specs.Clusters.{solve_fault}
use Rattle.trial.proofs.Clusters.{WentIn, is_several, rest}

-- whether a fault is that there are several connecting checks or too many unknowns
abbrev passes_by : Option Refusal → Bool
passes_by None = false
passes_by (Some f) = is24or25 (number f)

module _ (M : Meaning) (s : State) (slip q : ℕ) (scratch : List ℕ) where
  pub by_fault : (o : Option Refusal) → o ≡ solve_fault M s q scratch → passed_over (solve M s slip q scratch).0 ≡ passes_by o
  by_fault o e = go o e
    where
      k : List Bool
      k = cluster M s q

      c : List Bool
      c = connecting M s q k

      after : Result Cluster Refusal × State
      after = solve_found M s slip k c (free M s k c) (solutions M.checks k (internal M s q k) s.odds)

      go : (o : Option Refusal) → o ≡ solve_fault M s q scratch → passed_over (solve M s slip q scratch).0 ≡ passes_by o
      go None e = ap (λ (r : Result Cluster Refusal × State). passed_over r.0) (fault_none s after (solve_bars M s q scratch k c) e) ∙ found_passes M s slip k c (free M s k c) (solutions M.checks k (internal M s q k) s.odds)
      go (Some f) e = ap (λ (r : Result Cluster Refusal × State). passed_over r.0) (fault_some s after (solve_bars M s q scratch k c) f e)

  -- by what a walk told
  module _ (c : Connecting) (w : Findings) (h : WentIn M s q scratch c w) (low : q < qubits M) (live : s.void ≡ false) where
    pub several_passes : c ≡ Several → true ≡ passed_over (solve M s slip q scratch).0
    several_passes is = sym (by_fault (Some SeveralConnecting) (is_several M s q scratch c w h low live is))

    pub few_pass : (c ≡ Several → ⊥) → (l : List ℕ) → l ≡ w.members → ltb 256 (length l) ≡ passed_over (solve M s slip q scratch).0
    few_pass other l is =
        let n : length l ≡ size (cluster M s q) = ap (λ (x : List ℕ). length x) (is ∙ h.members) ∙ length_elements 0 (cluster M s q) in
        ap (ltb 256) n ∙ sym (by_fault (too_many (size (cluster M s q))) (sym (rest M s q scratch c w h low live other)) ∙ large (ltb 256 (size (cluster M s q))))
      where
        large : (b : Bool) → passes_by (cond b (Some TooManyUnknowns) None) ≡ b
        large true = refl
        large false = refl

-- a void trial is refused at none
pub void_passes : (M : Meaning) (s : State) (slip q : ℕ) (scratch : List ℕ) → s.void ≡ true → passed_over (solve M s slip q scratch).0 ≡ false
void_passes M s slip q scratch v =
    go (not (ltb q (qubits M))) (ltb (length scratch) (qubits M)) (some_nonzero (take (qubits M) scratch)) s.void v
  where
    k : List Bool
    k = cluster M s q

    c : List Bool
    c = connecting M s q k

    rest_of : Result Cluster Refusal × State
    rest_of = unless (drop 4 (solve_bars M s q scratch k c)) s (solve_found M s slip k c (free M s k c) (solutions M.checks k (internal M s q k) s.odds))

    go : (a b d v : Bool) → v ≡ true → passed_over (cond {A = Result Cluster Refusal × State} a (Err QubitTooLarge, s) (cond b (Err BufferTooShort, s) (cond d (Err ScratchNotZero, s) (cond v (Err NoSolution, s) rest_of)))).0 ≡ false
    go true b d v e = refl
    go false true d v e = refl
    go false false true v e = refl
    go false false false true e = refl
    go false false false false e = absurd (clash e refl)

module _ (M : Meaning) (s : State) (scratch : List ℕ) (q : ℕ) where
  pub wanted_here : has s.erased q ≡ true → passed_over (solve M s s.number q scratch).0 ≡ false → can_solve M scratch s q ≡ true
  wanted_here e p = and_from _ _ e (ap not p)

  pub not_erased : has s.erased q ≡ false → can_solve M scratch s q ≡ false
  not_erased e = ap (λ b. b && not (passed_over (solve M s s.number q scratch).0)) e

  pub passed_by : has s.erased q ≡ true → passed_over (solve M s s.number q scratch).0 ≡ true → can_solve M scratch s q ≡ false
  passed_by e p = ap₂ (λ a b. a && not b) e p

  -- one of the cluster of a qubit that is passed over is passed over
  pub passed_with : Sound M → length s.erased ≡ qubits M → has s.erased q ≡ true → passed_over (solve M s s.number q scratch).0 ≡ true → (j : ℕ) → has (cluster M s q) j ≡ true → can_solve M scratch s j ≡ false
  passed_with sound long e p j h =
      ap₂ (λ a b. a && not b) (member_erased M s sound long q e j h) (ap (λ (r : Result Cluster Refusal × State). passed_over r.0) (one_solve M s sound long q e j h s.number scratch) ∙ p)

-- a qubit that is marked now was marked, or is one of the list
pub marked_or_in : (l : List ℕ) (m : List Bool) (j : ℕ) → has (marked l m) j ≡ true → (among j l ≡ true) ⊎ (has m j ≡ true)
marked_or_in l m j h =
    let low : j < length m = omega (arith, has_below (marked l m) j h, length_changed false (λ _. true) l m) in
    or_cases (among j l) (has m j) (sym (marked_at l m j low) ∙ h)

-- a solve at the qubit that was found
pub solved_at : (M : Meaning) (s : State) (slip : ℕ) (scratch : List ℕ) (o : Option ℕ) (q : ℕ) → Some q ≡ o → (r : Result Cluster Refusal) (t : State) (y : List ℕ) → (r, t, y) ≡ solve M s slip q scratch
    → (of_some r, t, y) ≡ solve_at M s slip scratch o
solved_at M s slip scratch o q e r t y is = ap (λ (x : Result Cluster Refusal × State × List ℕ). (of_some x.0, x.1, x.2)) is ∙ ap (solve_at M s slip scratch) e

-- A sweep, by the way it goes.
use Rattle.std.proofs.Common.{◌≡◌, ℕ, ◌+◌, ◌<◌, Bool, true, false, cond, not, ◌||◌, eqb, ltb, List, [], ◌∷◌, length, Option, Some, None, Ok, Err, Result, sym, refl, ap, ap₂, ◌∙◌, subst, inl, inr, arith, eqb-true, lt-ltb}
use borrow.Author.Tests.{eqb-false}
use Rattle.terms.specs.Answering.{Answers}
use Rattle.terms.specs.declared.refusal.Refusal.{Refusal}
use Rattle.terms.specs.declared.refusal.Refusal.TheVariants.{NoSolution, NothingErased, TooManyUnknowns, WrongSlip}
use Rattle.sets.specs.Lists.{In}
use Rattle.sets.specs.Sets.{any, size, elements, less, holders}
use Rattle.sets.proofs.Numbers.{length_elements, element_has}
use Rattle.sets.proofs.Sets.{any_some, has_below}
use Rattle.sets.proofs.Sizes.{size_zero, size_some}
use Rattle.meaning.specs.Meaning.{Meaning}
use Rattle.systems.specs.declared.System.{System}
use Rattle.systems.specs.Stated.{unknowns_of, least_of}
use Rattle.systems.specs.Told.{Found, spread}
use Rattle.trial.specs.Solving.{SolvedOver}
use Rattle.elimination.specs.Calls.{too_many}
use Rattle.rules.specs.Reports.{some_past}
use Rattle.rules.specs.Systems.{solutions, slack}
use Rattle.rules.specs.States.{State, voided, finish, count}
use Rattle.rules.specs.Moves.{sweep_from}
use Rattle.rules.specs.Refusing.{wrong_slip, bar}
use Rattle.rules.specs.Calls.{sweep_bars, sweep_found, sweep, choose}
use Rattle.rules.proofs.Bars.{passed}
use Rattle.upkeep.specs.Fault.{fault}
use Rattle.upkeep.proofs.Every.{count_chosen}
use Rattle.upkeep.proofs.Finish.{with_counts}
use Rattle.upkeep.proofs.Faults.{fault_some, fault_at}

module _ (M : Meaning) (s : State) (slip : ℕ) where
  abbrev Answer : Type 0
  Answer = Result (Unit {0}) Refusal × State

  barred : (f : Refusal) → Some f ≡ fault (sweep_bars s) → ◌≡◌ {A = Answer} (Err f, s) (sweep M s slip)
  barred f e = sym (fault_some s (sweep_found M s slip (sweep_from M s)) (sweep_bars s) f e)

  pub of_void : s.void ≡ true → ◌≡◌ {A = Answer} (Err NoSolution, s) (sweep M s slip)
  of_void v = barred NoSolution (fault_at 0 (sweep_bars s) (bar true NoSolution) (omega arith) tt v)

  module _ (live : s.void ≡ false) where
    pub of_nothing : any s.erased ≡ false → ◌≡◌ {A = Answer} (Err NothingErased, s) (sweep M s slip)
    of_nothing e = barred NothingErased (fault_at 1 (sweep_bars s) (bar true NoSolution) (omega arith) (live, tt) (ap not e))

    module _ (some : any s.erased ≡ true) where
      pub of_many : ltb 256 (size s.erased) ≡ true → ◌≡◌ {A = Answer} (Err TooManyUnknowns, s) (sweep M s slip)
      of_many e = barred TooManyUnknowns (fault_at 2 (sweep_bars s) (bar true NoSolution) (omega arith) (live, (ap not some, tt)) e)

      module _ (few : ltb 256 (size s.erased) ≡ false) where
        through : sweep_found M s slip (sweep_from M s) ≡ sweep M s slip
        through = sym (passed (sweep_bars s) s (sweep_found M s slip (sweep_from M s)) (live, (ap not some, (few, tt))))

        pub of_none : sweep_from M s ≡ [] → ◌≡◌ {A = Answer} (Err NoSolution, voided s) (sweep M s slip)
        of_none e = sym (ap (sweep_found M s slip) e) ∙ through

        module _ (z : List Bool) (others : List (List Bool)) (found : sweep_from M s ≡ z ∷ others) where
          pub of_wrong : eqb slip s.number ≡ false → ◌≡◌ {A = Answer} (Err WrongSlip, s) (sweep M s slip)
          of_wrong e = sym (ap (sweep_found M s slip) found ∙ fault_some s (Ok tt, choose M s.erased z (z ∷ others) s) (wrong_slip s slip ∷ []) WrongSlip (fault_at 0 (wrong_slip s slip ∷ []) (bar true NoSolution) (omega arith) tt (ap not e))) ∙ through

          pub of_right : eqb slip s.number ≡ true → ◌≡◌ {A = Answer} (Ok tt, choose M s.erased z (sweep_from M s) s) (sweep M s slip)
          of_right e = ap (λ l. (Ok tt, choose M s.erased z l s)) found ∙ sym (ap (sweep_found M s slip) found ∙ passed (wrong_slip s slip ∷ []) s (Ok tt, choose M s.erased z (z ∷ others) s) (ap not e, tt)) ∙ through

-- a set by the list of its elements
module _ (k : List Bool) (l : List ℕ) (is : elements k ≡ l) where
  pub as_many : length l ≡ size k
  as_many = ap length (sym is) ∙ length_elements 0 k

  pub any_listed : eqb (length l) 0 ≡ false → any k ≡ true
  any_listed e = go (any k) refl
    where
      go : (t : Bool) → any k ≡ t → t ≡ true
      go true h = refl
      go false h = absurd (eqb-false (length l) 0 e (let none : length l ≡ 0 = omega (arith, size_zero k h, as_many) in none))

  pub none_listed : eqb (length l) 0 ≡ true → any k ≡ false
  none_listed e = go (any k) refl
    where
      go : (t : Bool) → any k ≡ t → t ≡ false
      go false h = refl
      go true h = let q = any_some k h in absurd (omega (arith, size_some k q.0 q.1, as_many, eqb-true (length l) 0 e))

  pub none_past : (n : ℕ) → length k ≡ n → some_past n l ≡ false
  none_past n e = low l (λ q m. omega (arith, has_below k q (element_has k q (subst (λ (t : List ℕ). In q t) (sym is) m)), e))
    where
      low : (l : List ℕ) → ((q : ℕ) → In q l → q < n) → some_past n l ≡ false
      low [] h = refl
      low (q ∷ l) h = ap (λ b. not b || some_past n l) (lt-ltb q n (h q (inl refl))) ∙ low l (λ p m. h p (inr m))

-- a system over so many unknowns is refused, or taken
pub refused : {X : Type 0} (n : ℕ) (e : Refusal) (P : X → Type 0) → Answers (Err e) (too_many n) P → (ltb 256 n ≡ true) × (e ≡ TooManyUnknowns)
refused {X} n e P = go (ltb 256 n) refl
  where
    go : (b : Bool) → ltb 256 n ≡ b → Answers {X = X} (Err e) (cond b (Some TooManyUnknowns) None) P → (b ≡ true) × (e ≡ TooManyUnknowns)
    go true h a = (refl, a)
    go false h a = absurd a

pub taken : {X : Type 0} (n : ℕ) (x : X) (P : X → Type 0) → Answers (Ok x) (too_many n) P → (ltb 256 n ≡ false) × P x
taken {X} n x P = go (ltb 256 n) refl
  where
    go : (b : Bool) → ltb 256 n ≡ b → Answers {X = X} (Ok x) (cond b (Some TooManyUnknowns) None) P → (b ≡ false) × P x
    go true h a = absurd a
    go false h a = (refl, a)

-- what is left by finishing what a solution of k says, and counting the slack, is what choosing it leaves
pub chooses : (M : Meaning) (k z : List Bool) (found : List (List Bool)) (s u : State) (c : ℕ) → slack found ≡ c → u ≡ finish M k z s → with_counts u u.peeled u.pruned (u.chosen + c) ≡ choose M k z found s
chooses M k z found s u c many done = count_chosen u c ∙ ap (count 0 0 c) done ∙ ap (λ n. count 0 0 n (finish M k z s)) (sym many)

-- what is known of a system that was solved for the erased qubits
pub record Solved (M : Meaning) (s : State) (e : System) (o : Option ℕ) : Type 0 where
  pub few : ltb 256 (size s.erased) ≡ false
  pub unknowns : elements s.erased ≡ unknowns_of e
  pub found : Found (sweep_from M s) o (spread s.erased (least_of e))

module _ (M : Meaning) (s : State) (l : List ℕ) (closed odd : List Bool) (is : elements s.erased ≡ l) (closed_is : closed ≡ s.closed) (odd_is : odd ≡ s.odds) (lc : length s.closed ≡ length M.checks) (lo : length s.odds ≡ length M.checks) (e : System) where
  abbrev Says : Result (Option ℕ) Refusal → Type 0
  Says r = (k : List Bool) → elements k ≡ l → length closed ≡ length M.checks → length odd ≡ length M.checks
      → Answers r (too_many (length l)) (λ o. SolvedOver e k (solutions M.checks k (less (holders M.checks k) closed) odd) o)

  pub solved : (o : Option ℕ) → Says (Ok o) → Solved M s e o
  solved o says =
      let t = taken (length l) o _ (says s.erased is (ap length closed_is ∙ lc) (ap length odd_is ∙ lo)) in
      record {
        few = ap (ltb 256) (sym (as_many s.erased l is)) ∙ t.0;
        unknowns = t.1.0;
        found = subst (λ (f : List (List Bool)). Found f o (spread s.erased (least_of e))) (ap₂ (λ x y. solutions M.checks s.erased (less (holders M.checks s.erased) x) y) closed_is odd_is) t.1.1;
      }

  pub unsolved : (f : Refusal) → Says (Err f) → (ltb 256 (size s.erased) ≡ true) × (f ≡ TooManyUnknowns)
  unsolved f says =
      let r = refused (length l) f _ (says s.erased is (ap length closed_is ∙ lc) (ap length odd_is ∙ lo)) in
      (ap (ltb 256) (sym (as_many s.erased l is)) ∙ r.0, r.1)

pub no_slack : (o : Option ℕ) → ((n : ℕ) → o ≡ Some n → ⊥) → o ≡ None
no_slack None h = refl
no_slack (Some n) h = absurd (h n refl)

-- What the first qubit of a row in a set, and all of them in it, say of the row's own set.
use Rattle.std.proofs.Common.{◌≡◌, ℕ, Bool, true, false, cond, eqb, ◌⊎◌, List, [], ◌∷◌, length, Some, None, sym, refl, ap, ◌∙◌, inl, inr, eqb-true}
use Rattle.std.proofs.lemmas.Bool.{and_parts, and_from, or_left, or_right, or_cases}
use Rattle.sets.specs.Sets.{has, among, within}
use Rattle.sets.proofs.Bits.{same, clash}
use Rattle.sets.proofs.Numbers.{eqb_same}
use Rattle.sets.proofs.Sets.{within_has, has_within}
use Rattle.upkeep.specs.Rows.{first_in, all_in}
use Rattle.upkeep.proofs.Faults.{not_some, not_none}

-- the first is one of the row and in the set
pub first_in_lem : (m : List Bool) (row : List ℕ) (q : ℕ) → Some q ≡ first_in m row → (among q row ≡ true) × (has m q ≡ true)
first_in_lem m [] q e = not_some q e
first_in_lem m (k ∷ row) q e = go (has m k) refl e (first_in_lem m row q)
  where
    go : (t : Bool) → has m k ≡ t → Some q ≡ cond t (Some k) (first_in m row) → (Some q ≡ first_in m row → (among q row ≡ true) × (has m q ≡ true)) → (among q (k ∷ row) ≡ true) × (has m q ≡ true)
    go true h x ih = let s : q ≡ k = cc in (or_left (eqb q k) (among q row) (ap (λ i. eqb i k) s ∙ eqb_same k), ap (has m) s ∙ h)
    go false h x ih = let r = ih x in (or_right (eqb q k) (among q row) r.0, r.1)

-- without one, none of the row is in the set
pub none_in : (m : List Bool) (row : List ℕ) → None ≡ first_in m row → (q : ℕ) → among q row ≡ true → has m q ≡ false
none_in m [] e q h = absurd (clash h refl)
none_in m (k ∷ row) e q h = go (has m k) refl e (λ x. none_in m row x q) (or_cases (eqb q k) (among q row) h)
  where
    go : (t : Bool) → has m k ≡ t → None ≡ cond t (Some k) (first_in m row) → (None ≡ first_in m row → among q row ≡ true → has m q ≡ false) → (eqb q k ≡ true) ⊎ (among q row ≡ true) → has m q ≡ false
    go true t x ih c = not_none k x
    go false t x ih (inl e) = ap (has m) (eqb-true q k e) ∙ t
    go false t x ih (inr a) = ih x a

all_in_lem : (m : List Bool) (row : List ℕ) → all_in m row ≡ true → (q : ℕ) → among q row ≡ true → has m q ≡ true
all_in_lem m [] e q h = absurd (clash h refl)
all_in_lem m (k ∷ row) e q h = let b = and_parts (has m k) (all_in m row) e in go b (λ x. all_in_lem m row b.1 q x) (or_cases (eqb q k) (among q row) h)
  where
    go : (has m k ≡ true) × (all_in m row ≡ true) → (among q row ≡ true → has m q ≡ true) → (eqb q k ≡ true) ⊎ (among q row ≡ true) → has m q ≡ true
    go b ih (inl e) = ap (has m) (eqb-true q k e) ∙ b.0
    go b ih (inr a) = ih a

in_all : (m : List Bool) (row : List ℕ) → ((q : ℕ) → among q row ≡ true → has m q ≡ true) → all_in m row ≡ true
in_all m [] f = refl
in_all m (k ∷ row) f = and_from _ _ (f k (or_left (eqb k k) (among k row) (eqb_same k))) (in_all m row (λ q h. f q (or_right (eqb q k) (among q row) h)))

-- all qubits of a row that is told whole lie in m exactly if its set does
pub all_within : (m set : List Bool) (row : List ℕ) → length set ≡ length m → ((q : ℕ) → among q row ≡ has set q) → all_in m row ≡ within set m
all_within m set row long names =
    same (all_in m row) (within set m)
    (λ h. has_within set m long (λ q s. all_in_lem m row h q (names q ∙ s)))
    (λ h. in_all m row (λ q a. within_has set m h q (sym (names q) ∙ a)))

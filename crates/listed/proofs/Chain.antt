-- The first fault, by the tests in their order.
use Rattle.std.proofs.Common.{◌≡◌, ℕ, zero, suc, Bool, true, false, cond, ◌||◌, ltb, List, [], ◌∷◌, ◌++◌, map, length, Ok, is_err, Some, None, Option, sym, refl, ap, ◌∙◌, arith, lt-ltb}
use Rattle.std.specs.List.{list_any}
use Rattle.std.proofs.Math.Bool.{or_assoc}
use Rattle.std.proofs.lemmas.Bool.{cond-true, cond-false, or_parts}
use Rattle.terms.specs.declared.refusal.Refusal.{Refusal}
use Rattle.terms.specs.declared.refusal.Refusal.TheVariants.{OutsideLimits, QubitTooLarge, NotRising, LawFails}
use Rattle.terms.specs.Answering.{checked}
use Rattle.terms.specs.Rows.{side_numbered}
use Rattle.sets.specs.Sets.{any, repeats}
use Rattle.listed.specs.Fault.{too_long, too_large, some_row, wrong_sizes, outside_limits, law_fails, listed_fault}
use Rattle.listed.specs.Shares.{shares_odd, shares_odd_with}
use Rattle.listed.specs.Sound.{names}
use Rattle.listed.proofs.Shares.{law_fails_lem}

-- tests as the library makes them
module _ {X : Type 0} (p : X → Bool) where
  pub any_is : (xs : List X) → list_any p xs ≡ any (map p xs)
  any_is [] = refl
  any_is (x ∷ xs) = ap (λ b. p x || b) (any_is xs)

  both_are : (xs ys : List X) → list_any p (xs ++ ys) ≡ (any (map p xs) || any (map p ys))
  both_are [] ys = any_is ys
  both_are (x ∷ xs) ys = ap (λ b. p x || b) (both_are xs ys) ∙ sym (or_assoc (p x) (any (map p xs)) (any (map p ys)))

unsided_are : (sides : List ℕ) → list_any (λ n. is_err (side_numbered n)) sides ≡ any (map (ltb 1) sides)
unsided_are [] = refl
unsided_are (zero ∷ sides) = unsided_are sides
unsided_are (suc zero ∷ sides) = unsided_are sides
unsided_are (suc (suc n) ∷ sides) = sym (ap (λ b. b || any (map (ltb 1) sides)) (lt-ltb 1 (suc (suc n)) (omega arith)))

pub checked_ok : (o : Option Refusal) → Ok tt ≡ checked o → o ≡ None
checked_ok None e = refl
checked_ok (Some f) e = grind arith

-- a test that is true ends the chain, and one that is false passes it on
stops : (b c : Bool) (e : Refusal) (o : Option Refusal) → c ≡ b → true ≡ c → Some e ≡ cond b (Some e) o
stops b c e o h k = sym (cond-true b (Some e) o (sym h ∙ sym k))

passes : (b c : Bool) (e : Refusal) (r o : Option Refusal) → c ≡ b → false ≡ c → r ≡ o → r ≡ cond b (Some e) o
passes b c e r o h l k = k ∙ sym (cond-false b (Some e) o (sym h ∙ sym l))

module _ (checks generators : List (List ℕ)) (sides : List ℕ) where
  abbrev pub limits_told : Bool
  limits_told = wrong_sizes (length checks) (length generators) (length sides) || list_any too_long (checks ++ generators) || list_any (λ n. is_err (side_numbered n)) sides

  pub limits_are : limits_told ≡ outside_limits checks generators sides
  unfolding outside_limits
  limits_are = λ i. wrong_sizes (length checks) (length generators) (length sides) || both_are too_long checks generators i || unsided_are sides i

  abbrev low_told : Bool
  low_told = list_any (too_large (length sides)) (checks ++ generators)

  low_are : low_told ≡ some_row (too_large (length sides)) checks generators
  low_are = both_are (too_large (length sides)) checks generators

  abbrev once_told : Bool
  once_told = list_any repeats (checks ++ generators)

  once_are : once_told ≡ some_row repeats checks generators
  once_are = both_are repeats checks generators

  abbrev law_told : Bool
  law_told = list_any (λ c. list_any (shares_odd c) generators) checks

  -- counted place by place, the law fails exactly if it does in the meaning
  law_are : false ≡ low_told → false ≡ once_told → law_told ≡ law_fails (length sides) checks generators
  law_are l o =
      let a = or_parts _ _ (sym low_are ∙ sym l) in
      let b = or_parts _ _ (sym once_are ∙ sym o) in
      (λ i. list_any (λ c. any_is (shares_odd c) generators i) checks)
      ∙ any_is (shares_odd_with generators) checks
      ∙ law_fails_lem (length sides) checks generators (names sides checks a.0 b.0) (names sides generators a.1 b.1)

  pub fault_limits : true ≡ outside_limits checks generators sides → Some OutsideLimits ≡ listed_fault checks generators sides
  unfolding listed_fault
  fault_limits h = stops _ _ _ _ refl h

  module _ (inside : false ≡ outside_limits checks generators sides) where
    pub fault_large : true ≡ low_told → Some QubitTooLarge ≡ listed_fault checks generators sides
    unfolding listed_fault
    fault_large h = passes _ _ _ _ _ refl inside (stops _ _ _ _ low_are h)

    module _ (low : false ≡ low_told) where
      pub fault_twice : true ≡ once_told → Some NotRising ≡ listed_fault checks generators sides
      unfolding listed_fault
      fault_twice h = passes _ _ _ _ _ refl inside (passes _ _ _ _ _ low_are low (stops _ _ _ _ once_are h))

      module _ (once : false ≡ once_told) where
        pub fault_law : true ≡ law_told → Some LawFails ≡ listed_fault checks generators sides
        unfolding listed_fault
        fault_law h = passes _ _ _ _ _ refl inside (passes _ _ _ _ _ low_are low (passes _ _ _ _ _ once_are once (stops _ _ _ _ (law_are low once) h)))

        pub fault_none : false ≡ law_told → None ≡ listed_fault checks generators sides
        unfolding listed_fault
        fault_none h = passes _ _ _ _ _ refl inside (passes _ _ _ _ _ low_are low (passes _ _ _ _ _ once_are once (passes _ _ _ _ _ (law_are low once) h refl)))

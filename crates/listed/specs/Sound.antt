-- A code whose tables have no fault is sound, and tells its rows whole. (The code's ghost members cite these proofs.)
use Rattle.std.specs.Prelude.{◌≡◌, ℕ, ◌≤◌, false, List, map, length, is_some, Some, None, vec_items, Option, nat_eq, nat_le, nat_lt, refl}
use Rattle.std.proofs.Common.{sym, subst, arith}
use Rattle.std.proofs.lemmas.List.{length-map}
use borrow.Author.Tests.{eqb-false, ltb-false}
use Rattle.std.proofs.lemmas.Bool.{leb-false, or_parts}
use Rattle.terms.specs.declared.refusal.Refusal.{Refusal}
use Rattle.terms.proofs.Answering.{test_fails}
use Rattle.sets.specs.Lists.{In}
use Rattle.sets.specs.Sets.{marks, any, odd, repeats}
use Rattle.sets.proofs.Any.{any_false}
use Rattle.meaning.specs.Meaning.{Sound}
use Rattle.meaning.specs.Telling.{Tells}
use Rattle.meaning.specs.Listed.{listed_code, listed_told}
use Rattle.meaning.specs.Codes.{Names, Even}
use Rattle.meaning.proofs.Listed.{listed_sound, listed_tells}
use Rattle.listed.specs.declared.Listed.{Listed}
use Rattle.listed.specs.Fault.{too_long, too_large, some_row, outside_limits, law_fails, listed_fault}
use Rattle.listed.specs.OfListed.{sides_of, meaning_of, told_of}

no_fault : (o : Option Refusal) → is_some o ≡ false → o ≡ None
no_fault (Some e) h = grind arith
no_fault None h = refl

-- rows without the two faults of a row
pub names : (sides : List ℕ) (rows : List (List ℕ)) → any (map (too_large (length sides)) rows) ≡ false → any (map repeats rows) ≡ false → Names (length sides) rows
names sides rows low once =
    record {
      low = λ row m q k. leb-false (length sides) q (any_false (nat_le (length sides)) row (any_false (too_large (length sides)) rows low row m) q k);
      once = any_false repeats rows once;
    }

-- what the absence of a fault says
record Clean (checks generators : List (List ℕ)) (sides : List ℕ) : Type 0 where
  pub limits : outside_limits checks generators sides ≡ false
  pub low : some_row (too_large (length sides)) checks generators ≡ false
  pub once : some_row repeats checks generators ≡ false
  pub even : law_fails (length sides) checks generators ≡ false

module _ (checks generators : List (List ℕ)) (sides : List ℕ) where
  clean : is_some (listed_fault checks generators sides) ≡ false → Clean checks generators sides
  unfolding listed_fault
  clean h =
      let a = test_fails _ _ _ (no_fault (listed_fault checks generators sides) h) in
      let b = test_fails _ _ _ a.1 in
      let d = test_fails _ _ _ b.1 in
      let e = test_fails _ _ _ d.1 in
      record { limits = a.0; low = b.0; once = d.0; even = e.0 }

  -- the limits that the tables keep
  pub record Limits : Type 0 where
    pub some : 1 ≤ length sides
    pub few : length sides ≤ 2048
    pub few_checks : length checks ≤ 256
    pub few_generators : length generators ≤ 256
    pub short_checks : (row : List ℕ) → In row checks → length row ≤ 16
    pub short_generators : (row : List ℕ) → In row generators → length row ≤ 16
    pub sided : (side : ℕ) → In side sides → side ≤ 1

  pub limits : is_some (listed_fault checks generators sides) ≡ false → Limits
  unfolding outside_limits
  limits h =
      let a = or_parts _ _ (clean h).limits in
      let b = or_parts _ _ a.0 in
      let d = or_parts _ _ b.0 in
      let e = or_parts _ _ d.0 in
      let f = or_parts _ _ e.0 in
      let g = or_parts _ _ b.1 in
      let z = eqb-false (length sides) 0 f.0 in
      record {
        some = omega (arith, z);
        few = ltb-false 2048 (length sides) f.1;
        few_checks = ltb-false 256 (length checks) e.1;
        few_generators = ltb-false 256 (length generators) d.1;
        short_checks = λ row m. ltb-false 16 (length row) (any_false too_long checks g.0 row m);
        short_generators = λ row m. ltb-false 16 (length row) (any_false too_long generators g.1 row m);
        sided = λ side m. ltb-false 1 side (any_false (nat_lt 1) sides a.1 side m);
      }

  check_names : is_some (listed_fault checks generators sides) ≡ false → Names (length sides) checks
  check_names h = names sides checks (or_parts _ _ (clean h).low).0 (or_parts _ _ (clean h).once).0

  generator_names : is_some (listed_fault checks generators sides) ≡ false → Names (length sides) generators
  generator_names h = names sides generators (or_parts _ _ (clean h).low).1 (or_parts _ _ (clean h).once).1

  evens : is_some (listed_fault checks generators sides) ≡ false → Even (length sides) checks generators
  evens h c g m k =
      let n = length sides in
      any_false (λ g. odd (marks n c) (marks n g)) generators (any_false (λ c. any (map (λ g. odd (marks n c) (marks n g)) generators)) checks (clean h).even c m) g k

  long : length (sides_of sides) ≡ length sides
  long = length-map sides (λ b. nat_eq b 1)

  fault_sound : is_some (listed_fault checks generators sides) ≡ false → Sound (listed_code checks generators (sides_of sides))
  fault_sound h =
      let l = limits h in
      listed_sound checks generators (sides_of sides) (omega (arith, long, l.some)) (omega (arith, long, l.few)) (omega (arith, l.few_checks)) (omega (arith, l.few_generators))
      (subst (λ (n : ℕ). Even n checks generators) (sym long) (evens h))

  fault_tells : is_some (listed_fault checks generators sides) ≡ false → Tells (listed_code checks generators (sides_of sides)) (listed_told checks generators)
  fault_tells h =
      listed_tells checks generators (sides_of sides)
      (subst (λ (n : ℕ). Names n checks) (sym long) (check_names h))
      (subst (λ (n : ℕ). Names n generators) (sym long) (generator_names h))

pub sound_of : (c : Listed) → Sound (meaning_of c)
unfolding meaning_of
sound_of c = fault_sound c.checks c.generators (vec_items c.sides) c.ok

pub tells_of : (c : Listed) → Tells (meaning_of c) (told_of c)
unfolding meaning_of told_of
tells_of c = fault_tells c.checks c.generators (vec_items c.sides) c.ok

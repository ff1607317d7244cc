-- Listed codes are sound, and tell their rows whole.
use Rattle.std.proofs.Common.{◌≡◌, ℕ, ◌<◌, Bool, true, false, ltb, List, [], map, length, get_or, sym, ap, ◌∙◌, arith, ltb-true}
use lib.ListN.{length-map}
use Rattle.std.proofs.lemmas.List.{get_or-map}
use Rattle.terms.specs.declared.row.Row.{Row}
use Rattle.terms.specs.declared.row.Row.TheVariants.{Check, Generator}
use Rattle.sets.specs.Lists.{In}
use Rattle.sets.specs.Sets.{has, row, marks, odd, among, repeats}
use Rattle.sets.proofs.Lists.{in_get_or, of_map}
use Rattle.sets.proofs.Marks.{length_marks, has_marks}
use Rattle.meaning.specs.Telling.{is_row, row_set}
use Rattle.meaning.specs.Listed.{listed_code, listed_told}
use Rattle.meaning.specs.Codes.{Names, ListedSound, ListedTells}

range : (n : ℕ) (rows : List (List ℕ)) (s : List Bool) → In s (map (marks n) rows) → length s ≡ n
range n rows s m = let r = of_map (marks n) s rows m in ap length r.2 ∙ length_marks n r.0

pub listed_sound : ListedSound
listed_sound checks generators sides some few few_checks few_generators even =
    let n = length sides in
    record {
      some_qubit = some;
      few_qubits = few;
      few_checks = omega (arith, length-map checks (marks n));
      few_generators = omega (arith, length-map generators (marks n));
      checks_range = range n checks;
      generators_range = range n generators;
      even = λ c g m k.
          let r = of_map (marks n) c checks m in
          let s = of_map (marks n) g generators k in
          ap (λ x. odd x g) r.2 ∙ ap (odd (marks n r.0)) s.2 ∙ even r.0 s.0 r.1 s.1;
    }

module _ (n : ℕ) (rows : List (List ℕ)) (names : Names n rows) (k : ℕ) (has-row : ltb k (length (map (marks n) rows)) ≡ true) where
  row_low : k < length rows
  row_low = omega (arith, ltb-true k _ has-row, length-map rows (marks n))

  row_names : (q : ℕ) → among q (get_or rows k []) ≡ has (row (map (marks n) rows) k) q
  row_names q =
      sym (ap (λ s. has s q) (get_or-map (marks n) rows k [] [] row_low) ∙ has_marks n (get_or rows k []) (names.low (get_or rows k []) (in_get_or rows k [] row_low)) q)

  row_once : repeats (get_or rows k []) ≡ false
  row_once = names.once (get_or rows k []) (in_get_or rows k [] row_low)

module _ (checks generators : List (List ℕ)) (sides : List Bool) (cs : Names (length sides) checks) (gs : Names (length sides) generators) where
  named : (r : Row) → is_row (listed_code checks generators sides) r ≡ true → (q : ℕ) → among q (listed_told checks generators r) ≡ has (row_set (listed_code checks generators sides) r) q
  named (Check k) h = row_names (length sides) checks cs k h
  named (Generator k) h = row_names (length sides) generators gs k h

  once : (r : Row) → is_row (listed_code checks generators sides) r ≡ true → repeats (listed_told checks generators r) ≡ false
  once (Check k) h = row_once (length sides) checks cs k h
  once (Generator k) h = row_once (length sides) generators gs k h

pub listed_tells : ListedTells
listed_tells checks generators sides cs gs = record { names = named checks generators sides cs gs; once = once checks generators sides cs gs }

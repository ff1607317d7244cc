-- Turned codes are sound, and told rows have the size of their sets.
use Rattle.std.proofs.Common.{◌≡◌, ℕ, true, false, List, ◌∙◌}
use Rattle.terms.specs.declared.row.Row.{Row}
use Rattle.terms.specs.declared.row.Row.TheVariants.{Check, Generator}
use Rattle.terms.specs.Rows.{exchanged}
use Rattle.sets.specs.Sets.{has, among, repeats}
use Rattle.sets.proofs.Numbers.{told_once}
use Rattle.sets.proofs.Sets.{odd_comm}
use Rattle.meaning.specs.Meaning.{Meaning, turned}
use Rattle.meaning.specs.Telling.{Tells, is_row, row_set}
use Rattle.meaning.specs.Codes.{TurnedSound, TurnedTells, ToldCounts}

pub turned_sound : TurnedSound
turned_sound M s =
    record {
      some_qubit = s.some_qubit;
      few_qubits = s.few_qubits;
      few_checks = s.few_generators;
      few_generators = s.few_checks;
      checks_range = s.generators_range;
      generators_range = s.checks_range;
      even = λ c g m n. odd_comm c g ∙ s.even g c n m;
    }

module _ (M : Meaning) (told : Row → List ℕ) (t : Tells M told) where
  names : (r : Row) → is_row (turned M) r ≡ true → (q : ℕ) → among q (told (exchanged r)) ≡ has (row_set (turned M) r) q
  names (Check k) h = t.names (Generator k) h
  names (Generator k) h = t.names (Check k) h

  once : (r : Row) → is_row (turned M) r ≡ true → repeats (told (exchanged r)) ≡ false
  once (Check k) h = t.once (Generator k) h
  once (Generator k) h = t.once (Check k) h

pub turned_tells : TurnedTells
turned_tells M told t = record { names = names M told t; once = once M told t }

pub told_counts : ToldCounts
told_counts M told t r h = told_once (told r) (row_set M r) (t.once r h) (t.names r h)

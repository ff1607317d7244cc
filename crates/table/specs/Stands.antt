-- The code of a table is sound, its rows are told whole, and nothing is told where there is no row.
use Rattle.std.specs.Prelude.{◌≡◌, ℕ, false, List, []}
use Rattle.std.proofs.Math.Logic.{∥∥₁_elim}
use Rattle.std.proofs.Math.Bool.{Bool-set}
use mathlib.Core.HLevel.{Π_prop}
use Rattle.std.proofs.Common.{arith, ltb-false}
use Rattle.std.proofs.Math.Bridge.{le_prop}
use Rattle.std.proofs.Math.Nat.{ℕ_set}
use Rattle.std.proofs.lemmas.List.{get_or_past, length-map}
use Rattle.terms.specs.declared.row.Row.{Row}
use Rattle.terms.specs.declared.row.Row.TheVariants.{Check, Generator}
use Rattle.sets.specs.Sets.{marks}
use Rattle.meaning.specs.Meaning.{Meaning, Sound, qubits}
use Rattle.meaning.specs.Telling.{Tells, is_row}
use Rattle.table.specs.declared.Table.{Table}
use Rattle.table.specs.OfTable.{meaning_of, told_of}

-- each has one proof at most, so that a table's ghost fields can be opened
sound_prop : (M : Meaning) → IsProp (Sound M)
sound_prop M x y = λ i. record {
  some_qubit = le_prop x.some_qubit y.some_qubit i;
  few_qubits = le_prop x.few_qubits y.few_qubits i;
  few_checks = le_prop x.few_checks y.few_checks i;
  few_generators = le_prop x.few_generators y.few_generators i;
  checks_range = Π_prop (λ c. Π_prop (λ m. ℕ_set _ _)) x.checks_range y.checks_range i;
  generators_range = Π_prop (λ g. Π_prop (λ m. ℕ_set _ _)) x.generators_range y.generators_range i;
  even = Π_prop (λ c. Π_prop (λ g. Π_prop (λ m. Π_prop (λ n. Bool-set _ _)))) x.even y.even i;
}

tells_prop : (M : Meaning) (told : Row → List ℕ) → IsProp (Tells M told)
tells_prop M told x y = λ i. record {
  names = Π_prop (λ r. Π_prop (λ h. Π_prop (λ q. Bool-set _ _))) x.names y.names i;
  once = Π_prop (λ r. Π_prop (λ h. Bool-set _ _)) x.once y.once i;
}

pub table_sound : (t : Table) → Sound (meaning_of t)
unfolding meaning_of
table_sound t = ∥∥₁_elim t.sound (sound_prop (meaning_of t)) (λ s. s)

pub table_tells : (t : Table) → Tells (meaning_of t) (told_of t)
unfolding meaning_of told_of
table_tells t = ∥∥₁_elim t.tells (tells_prop (meaning_of t) (told_of t)) (λ s. s)

pub table_tells_none : (t : Table) (r : Row) → is_row (meaning_of t) r ≡ false → told_of t r ≡ []
unfolding meaning_of told_of
table_tells_none t (Check k) h = get_or_past t.checks.rows k [] (omega (arith, ltb-false k _ h, length-map t.checks.rows (marks (qubits (meaning_of t)))))
table_tells_none t (Generator k) h = get_or_past t.generators.rows k [] (omega (arith, ltb-false k _ h, length-map t.generators.rows (marks (qubits (meaning_of t)))))

-- The sizes of a table's parts.
use Rattle.std.proofs.Common.{◌≡◌, length, vec_items, sym}
use lib.ListN.{length-map}
use Rattle.sets.specs.Sets.{marks}
use Rattle.meaning.specs.Meaning.{qubits}
use Rattle.table.specs.declared.Table.{Table}
use Rattle.table.specs.Held.{on_side_one}
use Rattle.table.specs.OfTable.{meaning_of}

module _ (t : Table) where
  pub as_many_qubits : length (vec_items t.sides) ≡ qubits (meaning_of t)
  unfolding meaning_of
  as_many_qubits = sym (length-map (vec_items t.sides) on_side_one)

  pub as_many_checks : length t.checks.rows ≡ length (meaning_of t).checks
  unfolding meaning_of
  as_many_checks = sym (length-map t.checks.rows (marks (qubits (meaning_of t))))

  pub as_many_generators : length t.generators.rows ≡ length (meaning_of t).generators
  unfolding meaning_of
  as_many_generators = sym (length-map t.generators.rows (marks (qubits (meaning_of t))))

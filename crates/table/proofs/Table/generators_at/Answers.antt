use Rattle.std.proofs.Common.{[], get_or, ap, ◌∙◌}
use Rattle.table.specs.Columns.{columns}
use Rattle.table.specs.OfTable.{meaning-of}
use Rattle.table.specs.Stands.{table-sound}
use Rattle.table.proofs.Limits.{as-many-qubits}
use Rattle.table.proofs.Told.{column-at}
use Rattle.table.proofs.Table.generators_at.Goals as goal

pub returns : goal.returns
unfolding meaning-of
returns c =
    let t = c.args.self.now in
    let q = c.args.qubit in
    let M = meaning-of t in
    c.row.ensures
    ∙ ap (λ l. get_or l q []) t.generator_columns
    ∙ ap (λ n. get_or (columns n M.generators) q []) (as-many-qubits t)
    ∙ column-at _ M.generators (table-sound t).generators-range q

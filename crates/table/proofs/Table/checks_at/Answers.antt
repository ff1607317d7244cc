use Rattle.std.proofs.Common.{[], get_or, ap, ◌∙◌}
use Rattle.table.specs.Columns.{columns}
use Rattle.table.specs.OfTable.{meaning_of}
use Rattle.table.specs.Stands.{table_sound}
use Rattle.table.proofs.Limits.{as_many_qubits}
use Rattle.table.proofs.Told.{column_at}
use Rattle.table.proofs.Table.checks_at.Goals as goal

pub returns : goal.returns
unfolding meaning_of
returns c =
    let t = c.args.self.now in
    let q = c.args.qubit in
    let M = meaning_of t in
    c.row.ensures
    ∙ ap (λ l. get_or l q []) t.check_columns
    ∙ ap (λ n. get_or (columns n M.checks) q []) (as_many_qubits t)
    ∙ column_at _ M.checks (table_sound t).checks_range q

use Rattle.std.proofs.Common.{sym, ap, ◌∙◌}
use Rattle.table.specs.OfTable.{told_of}
use Rattle.table.proofs.Table.row.Goals as goal

pub returns-in-Check : goal.returns-in-Check
unfolding told_of
returns-in-Check c = c.row.ensures ∙ sym (ap (told_of c.args.self.now) c.in-Check.is)

pub returns-in-Generator : goal.returns-in-Generator
unfolding told_of
returns-in-Generator c = c.row-in-Generator.ensures ∙ sym (ap (told_of c.args.self.now) c.in-Generator.is)

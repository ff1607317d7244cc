use Rattle.std.proofs.Common.{◌∙◌, sym}
use Rattle.meaning.specs.Meaning.{Meaning}
use Rattle.rules.specs.Clusters.{cluster, internal}
use Rattle.table.specs.OfTable.{meaning_of}
use Rattle.systems.proofs.Reading.{further_free}
use Rattle.trial.proofs.Clusters.{not_free, check_low, outside, free_told, is_free}
use Rattle.trial.proofs.trial.finding.free_check.Goals as goal

pub returns-in_default : goal.returns-in_default
returns-in_default c = record { stated = λ k among odds s. s; free = λ s q met stated. not_free (meaning_of c.args.table.now) s q c.args.connecting met c.in_default.not-One }

pub returns-then-is_free-clause-free : goal.returns-then-is_free-clause-free
returns-then-is_free-clause-free c s q met stated =
    let M : Meaning = meaning_of c.args.table.now in
    let k = c.in-One.check in
    let is = sym c.in-One.is in
    let said = further_free M (cluster M s q) (internal M s q (cluster M s q)) k _ (c.is_free.ensures (cluster M s q) (internal M s q (cluster M s q)) s.odds stated).1 (outside M s q c.args.connecting met k is) (check_low M s q c.args.connecting met k is) in
    is_free M s q c.args.connecting met k is (sym c.if-is_free.true ∙ said)

pub returns-else-is_free-clause-free : goal.returns-else-is_free-clause-free
returns-else-is_free-clause-free c s q met stated =
    let M : Meaning = meaning_of c.args.table.now in
    let k = c.in-One.check in
    let is = sym c.in-One.is in
    let said = further_free M (cluster M s q) (internal M s q (cluster M s q)) k _ (c.is_free.ensures (cluster M s q) (internal M s q (cluster M s q)) s.odds stated).1 (outside M s q c.args.connecting met k is) (check_low M s q c.args.connecting met k is) in
    sym (free_told M s q c.args.connecting met k is _ said) ∙ c.if-is_free.false

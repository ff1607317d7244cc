use Rattle.std.proofs.Common.{◌≡◌, cond, vec_items, sym, refl, ap, ◌∙◌, arith, length-set}
use denote.Enum.Bare.{sameb}
use Rattle.std.specs.Vec.{with_items}
use Rattle.std.proofs.lemmas.Grind.{common_steps}
use Rattle.std.proofs.lemmas.List.{with_items_is}
use Rattle.rules.specs.contracts.answers.Status.{the_type}
use Rattle.rules.specs.declared.answers.Status.{Status}
use Rattle.rules.specs.declared.answers.Status.TheVariants.{Erased, Shelved, Done}
use Rattle.table.specs.Columns.{holders_of}
use Rattle.table.specs.OfTable.{meaning_of}
use Rattle.upkeep.specs.Changed.{lowered}
use Rattle.upkeep.specs.Statuses.{is_erased}
use Rattle.upkeep.proofs.Kept.{counts_done}
use Rattle.upkeep.specs.Counts.{counts_in}
use Rattle.trial.proofs.Done.{changed_if}
use Rattle.trial.proofs.Shelves.{out_alike}
use Rattle.trial.proofs.trial.erasing.Erasures.take_out.Goals as goal

same_erased : (s : Status) → sameb the_type s Erased ≡ is_erased s
same_erased Erased = refl
same_erased Shelved = refl
same_erased Done = refl

pub invariant_of-self : goal.invariant_of-self
invariant_of-self c =
    let e = c.args.self.now in
    let q = c.args.qubit in
    let st = c.index.result.now in
    let checks = (meaning_of e.table.now).checks in
    let held : vec_items (with_items e.held c.lower.new.counts) ≡ cond (is_erased st) (lowered (holders_of checks q) (vec_items e.held)) (vec_items e.held) = grind (arith, common_steps, same_erased, changed_if, with_items_is) in
    record {
      fit = length-set (vec_items e.status) q c.args.status ∙ e.fit;
      counts = held ∙ counts_done (vec_items e.status) q c.requires.low st c.index.ensures checks (vec_items e.held) e.counts ∙ ap (counts_in checks) (out_alike (vec_items e.status) q Done c.args.status (sym c.requires.out));
    }

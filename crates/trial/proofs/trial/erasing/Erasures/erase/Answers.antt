use Rattle.std.proofs.Common.{◌≡◌, false, vec_items, ap, ◌∙◌, arith}
use Rattle.std.specs.Vec.{with_items}
use Rattle.std.proofs.lemmas.Grind.{common_steps}
use Rattle.std.proofs.lemmas.List.{with_items_is}
use Rattle.sets.specs.Sets.{has}
use Rattle.table.specs.OfTable.{meaning_of}
use Rattle.table.specs.Stands.{table_sound}
use Rattle.upkeep.specs.Changed.{raised}
use Rattle.upkeep.specs.Statuses.{erased_of}
use Rattle.upkeep.proofs.Opened.{erased_again, counts_erased}
use Rattle.trial.proofs.trial.erasing.Erasures.erase.Goals as goal

pub returns-then-is_erased-clause-erases : goal.returns-then-is_erased-clause-erases
returns-then-is_erased-clause-erases c = grind (arith, common_steps, erased_again)

pub invariant_of-self-clause-counts : goal.invariant_of-self-clause-counts
invariant_of-self-clause-counts c =
    let s = c.args.self.now in
    let q = c.args.qubit in
    let fresh : has (erased_of (vec_items s.status)) q ≡ false = grind (arith, common_steps) in
    let held : vec_items (with_items s.held c.raise.new.counts) ≡ raised c.checks_at.result.now (vec_items s.held) = grind (arith, common_steps, with_items_is) in
    held ∙ ap (λ l. raised l (vec_items s.held)) c.checks_at.ensures ∙ counts_erased (meaning_of s.table.now) (table_sound s.table.now) (vec_items s.status) s.fit q c.requires fresh (vec_items s.held) s.counts

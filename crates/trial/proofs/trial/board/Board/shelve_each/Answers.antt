use Rattle.std.proofs.Common.{vec_items, sym, ap, ◌∙◌}
use Rattle.rules.specs.declared.answers.Status.{Status}
use Rattle.rules.specs.declared.answers.Status.TheVariants.{Shelved, Done}
use Rattle.upkeep.specs.Changed.{changed}
use Rattle.trial.proofs.Shelves.{aside}
use Rattle.trial.proofs.trial.board.Board.shelve_each.Goals as goal

pub returns-clause-does : goal.returns-clause-does
returns-clause-does c k long is s =
    let b = c.args.self.now in
    aside b c.shelve_each.new.self k (long ∙ sym b.erasures.fit) (c.shelve_each.ensures.does ∙ ap (λ l. changed Done (λ (_ : Status). Shelved) l (vec_items b.erasures.status)) (sym is)) s

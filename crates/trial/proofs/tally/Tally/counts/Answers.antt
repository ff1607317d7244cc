use Rattle.std.proofs.Common.{◌≡◌, ◌+◌, length, subst}
use Rattle.rules.specs.Books.{new_books, kept}
use Rattle.rules.specs.Tallies.{Tally, closings}
use Rattle.rules.proofs.Books.{balance}
use Rattle.trial.proofs.tally.Tally.counts.Goals as goal

pub returns-clause-balance : goal.returns-clause-balance
returns-clause-balance c = λ events e. subst (λ (t : Tally). t.opened ≡ closings t + length (kept events new_books).out) e (balance events).2

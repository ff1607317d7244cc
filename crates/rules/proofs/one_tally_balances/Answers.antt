use Rattle.rules.proofs.Books.{balance}
use Rattle.rules.proofs.one_tally_balances.Goals as goal

pub returns : goal.returns
returns c = balance

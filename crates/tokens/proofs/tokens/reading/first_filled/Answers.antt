use Rattle.std.proofs.Common.{rules, tests, ◌∙◌}
use Rattle.std.proofs.lemmas.Iterator.{YieldsList-from_slice}
use Rattle.std.proofs.lemmas.Iterator.Search.{position_from_yields_List}
use Rattle.tokens.specs.Tokens.{is_filled}
use Rattle.tokens.proofs.Positions.{or_length}
use Rattle.tokens.proofs.tokens.reading.first_filled.Goals as goal

pub returns-clause-place : goal.returns-clause-place
returns-clause-place c =
    let bytes = c.args.bytes.now in
    c.unwrap_or.ensures
    ∙ or_length is_filled bytes c.position.result
    (position_from_yields_List is_filled _ _ c.position.result c.position.ensures.ran (YieldsList-from_slice bytes cc) (λ x b q k. search (rules, tests)))

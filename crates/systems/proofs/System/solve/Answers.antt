use Rattle.std.proofs.Common.{◌≡◌, Bool, List, sym, refl, ap, ◌∙◌, subst}
use Rattle.elimination.specs.Holds.{solution}
use Rattle.systems.specs.Told.{Found, spread}
use Rattle.systems.specs.Stated.{least_of}
use Rattle.systems.proofs.Rows.{spread_solutions}
use Rattle.systems.proofs.Answers.{none_spread, found_spread}
use Rattle.systems.proofs.Begun.{still}
use Rattle.systems.proofs.System.solve.Goals as goal

pub returns-then-not-solve-clause-found : goal.returns-then-not-solve-clause-found
returns-then-not-solve-clause-found c M k among odds s =
    let h = c.if-not-solve.ensures.first _ _ _ s.held in (
      still c.args.self.now _ M k among odds s refl h.0,
      spread_solutions M k among odds s.order s.among_range s.odds_range s.named ∙ none_spread k _ h.1,
      ap solution c.if-not-solve.ensures.kept,
    )

pub returns-clause-found : goal.returns-clause-found
returns-clause-found c M k among odds s =
    let h = c.if-not-solve.ensures.first _ _ _ s.held in
    let z : List Bool = solution c.solve.new.self in
    let kept = solution c.solve.new.self ≡ least_of c.args.self.now in
    let both = found_spread k _ z c.slack.result h.1 (c.slack.ensures.power _ _ _ h.0) kept in
    let P : List (List Bool) → Type 0 = λ l. Found l c.slack.result (spread k z) in (
      still c.args.self.now _ M k among odds s refl h.0,
      subst P (sym (spread_solutions M k among odds s.order s.among_range s.odds_range s.named)) both.0,
      both.1,
    )

use Rattle.std.proofs.Common.{◌≡◌, ℕ, Bool, List, length, Some, None, Option, sym, ◌∙◌, subst}
use Rattle.terms.proofs.Answering.{answers_ok, answered_ok}
use Rattle.sets.specs.Sets.{empty, size}
use Rattle.meaning.specs.Meaning.{Meaning}
use Rattle.rules.specs.Clusters.{cluster}
use Rattle.rules.specs.Moves.{solve_from}
use Rattle.elimination.specs.Calls.{too_many}
use Rattle.table.specs.OfTable.{meaning_of}
use Rattle.systems.specs.Stated.{Stated, least_of}
use Rattle.systems.specs.Told.{Found, spread}
use Rattle.trial.specs.Clusters.{FoundOf}
use Rattle.trial.proofs.Clusters.{stated_all}
use Rattle.trial.proofs.trial.finding.solve_cluster.Goals as goal

pub returns-in_default : goal.returns-in_default
returns-in_default c s q odds met members inner =
    let M : Meaning = meaning_of c.args.board.now.erasures.table.now in
    let K = cluster M s q in
    let P : Unit {0} → Type 0 = λ _. (M : Meaning) (odds : List Bool) → length odds ≡ length M.checks → Stated c.begin.new.self M K (empty (length M.checks)) odds in
    let begun = answered_ok {X = Unit {0}} tt (too_many (size K)) P (c.in_ok-begin.ensures.begun K (sym members ∙ sym c.members.ensures)) in
    let st = stated_all M s q c.args.connecting met c.begin.new.self c.add_all.new.self _ _ (begun.1 M) (odds ∙ sym c.as_slice.ensures.value) (c.internal.ensures ∙ inner) c.add_all.ensures in
    let found = c.solve.ensures.found M K _ s.odds (c.free_check-free.ensures.stated K _ s.odds st) in
    answers_ok None (too_many (size K)) (FoundOf c.solve.new.self M s q) begun.0
    (subst (λ (o : Option ℕ). Found (solve_from M s q) o (spread K (least_of c.solve.new.self))) c.in_default.is found.1)

pub returns : goal.returns
returns c s q odds met members inner =
    let M : Meaning = meaning_of c.args.board.now.erasures.table.now in
    let K = cluster M s q in
    let P : Unit {0} → Type 0 = λ _. (M : Meaning) (odds : List Bool) → length odds ≡ length M.checks → Stated c.begin.new.self M K (empty (length M.checks)) odds in
    let begun = answered_ok {X = Unit {0}} tt (too_many (size K)) P (c.in_ok-begin.ensures.begun K (sym members ∙ sym c.members.ensures)) in
    let st = stated_all M s q c.args.connecting met c.begin.new.self c.add_all.new.self _ _ (begun.1 M) (odds ∙ sym c.as_slice.ensures.value) (c.internal.ensures ∙ inner) c.add_all.ensures in
    let found = c.solve.ensures.found M K _ s.odds (c.free_check-free.ensures.stated K _ s.odds st) in
    answers_ok (Some _) (too_many (size K)) (FoundOf c.solve.new.self M s q) begun.0
    ((found.0.unknowns, subst (λ (o : Option ℕ). Found (solve_from M s q) o (spread K (least_of c.solve.new.self))) c.in-Some.is found.1), c.free_check-free.ensures.free s q met st)

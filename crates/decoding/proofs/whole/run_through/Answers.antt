use Rattle.std.proofs.Common.{ℕ, List, Ok, Result, sym, ap, ◌∙◌, subst}
use Rattle.std.proofs.lemmas.Bool.{eq-eqb}
use Rattle.terms.specs.declared.refusal.Refusal.{Refusal}
use Rattle.meaning.specs.Meaning.{Meaning}
use Rattle.rules.specs.declared.answers.Ending.{Ending}
use Rattle.rules.specs.States.{State}
use Rattle.rules.specs.Tallies.{Closed, verdict}
use Rattle.rules.proofs.Bars.{not_ok}
use Rattle.running.proofs.Numbered.{run_number}
use Rattle.table.specs.OfTable.{meaning_of}
use Rattle.table.specs.declared.Table.{Table}
use Rattle.trial.specs.Closing.{TellsTruth}
use Rattle.decoding.proofs.Ran.{closes}
use Rattle.decoding.proofs.whole.run_through.Goals as goal

pub unreachable-requires : goal.unreachable-requires
unreachable-requires c =
    let M : Meaning = meaning_of c.args.opened.trial.table in
    let s = c.run.new.trial.state in
    let slip = c.args.opened.slip.number in
    let number = ap (λ (r : Result Ending Refusal × State × List ℕ). r.1.number) c.run.ensures.does ∙ run_number M c.args.opened.trial.state slip c.args.switches c.args.scratch.now in
    let shown = eq-eqb slip s.number (c.requires.shown ∙ sym number) in
    not_ok _ (verdict s) (ap (λ (x : Closed). x.answer) c.in-Err.ensures.does ∙ closes s slip c.args.tally.now.counts shown c.requires.out)

pub returns-clause-truth : goal.returns-clause-truth
returns-clause-truth c =
    let v = c.in-Ok.verdict in
    let here = subst (λ (x : Table). TellsTruth (meaning_of x) c.run.new.trial.state (Ok v)) c.run.ensures.table c.in-Ok.ensures.truth in
    subst (λ (x : State). TellsTruth (meaning_of c.args.opened.trial.table) x (Ok v)) (ap (λ (r : Result Ending Refusal × State × List ℕ). r.1) c.run.ensures.does) here

use Rattle.std.proofs.Common.{refl, ap, ◌∙◌}
use Rattle.terms.specs.Answering.{checked}
use Rattle.terms.proofs.Answering.{answers_ok}
use Rattle.listed.specs.Fault.{listed_fault}
use Rattle.listed.specs.OfListed.{meaning_of, told_of}
use Rattle.listed.proofs.Chain.{checked_ok}
use Rattle.listed.proofs.Listed.new.Goals as goal

pub returns : goal.returns
unfolding meaning_of told_of
returns c =
    answers_ok _ _ _ (checked_ok _ (c.in_ok-check.ensures ∙ ap (λ l. checked (listed_fault c.args.checks c.args.generators l)) c.deref.ensures.value)) (refl, refl)

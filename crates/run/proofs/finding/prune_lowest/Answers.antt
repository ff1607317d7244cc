use Rattle.std.proofs.Common.{true, [], ◌∷◌, length, Some, None, Result, sym, ap, ◌∙◌, subst}
use Rattle.std.proofs.lemmas.Bool.{and_parts}
use Rattle.terms.specs.declared.refusal.Refusal.{Refusal}
use Rattle.sets.specs.Sets.{row, any, lowest, within}
use Rattle.sets.proofs.Bits.{clash}
use Rattle.rules.specs.States.{State}
use Rattle.rules.specs.Calls.{dangling, prune}
use Rattle.rules.specs.CallLists.{Prune}
use Rattle.rules.specs.Run.{all_erased}
use Rattle.running.specs.Turning.{taken}
use Rattle.running.specs.Finding.{NoneBelow, numbers_from}
use Rattle.running.proofs.Lowest.{call_found, none_below, found_passes, lowest_is, lowest_none}
use Rattle.running.proofs.Shrinking.{prune_shrinks, Shrunk}
use Rattle.run.proofs.Looked.{code, none_to_prune, generators_stay, after_prune}
use Rattle.run.proofs.finding.prune_lowest.Goals as goal

pub returns-in_default-clause-does : goal.returns-in_default-clause-does
returns-in_default-clause-does c =
    let t = c.args.trial.now in
    let s = t.state in
    sym (ap (taken (code t) s) (call_found (all_erased (code t) s) (λ g. Prune s.number (lowest (row (code t).generators g)) (g ∷ [])) c.args.places.now.generator (length (code t).generators) None c.requires.passed.generators (sym c.in_default.is ∙ c.all_erased_from.ensures)))

pub returns-in_default-clause-passed : goal.returns-in_default-clause-passed
returns-in_default-clause-passed c =
    let t = c.args.trial.now in
    record {
      checks = c.requires.passed.checks;
      generators = none_to_prune (code t) t.state c.args.places.now.generator c.requires.passed.generators (sym c.in_default.is ∙ c.all_erased_from.ensures) 65535;
    }

pub unreachable-requires : goal.unreachable-requires
unreachable-requires c =
    let t = c.args.trial.now in
    let g = c.in-Some.generator in
    let r = row (code t).generators g in
    let full = found_passes (all_erased (code t) t.state) (numbers_from c.args.places.now.generator (length (code t).generators)) g (sym c.all_erased_from.ensures ∙ c.in-Some.is) in
    clash (and_parts (any r) (within r t.state.erased) full).0 (lowest_none r (sym c.in_default-lowest_of.is ∙ c.lowest_of.ensures))

pub returns-clause-does : goal.returns-clause-does
returns-clause-does c =
    let t = c.args.trial.now in
    let s = t.state in
    let g = c.in-Some.generator in
    let q = lowest_is (row (code t).generators g) c.in-Some-lowest_of.qubit (sym c.in-Some-lowest_of.is ∙ c.lowest_of.ensures) in
    ap (λ (r : Result (Unit {0}) Refusal × State). (true, r.1)) (c.prune.ensures.does ∙ ap (λ n. prune (code t) s n c.in-Some-lowest_of.qubit (g ∷ [])) c.requires.shown ∙ ap (λ k. prune (code t) s s.number k (g ∷ [])) (sym q))
    ∙ sym (ap (taken (code t) s) (call_found (all_erased (code t) s) (λ g. Prune s.number (lowest (row (code t).generators g)) (g ∷ [])) c.args.places.now.generator (length (code t).generators) (Some g) c.requires.passed.generators (sym c.in-Some.is ∙ c.all_erased_from.ensures)))

pub returns-clause-passed : goal.returns-clause-passed
returns-clause-passed c =
    let t = c.args.trial.now in
    let u = c.prune.new.self in
    let slip = c.args.slip.now.number in
    let g = c.in-Some.generator in
    let q = c.in-Some-lowest_of.qubit in
    let behind = none_below (all_erased (code t) t.state) (length (code t).generators) c.args.places.now.generator g c.requires.passed.generators (sym c.all_erased_from.ensures ∙ c.in-Some.is) in
    let after = ap (λ (r : Result (Unit {0}) Refusal × State). r.1) c.prune.ensures.does in
    let new = after_prune t u c.prune.ensures.table slip q (g ∷ []) c.args.places.now.check c.dangling_at.result after c.requires.passed.checks c.dangling_at.ensures in
    record {
      checks = subst (λ n. NoneBelow (dangling (code t) u.state) n) (sym c.back_to-places.ensures) new;
      generators = generators_stay t u c.prune.ensures.table g (subst (λ (x : State). Shrunk (code t) t.state x) (sym after) (prune_shrinks (code t) t.state slip q (g ∷ []))) behind;
    }

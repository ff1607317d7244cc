use Rattle.std.proofs.Common.{◌≡◌, ◌&&◌, ◌<◌, not, eqb, true, false, length, get_or, sym, ap, ◌∙◌, arith}
use Rattle.std.proofs.lemmas.List.{at_drop_all}
use Rattle.terms.specs.declared.row.Row.TheVariants.{Generator}
use Rattle.sets.specs.Sets.{has}
use Rattle.rules.specs.Run.{all_erased}
use Rattle.running.proofs.Lowest.{found_here, found_after}
use Rattle.table.specs.OfTable.{told_of}
use Rattle.upkeep.specs.Rows.{all_in}
use Rattle.upkeep.specs.Statuses.{erased_of}
use Rattle.trial.specs.Standing.{Standing}
use Rattle.trial.proofs.Done.{code}
use Rattle.trial.proofs.Searched.{all_after, wanted}
use Rattle.trial.proofs.trial.Trial.all_erased_from.Goals as goal

pub generators-preserved-then-is_empty : goal.generators-preserved-then-is_empty
generators-preserved-then-is_empty c =
    let t = c.args.self.now in
    let g = c.generators.g in
    let low : g < length (code t).generators = omega (arith, c.generators-test.true, c.generators-g-end.ensures, ap (λ (x : Standing). length (code x).generators) c.self.view_is) in
    let row = c.row-row.ensures ∙ ap (λ (x : Standing). told_of x.table (Generator g)) c.self.view_is in
    let none = ap (λ l. eqb (length l) 0) (sym row) ∙ sym c.is_empty.ensures ∙ c.if-is_empty.true in
    let idle : all_erased (code t) t.state g ≡ false = wanted t g low ∙ ap (λ x. not x && all_in t.state.erased (told_of t.table (Generator g))) none in
    found_after (all_erased (code t) t.state) (length (code t).generators) g low idle ∙ c.generators.invariant

pub generators-preserved : goal.generators-preserved
generators-preserved c =
    let t = c.args.self.now in
    let g = c.generators.g in
    let low : g < length (code t).generators = omega (arith, c.generators-test.true, c.generators-g-end.ensures, ap (λ (x : Standing). length (code x).generators) c.self.view_is) in
    let row = c.row-row.ensures ∙ ap (λ (x : Standing). told_of x.table (Generator g)) c.self.view_is in
    let some = ap (λ l. eqb (length l) 0) (sym row) ∙ sym c.is_empty.ensures ∙ c.if-is_empty.false in
    let status = ap erased_of c.as_slice.ensures.value ∙ ap (λ (x : Standing). x.state.erased) c.self.view_is in
    let q = get_or c.row-row.result.now c.loop-q.q-index 0 in
    let out : has t.state.erased q ≡ false = ap (λ m. has m q) (sym status) ∙ sym c.is_erased.ensures ∙ c.if-not-is_erased.true in
    let lacks = ap (all_in t.state.erased) (sym row) ∙ sym c.loop-q.invariant ∙ all_after t.state.erased c.row-row.result.now c.loop-q.q-index false c.loop-q-test.true out in
    let idle : all_erased (code t) t.state g ≡ false =
    wanted t g low ∙ ap (λ x. not x && all_in t.state.erased (told_of t.table (Generator g))) some ∙ lacks in
    found_after (all_erased (code t) t.state) (length (code t).generators) g low idle ∙ c.generators.invariant

pub loop-q-preserved : goal.loop-q-preserved
loop-q-preserved c =
    let t = c.args.self.now in
    let status = ap erased_of c.as_slice.ensures.value ∙ ap (λ (x : Standing). x.state.erased) c.self.view_is in
    let q = get_or c.row-row.result.now c.loop-q.q-index 0 in
    let here : has t.state.erased q ≡ true = ap (λ m. has m q) (sym status) ∙ sym c.is_erased.ensures ∙ c.if-not-is_erased.false in
    sym (all_after t.state.erased c.row-row.result.now c.loop-q.q-index true c.loop-q-test.true here) ∙ c.loop-q.invariant

pub returns-in-generators : goal.returns-in-generators
returns-in-generators c =
    let t = c.args.self.now in
    let g = c.generators.g in
    let low : g < length (code t).generators = omega (arith, c.generators-test.true, c.generators-g-end.ensures, ap (λ (x : Standing). length (code x).generators) c.self.view_is) in
    let row = c.row-row.ensures ∙ ap (λ (x : Standing). told_of x.table (Generator g)) c.self.view_is in
    let some = ap (λ l. eqb (length l) 0) (sym row) ∙ sym c.is_empty.ensures ∙ c.if-is_empty.false in
    let all = ap (all_in t.state.erased) (sym row) ∙ sym c.loop-q.invariant ∙ at_drop_all (all_in t.state.erased) c.row-row.result.now c.loop-q.q-index (omega (arith, c.loop-q-test.false)) in
    let full : all_erased (code t) t.state g ≡ true =
    wanted t g low ∙ ap (λ x. not x && all_in t.state.erased (told_of t.table (Generator g))) some ∙ all in
    sym (found_here (all_erased (code t) t.state) (length (code t).generators) g low full) ∙ c.generators.invariant

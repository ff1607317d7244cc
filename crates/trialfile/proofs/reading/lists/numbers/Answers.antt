use Rattle.std.proofs.Common.{◌≡◌, ◌+◌, ◌-◌, suc, vec_items, arith}
use Rattle.std.proofs.lemmas.Result.{err_from_is_err_and}
use Rattle.trialfile.specs.Sections.{listed}
use Rattle.trialfile.proofs.Each.{told_fault, each_begins, each_more, each_fails, each_done}
use Rattle.trialfile.proofs.reading.lists.numbers.Goals as goal

pub loop-read-init : goal.loop-read-init
loop-read-init c = each_begins (listed c.args.kind c.args.limit) c.args.count _ _ c.args.tokens.now (omega arith) c.in_ok-numbers.ensures.items

pub loop-read-preserved : goal.loop-read-preserved
loop-read-preserved c =
    let l = c.loop-read in
    let left : c.args.count - l._read ≡ suc (c.args.count - (l._read + 1)) = omega arith in
    each_more (listed c.args.kind c.args.limit) _ _ _ (vec_items l.numbers) _ l.last c.in_ok-number.number l.tokens _ left c.in_ok-push.ensures.items l.invariant c.in_ok-number.ensures

pub returns-in_err-number : goal.returns-in_err-number
returns-in_err-number c =
    let l = c.loop-read in
    let p = err_from_is_err_and c.from_residual-in_err-number.result c.from_residual-in_err-number.ensures.1 in
    let left : c.args.count - l._read ≡ suc (c.args.count - (l._read + 1)) = omega arith in
    told_fault _ _ _ _ _ _ p.1 p.2 (each_fails (listed c.args.kind c.args.limit) _ _ _ (vec_items l.numbers) l.last _ l.tokens left l.invariant c.in_err-number.ensures)

pub returns : goal.returns
returns c =
    let l = c.loop-read in
    each_done (listed c.args.kind c.args.limit) _ (c.args.count - l._read) (vec_items l.numbers) l.last l.tokens (omega arith) l.invariant

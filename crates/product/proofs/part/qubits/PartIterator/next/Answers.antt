use Rattle.std.proofs.Common.{◌+◌, ◌*◌, length, map, ap, arith, rules}
use Rattle.product.proofs.Digits.{first_one, zero_ones}
use Rattle.product.proofs.part.qubits.PartIterator.next.Goals as goal

pub returns-then-self-eq0-clause-steps : goal.returns-then-self-eq0-clause-steps
returns-then-self-eq0-clause-steps c =
    let p = c.args.self.now in
    let none = ap (map (λ x. p.first + x * p.step)) (zero_ones p.word c.if-self-eq0.true) in
    (none, none)

pub returns-clause-steps : goal.returns-clause-steps
returns-clause-steps c =
    let p = c.args.self.now in
    ap (map (λ x. p.first + x * p.step)) (first_one p.word (omega arith) (omega arith))

pub returns-clause-goes : goal.returns-clause-goes
returns-clause-goes c =
    let p = c.args.self.now in
    let n = ap (λ l. length (map (λ x. p.first + x * p.step) l)) (first_one p.word (omega arith) (omega arith)) in
    search (rules, n)

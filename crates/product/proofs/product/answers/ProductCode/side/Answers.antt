use Rattle.std.proofs.Common.{◌≡◌, ◌-◌, ◌*◌, true, false, ◌++◌, get_or, replicate, Some, sym, ap, ◌∙◌, arith, le-ltb, lt-ltb}
use lib.ListN.{length-replicate}
use Rattle.std.proofs.lemmas.List.{get_or_append_left, get_or-append_right, get_or-replicate}
use Rattle.terms.specs.Rows.{side_of}
use Rattle.meaning.proofs.Answered.{in_range, out_of_range}
use Rattle.meaning.proofs.Product.{product_qubits}
use Rattle.product.specs.OfProduct.{seed, meaning_of}
use Rattle.product.specs.Stands.{is_seed}
use Rattle.product.proofs.product.answers.ProductCode.side.Goals as goal

pub returns-then-qubit-pairs : goal.returns-then-qubit-pairs
unfolding meaning_of
returns-then-qubit-pairs c =
    let p = c.args.self.now in
    let q = c.args.qubit in
    let zeros = replicate (p.columns * p.columns) false in
    let ones = replicate (p.rows * p.rows) true in
    let is : get_or (zeros ++ ones) q false ≡ false = get_or_append_left zeros ones false q (omega (arith, c.if-qubit-pairs.true, length-replicate (p.columns * p.columns) false)) ∙ get_or-replicate (p.columns * p.columns) q false false c.if-qubit-pairs.true in
    ap (λ b. Some (side_of b)) (sym is) ∙ in_range _ _ (lt-ltb q _ (omega (arith, c.if-qubit-pairs.true, product_qubits p.rows p.columns (seed p) (is_seed p))))

pub returns-then-qubit-pairs-2 : goal.returns-then-qubit-pairs-2
unfolding meaning_of
returns-then-qubit-pairs-2 c =
    let p = c.args.self.now in
    let q = c.args.qubit in
    let pairs = p.columns * p.columns in
    let zeros = replicate pairs false in
    let ones = replicate (p.rows * p.rows) true in
    let is : get_or (zeros ++ ones) q false ≡ true =
    get_or-append_right zeros ones pairs q false (length-replicate pairs false) c.if-qubit-pairs.false ∙ get_or-replicate (p.rows * p.rows) (q - pairs) true false (omega (arith, c.if-qubit-pairs.false, c.if-qubit-pairs-2.true)) in
    ap (λ b. Some (side_of b)) (sym is) ∙ in_range _ _ (lt-ltb q _ (omega (arith, c.if-qubit-pairs-2.true, product_qubits p.rows p.columns (seed p) (is_seed p))))

pub returns-else-qubit-pairs-2 : goal.returns-else-qubit-pairs-2
unfolding meaning_of
returns-else-qubit-pairs-2 c =
    let p = c.args.self.now in
    out_of_range _ _ (le-ltb c.args.qubit _ (omega (arith, c.if-qubit-pairs-2.false, product_qubits p.rows p.columns (seed p) (is_seed p))))

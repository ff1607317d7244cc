use Rattle.std.proofs.Common.{◌≡◌, ℕ, ◌≤◌, max, Bool, cond, not, eqb, List, length, take, Some, None, sym, ap, ◌∙◌, rules, tests}
use Rattle.std.proofs.lemmas.Bool.{le-ltb, ne_eqb, eq-eqb}
use Rattle.std.proofs.lemmas.Iterator.{YieldsList-from_slice}
use Rattle.std.proofs.lemmas.Iterator.Consumers.{fold_from_yields_List}
use Rattle.terms.specs.Answering.{checked}
use Rattle.terms.specs.declared.refusal.Refusal.TheVariants.{BufferTooShort, ScratchNotZero}
use Rattle.rules.specs.Refusing.{some_nonzero}
use Rattle.marks.specs.Marks.{scratch_fault}
use Rattle.marks.proofs.Greatest.{greatest}
use Rattle.marks.proofs.scratch_fault.Goals as goal

-- the fault of bytes that are long enough
long_enough : (n : ℕ) (bytes used : List ℕ) (b : Bool) → n ≤ length bytes → used ≡ take n bytes → b ≡ some_nonzero used → checked (cond b (Some ScratchNotZero) None) ≡ checked (scratch_fault n bytes)
long_enough n bytes used b h e f =
    ap (λ t. checked (cond t (Some ScratchNotZero) None)) (f ∙ ap some_nonzero e)
    ∙ ap (λ t. checked (cond t (Some BufferTooShort) (cond (some_nonzero (take n bytes)) (Some ScratchNotZero) None))) (sym (le-ltb (length bytes) n h))

pub returns-then-fold-ne0 : goal.returns-then-fold-ne0
returns-then-fold-ne0 c =
    let most = fold_from_yields_List _ max 0 c.fold.result c.fold.ensures.ran (YieldsList-from_slice c.in-Some.used.now c.iter.ensures.rest) (λ s x b k. search (rules, tests)) in
    long_enough c.args.qubits c.args.scratch.now c.in-Some.used.now _ (search rules) (search rules) (ap not (sym (ne_eqb c.fold.result 0 c.if-fold-ne0.true)) ∙ ap (λ n. not (eqb n 0)) most ∙ greatest c.in-Some.used.now 0)

pub returns : goal.returns
returns c =
    let most = fold_from_yields_List _ max 0 c.fold.result c.fold.ensures.ran (YieldsList-from_slice c.in-Some.used.now c.iter.ensures.rest) (λ s x b k. search (rules, tests)) in
    long_enough c.args.qubits c.args.scratch.now c.in-Some.used.now _ (search rules) (search rules) (ap not (sym (eq-eqb c.fold.result 0 c.if-fold-ne0.false)) ∙ ap (λ n. not (eqb n 0)) most ∙ greatest c.in-Some.used.now 0)

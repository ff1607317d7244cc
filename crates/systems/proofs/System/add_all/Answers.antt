use Rattle.std.proofs.Common.{◌≡◌, ℕ, Bool, true, List, [], ◌∷◌, ◌++◌, get_or, set, take, sym, refl, ap, ◌∙◌, subst}
use Rattle.std.proofs.lemmas.List.{take_more, take_all}
use Rattle.table.specs.OfTable.{meaning_of}
use Rattle.upkeep.specs.Changed.{marked}
use Rattle.systems.specs.Stated.{Stated}
use Rattle.systems.proofs.System.add_all.Goals as goal

marked_more : (l : List ℕ) (c : ℕ) (m : List Bool) → set (marked l m) c true ≡ marked (l ++ c ∷ []) m
marked_more [] c m = refl
marked_more (k ∷ l) c m = marked_more l c (set m k true)

pub loop-check-preserved : goal.loop-check-preserved
loop-check-preserved c k among s =
    let l = c.args.checks.now in
    let i : ℕ = c.loop-check.check-index in
    let P : List Bool → Type 0 = λ m. Stated c.add.new.self (meaning_of c.args.table.now) k m c.args.odd.now in
    subst P (marked_more (take i l) (get_or l i 0) among ∙ ap (λ t. marked t among) (sym (take_more l i 0 c.loop-check-test.true)))
    (c.add.ensures k (marked (take i l) among) c.args.odd.now c.is_marked.ensures (c.loop-check.invariant k among s))

pub returns : goal.returns
returns c k among s =
    let P : List ℕ → Type 0 = λ l. Stated c.loop-check.self (meaning_of c.args.table.now) k (marked l among) c.args.odd.now in
    subst P (take_all c.loop-check.check-index c.args.checks.now c.loop-check-test.false) (c.loop-check.invariant k among s)

use Rattle.std.proofs.Common.{◌≡◌, Bool, ◌||◌, List, ℕ, ◌∷◌, sym, ap, ◌∙◌}
use Rattle.sets.specs.Sets.{among, repeats}
use Rattle.sets.proofs.Marks.{contains_among}
use Rattle.listed.proofs.faults.+repeats.Goals as goal

-- a row by its first number and the later ones
split : (row later : List ℕ) (q : ℕ) (b : Bool) → row ≡ q ∷ later → among q later ≡ b → repeats row ≡ (b || repeats later)
split row later q b e a = ap repeats e ∙ ap (λ t. t || repeats later) a

pub returns-then-contains : goal.returns-then-contains
returns-then-contains t c =
    let found = contains_among _ _ _ c.contains.ensures.cases in
    c.if-contains.true ∙ sym (split _ _ _ _ c.in-Some.ensures.cases.0 (sym found ∙ c.if-contains.true))

pub returns-else-contains : goal.returns-else-contains
returns-else-contains t c =
    let found = contains_among _ _ _ c.contains.ensures.cases in
    c.repeats.ensures ∙ sym (split _ _ _ _ c.in-Some.ensures.cases.0 (sym found ∙ c.if-contains.false))

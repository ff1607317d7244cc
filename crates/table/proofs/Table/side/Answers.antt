use Rattle.std.proofs.Common.{◌≡◌, ℕ, ◌<◌, ◌≤◌, false, ltb, List, map, length, get_or, Some, None, Option, MatchOption, Bor, vec_items, sym, refl, ap, ◌∙◌, arith, le-ltb, lt-ltb}
use Rattle.std.specs.List.{HoldsAt}
use Rattle.std.specs.Option.{option_copied}
use Rattle.std.proofs.lemmas.List.{length-map, get_or-map}
use Rattle.terms.specs.Rows.{side_of}
use Rattle.terms.specs.declared.row.Side.{Side}
use Rattle.terms.specs.declared.row.Side.TheVariants.{Zero, One}
use Rattle.sets.specs.Sets.{has}
use Rattle.meaning.specs.Telling.{within_range}
use Rattle.meaning.proofs.Answered.{in_range, out_of_range}
use Rattle.table.specs.Held.{on_side_one}
use Rattle.table.specs.OfTable.{meaning_of}
use Rattle.table.proofs.Table.side.Goals as goal

side_same : (s : Side) → s ≡ side_of (on_side_one s)
side_same Zero = refl
side_same One = refl

told : (sides l : List Side) (q : ℕ) (o : Option (Bor Side)) → l ≡ sides → MatchOption o (length l ≤ q) (λ s. (q < length l) × HoldsAt (λ t. s.now ≡ t) l q)
    → option_copied o ≡ within_range (ltb q (length (map on_side_one sides))) (side_of (has (map on_side_one sides) q))
told sides l q (Some s) is h =
    let low : q < length sides = omega (arith, h.0, ap length is) in
    let same : s.now ≡ get_or sides q Zero = h.1 Zero ∙ ap (λ l. get_or l q Zero) is in
    ap (λ (t : Side). Some t) (side_same s.now ∙ ap (λ t. side_of (on_side_one t)) same ∙ ap side_of (sym (get_or-map on_side_one sides q Zero false low)))
    ∙ in_range _ _ (lt-ltb q _ (omega (arith, low, length-map sides on_side_one)))
told sides l q None is h = out_of_range _ _ (le-ltb q _ (omega (arith, h, ap length is, length-map sides on_side_one)))

pub returns : goal.returns
unfolding meaning_of
returns c = c.copied.ensures ∙ told (vec_items c.args.self.now.sides) c.deref.result.now c.args.qubit c.get.result c.deref.ensures.value c.get.ensures.lookup.3

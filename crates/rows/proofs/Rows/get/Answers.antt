use Rattle.std.proofs.Common.{◌≡◌, List, ℕ, ◌<◌, ◌≤◌, length, get_or, sym, refl, ap, ◌∙◌, arith, rules}
use Rattle.std.proofs.lemmas.List.{get_or_past}
use Rattle.rows.proofs.Cuts.{rising_at, cut_at, length_cuts}
use Rattle.rows.proofs.Rows.get.Goals as goal

pub returns-in_err-end : goal.returns-in_err-end
returns-in_err-end c =
    let r = c.self.inside in
    let long : length c.args.self.now ≡ length c.deref.result.now = sym (ap length c.self.view_is) ∙ length_cuts r.places.items 0 r.ends.items ∙ sym (ap length c.deref.ensures.value) in
    let past : length c.args.self.now ≤ c.args.k = omega (arith, c.in_err-end.ensures.lookup.3) in
    rw c.from_residual.ensures (search rules, tt, λ h. absurd (omega arith), past, λ _ d. sym (get_or_past c.args.self.now c.args.k d past))

pub part-requires : goal.part-requires
part-requires c =
    let r = c.self.inside in
    let found = c.in_ok-end.ensures.lookup.3 in
    let at = rising_at 0 (length r.places.items) r.ends.items c.self.invariant c.args.k (omega (arith, found.0)) in
    rw (c.start.ensures, c.deref-3.ensures.value, found.1 0, c.deref.ensures.value, c.deref-2.ensures.value) at

pub returns : goal.returns
returns c =
    let r = c.self.inside in
    let found = c.in_ok-end.ensures.lookup.3 in
    let low : c.args.k < length r.ends.items = omega (arith, found.0) in
    let long = ap length c.self.view_is in
    let low' : c.args.k < length c.args.self.now = omega (arith, long, length_cuts r.places.items 0 r.ends.items) in
    let at : (d : List ℕ) → c.part.result.now ≡ get_or c.args.self.now c.args.k d = λ d.
    rw (c.part.ensures, c.start.ensures, c.deref-3.ensures.value, found.1 0, c.deref.ensures.value, c.deref-2.ensures.value, ← c.self.view_is) (sym (cut_at r.places.items 0 r.ends.items c.args.k d low))
    in
    (search rules, at _, λ _. refl, (low', at), λ _. at)

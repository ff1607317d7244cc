use Rattle.std.proofs.Common.{◌≡◌, ℕ, ◌+◌, ◌-◌, ◌<◌, ◌≤◌, length, take, drop, set, sym, refl, ap, ap₂, ◌∙◌, arith, length-drop, length-set}
use Rattle.std.proofs.lemmas.List.{take_all, get_or_read}
use Rattle.linear.specs.Basis.{mix}
use Rattle.elimination.specs.Table.{row_of}
use Rattle.elimination.proofs.Held.{room_of}
use Rattle.elimination.proofs.Steps.{right_side, added_later}
use Rattle.elimination.proofs.echelon.Echelon.add_row.Goals as goal

pub returns : goal.returns
returns g c =
    let K = g.T.Value.field in
    let w : ℕ = c.args.self.now.width in
    let j : ℕ = c.args.j in
    let k = c.args.k in
    let r = c.args.row.now in
    let x = set r 0 c.plus.result in
    let L = c.row-pivot.result.now in
    let R = row_of w c.args.self.now.cells.items j in
    let a : ℕ = c.start-start.result in
    let m : ℕ = length x - a in
    let p : ℕ = length L - a in
    let low : c.start-start.result ≤ j + 2 = c.start-start.ensures.1 in
    let r-long : length r ≡ w + 1 = c.requires.long in
    let x-long : length x ≡ w + 1 = length-set r 0 c.plus.result ∙ r-long in
    let L-long : length L ≡ w + 1 = c.row-pivot.ensures.long in
    let last : j + 1 < length x = omega (arith, c.requires.column) in
    let X-is : take m (drop a x) ≡ drop a x = take_all m (drop a x) (omega (arith, length-drop a x)) in
    let L-is : take p (drop a L) ≡ drop a R = take_all p (drop a L) (omega (arith, length-drop a L)) ∙ ap (drop a) c.row-pivot.ensures.cells in
    let R-long : length R ≡ w + 1 = sym (ap length c.row-pivot.ensures.cells) ∙ L-long in
    let lens : length (take m (drop a x)) ≡ length (take p (drop a L)) = ap length X-is ∙ length-drop a x ∙ ap (λ i. i - a) (x-long ∙ sym R-long) ∙ sym (length-drop a R) ∙ sym (ap length L-is) in
    let summed : c.add_times.new.row ≡ mix K k (drop a R) (drop a x) = c.add_times.ensures.sum lens ∙ ap₂ (λ o t. mix K k o t) L-is X-is in
    added_later K j k R r x a m low last (x-long ∙ sym R-long) refl c.add_times.new.row summed c.start-start.ensures.0 c.plus.result refl
    (c.plus.ensures ∙ ap₂ (λ s t. K.add s t) (get_or_read r 0 c.index-row-0.result (omega (arith, r-long)) c.index-row-0.is K.zer)
    (c.times.ensures ∙ ap (λ t. K.mul k t) (right_side K w c.args.self.now.cells.items j (room_of c.args.self.now) c.requires.column L c.row-pivot.ensures.cells c.index-pivot-0.result c.index-pivot-0.is)))

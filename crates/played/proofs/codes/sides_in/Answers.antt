use Rattle.std.proofs.Common.{◌≡◌, ℕ, [], ◌∷◌, ◌++◌, map, min, drop, get_or, ap, ◌∙◌, sym, arith}
use Rattle.std.proofs.lemmas.List.{get_or-drop, drop-drop, map-append}
use Rattle.std.proofs.lemmas.List.FromFn.{map-range_with_len_more}
use Rattle.played.specs.Reading.{short, shorts}
use Rattle.played.proofs.codes.sides_in.Goals as goal

-- a number that is cut to a byte may be cut to a larger one before
cut_once : (n : ℕ) → min n 255 ≡ min (short n) 255
cut_once n = omega arith

pub loop-read-preserved : goal.loop-read-preserved
loop-read-preserved c =
    let l = c.next-count.new.self in
    let k = c.loop-read._read in
    let read : c.byte.result ≡ min (short (get_or l k 0)) 255 = c.byte.ensures.value ∙ ap (λ r. min (get_or r 0 0) 255) c.loop-read.invariant.rest ∙ ap (λ n. min n 255) (get_or-drop k l 0 0 ∙ ap (λ i. get_or l i 0) (omega arith)) ∙ cut_once (get_or l k 0) in
    record {
      sides = c.in_ok-push.ensures.items
          ∙ (λ i. c.loop-read.invariant.sides i ++ read i ∷ [])
          ∙ sym (map-append (λ side. min side 255) (shorts l k) (short (get_or l k 0) ∷ []))
          ∙ sym (ap (map (λ side. min side 255)) (map-range_with_len_more (λ i. short (get_or l i 0)) 0 k k (omega arith)));
      rest = c.byte.ensures.rest ∙ ap (drop 1) c.loop-read.invariant.rest ∙ drop-drop 1 k l;
    }

use Rattle.std.proofs.Common.{◌≡◌, [], ◌∷◌, ◌++◌, drop, get_or, ap, ◌∙◌, sym, arith}
use Rattle.std.proofs.lemmas.List.{get_or-drop, drop-drop}
use Rattle.std.proofs.lemmas.List.FromFn.{map-range_with_len_more}
use Rattle.played.specs.Reading.{short}
use Rattle.played.proofs.numbers.Numbers.list.Goals as goal

pub loop-read-preserved : goal.loop-read-preserved
loop-read-preserved c =
    let l = c.next-count.new.self in
    let k = c.loop-read._read in
    let read : c.short.result ≡ short (get_or l k 0) = c.short.ensures.value ∙ ap (λ r. short (get_or r 0 0)) c.loop-read.invariant.rest ∙ ap short (get_or-drop k l 0 0 ∙ ap (λ i. get_or l i 0) (omega arith)) in
    record {
      items = c.in_ok-push.ensures.items ∙ (λ i. c.loop-read.invariant.items i ++ read i ∷ []) ∙ sym (map-range_with_len_more (λ i. short (get_or l i 0)) 0 k k (omega arith));
      rest = c.short.ensures.rest ∙ ap (drop 1) c.loop-read.invariant.rest ∙ drop-drop 1 k l;
    }

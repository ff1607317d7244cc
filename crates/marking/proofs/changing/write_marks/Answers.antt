use Rattle.std.proofs.Common.{◌≡◌, ℕ, ◌+◌, ◌<◌, Bool, true, false, List, [], ◌∷◌, ◌++◌, map, length, get_or, take, drop, set, sym, refl, ap, ◌∙◌, append_assoc, arith}
use mir.Val.{bool_byte}
use Rattle.std.proofs.lemmas.List.{drop_more, map_more, set_at, length-map, length-take-le}
use Rattle.std.proofs.lemmas.Grind.{common_steps}
use Rattle.rules.specs.Tallies.{byte}
use Rattle.marking.proofs.changing.write_marks.Goals as goal

byte_is : (b : Bool) → bool_byte b ≡ byte b
byte_is true = refl
byte_is false = refl

-- one byte more is written
written_more : (marks : List Bool) (bytes : List ℕ) (k : ℕ) → k < length marks → k < length bytes
    → set (map byte (take k marks) ++ drop k bytes) k (byte (get_or marks k false)) ≡ map byte (take (k + 1) marks) ++ drop (k + 1) bytes
written_more marks bytes k low low' =
    let front = map byte (take k marks) in
    let b = byte (get_or marks k false) in
    ap (λ l. set (front ++ l) k b) (drop_more bytes k 0 low')
    ∙ set_at front (get_or bytes k 0) (drop (k + 1) bytes) b k (length-map (take k marks) byte ∙ length-take-le k marks (omega arith))
    ∙ sym (ap (λ l. l ++ drop (k + 1) bytes) (map_more byte marks k false low) ∙ append_assoc front (b ∷ []) (drop (k + 1) bytes))

pub loop-k-preserved : goal.loop-k-preserved
loop-k-preserved c = grind (arith, common_steps, byte_is, written_more)

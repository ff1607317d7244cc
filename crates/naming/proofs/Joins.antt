-- One more text at the end of several.
use Rattle.std.proofs.Common.{◌≡◌, ℕ, ◌+◌, List, [], ◌∷◌, ◌++◌, sym, ap, ◌∙◌, arith}
use Rattle.std.specs.List.{range_with_len, flat_map}
use Rattle.std.proofs.lemmas.List.FromFn.{map-range_with_len_more}
use Rattle.std.proofs.lemmas.List.{flat_map_more, map-id}

counting_more : (k : ℕ) → range_with_len 0 (k + 1) ≡ range_with_len 0 k ++ k ∷ []
counting_more k = sym (map-id (range_with_len 0 (k + 1))) ∙ map-range_with_len_more (λ x. x) 0 k k (omega arith) ∙ ap (λ l. l ++ k ∷ []) (map-id (range_with_len 0 k))

pub joined_counting_more : (f : ℕ → List ℕ) (k : ℕ) (t : List ℕ) → t ≡ f k → flat_map f (range_with_len 0 k) ++ t ≡ flat_map f (range_with_len 0 (k + 1))
joined_counting_more f k t e = ap (λ l. flat_map f (range_with_len 0 k) ++ l) e ∙ flat_map_more f [] (range_with_len 0 k) k ∙ ap (flat_map f) (sym (counting_more k))

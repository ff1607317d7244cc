-- Numbers taken by two, as places.
use Rattle.std.proofs.Common.{◌≡◌, ℕ, zero, suc, ◌+◌, ◌*◌, ◌<◌, List, ◌∷◌, map, get_or, take, drop, refl, ap, ◌∙◌, sym, arith}
use Rattle.std.specs.List.{range_with_len}
use Rattle.std.specs.Simd.{first_chunks}
use Rattle.std.proofs.lemmas.List.{get_or-drop, drop-drop, get_or-take}
use Rattle.naming.specs.Texts.{place_of, place_at}

at : (l : List ℕ) (m j i : ℕ) → j < 2 → i ≡ m + j → get_or (take 2 (drop m l)) j 0 ≡ get_or l i 0
at l m j i h e = get_or-take 2 (drop m l) j 0 h ∙ get_or-drop m l j 0 ∙ ap (λ k. get_or l k 0) (sym e)

pub pairs_places : (l : List ℕ) (k n m : ℕ) → m ≡ 2 * k + 2 → map place_of (first_chunks 2 n (drop m l)) ≡ map (place_at l) (range_with_len k n)
pairs_places l k zero m e = refl
pairs_places l k (suc n) m e = λ i.
    record { row = at l m 0 (2 * k + 2) (omega arith) (omega arith) i; column = at l m 1 (2 * k + 3) (omega arith) (omega arith) i }
    ∷ (ap (λ x. map place_of (first_chunks 2 n x)) (drop-drop 2 m l) ∙ pairs_places l (k + 1) n (m + 2) (omega arith)) i

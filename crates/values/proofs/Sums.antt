-- Rows written place by place, and a multiple added, over any field.
use Rattle.std.proofs.Common.{◌≡◌, ℕ, zero, suc, ◌+◌, ◌<◌, ◌≤◌, List, [], ◌∷◌, ◌++◌, length, get_or, take, drop, set, sym, ap, ◌∙◌, ap₂, append_assoc, append-nil, refl, arith}
use Rattle.std.specs.List.{fold, zip}
use Rattle.std.proofs.lemmas.List.{take_all, drop_all, drop_more, take_more, set_at, get_or_at, length-take-le}
use Rattle.linear.specs.Field.{Field}
use Rattle.linear.specs.Basis.{mix, dot}

module _ {X : Type 0} where
  -- the first i places are written, and the others are as they were
  abbrev pub written : List X → List X → ℕ → List X
  written to from i = take i to ++ drop i from

  -- the place that is written next, between those that are and those that are not
  parted : (to from row : List X) (i : ℕ) (d : X) → i < length from → row ≡ written to from i → row ≡ take i to ++ get_or from i d ∷ drop (i + 1) from
  parted to from row i d h s = s ∙ ap (λ t. take i to ++ t) (drop_more from i d h)

  pub write_more : (to from row : List X) (i : ℕ) (v : X) → length to ≡ length from → i < length from → row ≡ written to from i → v ≡ get_or to i v → set row i v ≡ written to from (i + 1)
  write_more to from row i v e h s q =
      let k : i < length to = omega arith in
      let l : length (take i to) ≡ i = length-take-le i to (omega arith) in
      ap (λ t. set t i v) (parted to from row i v h s)
      ∙ set_at (take i to) (get_or from i v) (drop (i + 1) from) v i l
      ∙ sym (append_assoc (take i to) (v ∷ []) (drop (i + 1) from))
      ∙ ap (λ t. t ++ drop (i + 1) from) (ap (λ y. take i to ++ y ∷ []) q ∙ sym (take_more to i v k))

  -- what is read at that place
  pub unwritten : (to from row : List X) (i : ℕ) (x : X) → length to ≡ length from → i < length from → row ≡ written to from i → x ≡ get_or row i x → x ≡ get_or from i x
  unwritten to from row i x e h s q =
      let l : length (take i to) ≡ i = length-take-le i to (omega arith) in
      q ∙ ap (λ t. get_or t i x) (parted to from row i x h s) ∙ get_or_at (take i to) (get_or from i x) (drop (i + 1) from) x i l

  pub write_all : (to from row : List X) (i : ℕ) → length to ≡ length from → length from ≤ i → row ≡ written to from i → row ≡ to
  write_all to from row i e h s =
      let k : length to ≤ i = omega arith in
      s ∙ ap₂ (λ a b. a ++ b) (take_all i to k) (drop_all i from h) ∙ append-nil to

module _ {F : Type 0} (K : Field F) where
  open K use {add, mul}

  pub length_mix : (k : F) (o r : List F) → length r ≡ length o → length (mix K k o r) ≡ length r
  length_mix k [] r e = refl
  length_mix k (y ∷ o) [] e = absurd (omega arith)
  length_mix k (y ∷ o) (x ∷ r) e = let e' : length r ≡ length o = omega arith in ap suc (length_mix k o r e')

  pub mix_at : (k : F) (o r : List F) (i : ℕ) (x y d : F) → length r ≡ length o → i < length r → x ≡ get_or r i x → y ≡ get_or o i y → add x (mul k y) ≡ get_or (mix K k o r) i d
  mix_at k o [] i x y d e h p q = absurd (omega arith)
  mix_at k [] (x₀ ∷ r) i x y d e h p q = absurd (omega arith)
  mix_at k (y₀ ∷ o) (x₀ ∷ r) zero x y d e h p q = ap₂ (λ a b. add a (mul k b)) p q
  mix_at k (y₀ ∷ o) (x₀ ∷ r) (suc i) x y d e h p q =
      let e' : length r ≡ length o = omega arith in
      let h' : i < length r = omega arith in
      mix_at k o r i x y d e' h' p q

module _ {F : Type 0} (K : Field F) where
  open K use {add, add_assoc, add_comm, add_zer, mul, zer}

  dot_is_fold : (s : F) (a x : List F) → length a ≡ length x → add s (dot K a x) ≡ fold (λ t p. add t (mul p.0 p.1)) s (zip a x)
  dot_is_fold s [] [] e = add_zer s
  dot_is_fold s [] (q ∷ x) e = absurd (omega arith)
  dot_is_fold s (p ∷ a) [] e = absurd (omega arith)
  dot_is_fold s (p ∷ a) (q ∷ x) e =
      let e' : length a ≡ length x = omega arith in
      sym (add_assoc s (mul p q) (dot K a x)) ∙ dot_is_fold (add s (mul p q)) a x e'

  pub fold_is_dot : (s : F) (a x : List F) → length a ≡ length x → s ≡ zer → fold (λ t p. add t (mul p.0 p.1)) s (zip a x) ≡ dot K a x
  fold_is_dot s a x e z = sym (dot_is_fold s a x e) ∙ ap (λ t. add t (dot K a x)) z ∙ add_comm zer (dot K a x) ∙ add_zer (dot K a x)

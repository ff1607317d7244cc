-- Lists turned round, cleared, and written at their front.
use Rattle.std.proofs.Common.{Vec, ◌≡◌, ℕ, zero, suc, ◌+◌, ◌-◌, ◌<◌, ◌≤◌, List, [], ◌∷◌, ◌++◌, reverse, length, get_or, take, drop, set, replicate, sym, refl, ap, ◌∙◌, ap₂, add-one, arith, length-append}
use mathlib.Core.List.{reverse-cons}
use borrow.Rule.Slice.PartMut.{put_mid}
use Rattle.std.specs.Vec.{with_items}
use lib.Seq.{set-append_seam, set-append_left, take-set-lt}
use Rattle.std.proofs.lemmas.List.{with_items_is, length-reverse, replicate_more, get_or-reverse, get_or-take, get_or_read, take-append-drop}
use Rattle.linear.specs.System.{rev}

module _ {X : Type 0} where
  pub reverse_rev : (l : List X) → reverse l ≡ rev l
  reverse_rev [] = refl
  reverse_rev (x ∷ l) = reverse-cons x l ∙ ap (λ t. t ++ (x ∷ [])) (reverse_rev l)

  pub rev_replicate : (n : ℕ) (b : X) → rev (replicate n b) ≡ replicate n b
  rev_replicate zero b = refl
  rev_replicate (suc n) b = ap (λ t. t ++ (b ∷ [])) (rev_replicate n b) ∙ replicate_more n b ∙ ap (λ k. replicate k b) (add-one n)

  long_rev : (l : List X) → length (rev l) ≡ length l
  long_rev l = ap length (sym (reverse_rev l)) ∙ length-reverse l

  -- a write at a place, turned round
  pub set_rev : (l : List X) (p i : ℕ) (v : X) → p + suc i ≡ length l → set (rev l) i v ≡ rev (set l p v)
  set_rev [] p i v e = absurd (omega arith)
  set_rev (x ∷ l) zero i v e =
      let q : i ≡ length (rev l) = omega (arith, long_rev l) in
      ap (λ k. set (rev l ++ (x ∷ [])) k v) q ∙ set-append_seam (rev l) x [] v
  set_rev (x ∷ l) (suc p) i v e =
      let h : i < length (rev l) = omega (arith, long_rev l) in
      let e' : p + suc i ≡ length l = omega arith in
      set-append_left (rev l) (x ∷ []) i v h ∙ ap (λ t. t ++ (x ∷ [])) (set_rev l p i v e')

  pub get_or_rev : (l : List X) (p i : ℕ) (d : X) → p + suc i ≡ length l → get_or (rev l) i d ≡ get_or l p d
  get_or_rev l p i d e =
      let h : i < length l = omega arith in
      let k : length l - 1 - i ≡ p = omega arith in
      ap (λ t. get_or t i d) (sym (reverse_rev l)) ∙ get_or-reverse l i d h ∙ ap (λ m. get_or l m d) k

  -- a row that holds a list turned round behind its first element: a write at the p-th place
  pub put_rev : (n p m : ℕ) (r l : List X) (z d x v : X) → length l ≡ n → p < n → m ≡ n - p → take (suc n) r ≡ z ∷ rev l → x ≡ get_or r m x → suc n ≤ length r
      → (take (suc n) (set r m v) ≡ z ∷ rev (set l p v)) × (x ≡ get_or l p d)
  put_rev n p m r l z d x v long h me e xe k =
      let mi : m ≡ suc (n - suc p) = omega arith in
      let lt : m < suc n = omega arith in
      let inr : m < length r = omega arith in
      let q : p + suc (n - suc p) ≡ length l = omega arith in (
        take-set-lt (suc n) r m v lt ∙ ap₂ (λ t j. set t j v) e mi ∙ ap (λ t. z ∷ t) (set_rev l p (n - suc p) v q),
        get_or_read r m x inr xe d ∙ sym (get_or-take (suc n) r m d lt) ∙ ap₂ (λ t j. get_or t j d) e mi ∙ get_or_rev l p (n - suc p) d q,
      )

  -- a part of a list, put back as long as it was
  pub refill : (k : ℕ) (D S : List X) → length S ≡ length (take k D) → length (S ++ drop k D) ≡ length D
  refill k D S e = length-append S (drop k D) ∙ ap (λ m. m + length (drop k D)) e ∙ sym (length-append (take k D) (drop k D)) ∙ ap length (take-append-drop k D)

  -- what a Vec holds whose front was lent, and is S then
  pub put_back : {Z : Type 0} (v : Vec X Z) (k : ℕ) (D S : List X) → length S ≡ length (take k D) → length D ≡ v.len → (with_items v (S ++ drop k D)).items ≡ S ++ drop k D
  put_back v k D S e l = with_items_is v (S ++ drop k D) (refill k D S e ∙ l)

  pub length_put_mid : (a k : ℕ) (D S : List X) → a ≤ length D → length S ≡ length (take k (drop a D)) → length (put_mid a k D S) ≡ length D
  length_put_mid a k D S h e =
      length-append (take a D) (S ++ drop k (drop a D))
      ∙ ap (λ m. length (take a D) + m) (refill k (drop a D) S e)
      ∙ sym (length-append (take a D) (drop a D))
      ∙ ap length (take-append-drop a D)

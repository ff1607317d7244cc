-- A table of rows as a basis: one column's step of an insertion, and where the steps lead.
use Rattle.std.proofs.Common.{◌≡◌, ℕ, zero, suc, ◌+◌, ◌*◌, ◌<◌, ◌≤◌, Bool, true, false, ◌≢◌, List, [], ◌∷◌, map, length, get_or, take, drop, set, sym, refl, ap, ◌∙◌, ap₂, true≢false, suc-mul, zero-mul, add-one, arith, length-drop, length-set, drop-cons, get_or-set_other}
use Rattle.std.proofs.lemmas.List.{drop-drop, drop-set}
use Rattle.linear.specs.Field.{Field}
use Rattle.linear.specs.Basis.{Basis, free, lead, grown, known, clash, under, at_free, hd, tl, mix, insert}
use Rattle.linear.proofs.Algebra.{zer_add, zer_mul, mul_zer, is_not, inverts}
use Rattle.elimination.specs.Table.{rows_of, column_if, column, stack, wrap}

pub drop_here : {X : Type 0} (rows : List X) (j : ℕ) (r : X) → j < length rows → drop j (set rows j r) ≡ r ∷ drop (suc j) rows
drop_here rows j r h = drop-set rows j r h ∙ ap (λ i. r ∷ drop i rows) (add-one j)

pub length_rows : {X : Type 0} (s n : ℕ) (t : List X) → length (rows_of s n t) ≡ n
length_rows s zero t = refl
length_rows s (suc n) t = ap suc (length_rows s n (drop s t))

pub row_at : {X : Type 0} (s n : ℕ) (t : List X) (j : ℕ) → j < n → get_or (rows_of s n t) j [] ≡ take s (drop (j * s) t)
row_at s zero t j h = absurd (omega arith)
row_at s (suc n) t zero h = ap (λ k. take s (drop k t)) (sym (zero-mul s))
row_at s (suc n) t (suc j) h =
    let h' : j < n = omega arith in
    let e : s + j * s ≡ suc j * s = omega (arith, suc-mul j s) in
    row_at s n (drop s t) j h' ∙ ap (take s) (drop-drop (j * s) s t ∙ ap (λ k. drop k t) e)

module _ {F : Type 0} (K : Field F) where
  open K use {zer, one, add, mul, neg, inv, is, is_eq, add_zer, add_neg, mul_one}

  pub hd_drop : (n : ℕ) (l : List F) → hd K (drop n l) ≡ get_or l n zer
  hd_drop zero [] = refl
  hd_drop (suc n) [] = refl
  hd_drop zero (x ∷ l) = refl
  hd_drop (suc n) (x ∷ l) = hd_drop n l

  pub tl_drop : (n : ℕ) (l : List F) → tl K (drop n l) ≡ drop (suc n) l
  tl_drop zero [] = refl
  tl_drop (suc n) [] = refl
  tl_drop zero (x ∷ l) = refl
  tl_drop (suc n) (x ∷ l) = tl_drop n l

  -- where some value is not zero, one is not
  one_not : (c : F) → c ≢ zer → is one zer ≡ false
  one_not c n = go (is one zer) refl
    where
      go : (t : Bool) → is one zer ≡ t → t ≡ false
      go false e = refl
      go true e = absurd (n (sym (mul_one c) ∙ ap (mul c) (is_eq one zer e) ∙ mul_zer K c))

  -- zero times a thing, taken off, leaves what was there
  neg_zer : neg zer ≡ zer
  neg_zer = sym (zer_add K (neg zer)) ∙ add_neg zer

  off : (x y : F) → add x (mul (neg zer) y) ≡ x
  off x y = ap (λ t. add x (mul t y)) neg_zer ∙ ap (add x) (zer_mul K y) ∙ add_zer x

  mix_zer : (o r : List F) → length o ≤ length r → mix K (neg zer) o r ≡ r
  mix_zer [] r h = refl
  mix_zer (y ∷ o) [] h = absurd (omega arith)
  mix_zer (y ∷ o) (x ∷ r) h =
      let h' : length o ≤ length r = omega arith in
      ap₂ (λ a b. a ∷ b) (off x y) (mix_zer o r h')

  drop_map : (f : F → F) (n : ℕ) (l : List F) → drop n (map f l) ≡ map f (drop n l)
  drop_map f zero l = refl
  drop_map f (suc n) [] = refl
  drop_map f (suc n) (x ∷ l) = drop_map f n l

  get_or_scale : (k : F) (n : ℕ) (l : List F) → get_or (map (mul k) l) n zer ≡ mul k (get_or l n zer)
  get_or_scale k n [] = sym (mul_zer K k)
  get_or_scale k zero (x ∷ l) = refl
  get_or_scale k (suc n) (x ∷ l) = get_or_scale k n l

  -- the row has no coefficient at the column
  pub step_skip : (j : ℕ) (R r : List F) (C : Basis F) → length r ≡ length R → is (get_or r (suc j) zer) zer ≡ true
      → insert K (column K j R C) (drop (suc j) r) (get_or r 0 zer) ≡ under (column K j R) (insert K C (drop (suc (suc j)) r) (get_or r 0 zer))
  step_skip j R r C l e = go (is (get_or R (suc j) zer) zer)
    where
      a : List F
      a = drop (suc j) r

      b : F
      b = get_or r 0 zer

      h : hd K a ≡ zer
      h = hd_drop (suc j) r ∙ is_eq (get_or r (suc j) zer) zer e

      flag : is (hd K a) zer ≡ true
      flag = ap (λ t. is t zer) (hd_drop (suc j) r) ∙ e

      lengths : length (drop (suc (suc j)) R) ≤ length (drop (suc (suc j)) r)
      lengths = omega (arith, length-drop (suc (suc j)) R, length-drop (suc (suc j)) r)

      go : (t : Bool) → insert K (column_if K t j R C) a b ≡ under (column_if K t j R) (insert K C (drop (suc (suc j)) r) b)
      go false =
          let R' : List F = drop (suc (suc j)) R in
          let s : F = get_or R 0 zer in
          ap (λ c. under (lead R' s) (insert K C (mix K (neg c) R' (tl K a)) (add b (mul (neg c) s)))) h
          ∙ ap (λ t. under (lead R' s) (insert K C (mix K (neg zer) R' t) (add b (mul (neg zer) s)))) (tl_drop (suc j) r)
          ∙ ap₂ (λ t u. under (lead R' s) (insert K C t u)) (mix_zer R' (drop (suc (suc j)) r) lengths) (off b s)
      go true =
          ap (λ t. at_free t (insert K C (tl K a) b) (lead (map (mul (inv (hd K a))) (tl K a)) (mul (inv (hd K a)) b) C)) flag
          ∙ ap (λ t. under free (insert K C t b)) (tl_drop (suc j) r)

  -- the row has one, and the column has a row
  pub step_add : (j : ℕ) (R r r' : List F) (C : Basis F) → is (get_or R (suc j) zer) zer ≡ false
      → get_or r' 0 zer ≡ add (get_or r 0 zer) (mul (neg (get_or r (suc j) zer)) (get_or R 0 zer))
      → drop (suc (suc j)) r' ≡ mix K (neg (get_or r (suc j) zer)) (drop (suc (suc j)) R) (drop (suc (suc j)) r)
      → insert K (column K j R C) (drop (suc j) r) (get_or r 0 zer) ≡ under (column K j R) (insert K C (drop (suc (suc j)) r') (get_or r' 0 zer))
  step_add j R r r' C f p q = go (is (get_or R (suc j) zer) zer) f
    where
      a : List F
      a = drop (suc j) r

      b : F
      b = get_or r 0 zer

      go : (t : Bool) → t ≡ false → insert K (column_if K t j R C) a b ≡ under (column_if K t j R) (insert K C (drop (suc (suc j)) r') (get_or r' 0 zer))
      go true e = absurd (true≢false e)
      go false e =
          let R' : List F = drop (suc (suc j)) R in
          let s : F = get_or R 0 zer in
          ap₂ (λ x t. under (lead R' s) (insert K C (mix K (neg x) R' t) (add b (mul (neg x) s)))) (hd_drop (suc j) r) (tl_drop (suc j) r)
          ∙ ap₂ (λ t u. under (lead R' s) (insert K C t u)) (sym q) (sym p)

  -- the row has one, and the column has none: the row, divided, is the column's
  pub step_new : (j : ℕ) (R r : List F) (C : Basis F) → is (get_or r (suc j) zer) zer ≡ false → is (get_or R (suc j) zer) zer ≡ true
      → insert K (column K j R C) (drop (suc j) r) (get_or r 0 zer) ≡ grown (column K j (map (mul (inv (get_or r (suc j) zer))) r) C)
  step_new j R r C e f = go (is (get_or R (suc j) zer) zer) f ∙ sym (ap (λ t. grown (column_if K t j r' C)) flag ∙ ap₂ (λ x y. grown (lead x y C)) (drop_map (mul k) (suc (suc j)) r) (get_or_scale k 0 r))
    where
      a : List F
      a = drop (suc j) r

      b : F
      b = get_or r 0 zer

      c : F
      c = get_or r (suc j) zer

      k : F
      k = inv c

      r' : List F
      r' = map (mul k) r

      flag : is (get_or r' (suc j) zer) zer ≡ false
      flag = ap (λ t. is t zer) (get_or_scale k (suc j) r ∙ inverts K c (is_not K c zer e)) ∙ one_not c (is_not K c zer e)

      go : (t : Bool) → t ≡ true → insert K (column_if K t j R C) a b ≡ grown (lead (map (mul k) (drop (suc (suc j)) r)) (mul k b) C)
      go false q = absurd (true≢false (sym q))
      go true q =
          ap (λ t. at_free t (insert K C (tl K a) b) (lead (map (mul (inv (hd K a))) (tl K a)) (mul (inv (hd K a)) b) C)) (ap (λ t. is t zer) (hd_drop (suc j) r) ∙ e)
          ∙ ap₂ (λ x t. grown (lead (map (mul (inv x)) t) (mul (inv x) b) C)) (hd_drop (suc j) r) (tl_drop (suc j) r)

  -- the columns before j, put back on a basis
  abbrev pub raise : List (List F) → ℕ → Basis F → Basis F
  raise rows zero B = B
  raise rows (suc j) B = raise rows j (column K j (get_or rows j []) B)

  wrap_grown : (rows : List (List F)) (j : ℕ) (B : Basis F) → wrap K rows j (grown B) ≡ grown (raise rows j B)
  wrap_grown rows zero B = refl
  wrap_grown rows (suc j) B = wrap_grown rows j (column K j (get_or rows j []) B)

  pub wrap_known : (rows : List (List F)) (j : ℕ) → wrap K rows j known ≡ known
  wrap_known rows zero = refl
  wrap_known rows (suc j) = wrap_known rows j

  pub wrap_clash : (rows : List (List F)) (j : ℕ) → wrap K rows j clash ≡ clash
  wrap_clash rows zero = refl
  wrap_clash rows (suc j) = wrap_clash rows j

  pub stack_at : (rows : List (List F)) (j : ℕ) → j < length rows → stack K j (drop j rows) ≡ column K j (get_or rows j []) (stack K (suc j) (drop (suc j) rows))
  stack_at rows j h = ap (stack K j) (drop-cons rows j [] h)

  raise_stack : (rows : List (List F)) (j : ℕ) → j ≤ length rows → raise rows j (stack K j (drop j rows)) ≡ stack K 0 rows
  raise_stack rows zero h = refl
  raise_stack rows (suc j) h =
      let h' : j ≤ length rows = omega arith in
      ap (raise rows j) (sym (stack_at rows j h)) ∙ raise_stack rows j h'

  raise_set : (rows : List (List F)) (i : ℕ) (r : List F) (j : ℕ) (B : Basis F) → j ≤ i → raise (set rows i r) j B ≡ raise rows j B
  raise_set rows i r zero B h = refl
  raise_set rows i r (suc j) B h =
      let ne : j ≢ i = omega arith in
      let h' : j ≤ i = omega arith in
      ap (λ t. raise (set rows i r) j (column K j t B)) (get_or-set_other rows i j r [] ne) ∙ raise_set rows i r j (column K j (get_or rows j []) B) h'

  -- the new row stands in its place
  pub new_row : (rows : List (List F)) (j : ℕ) (r : List F) → j < length rows
      → wrap K rows j (grown (column K j r (stack K (suc j) (drop (suc j) rows)))) ≡ grown (stack K 0 (set rows j r))
  new_row rows j r h =
      let X : Basis F = column K j r (stack K (suc j) (drop (suc j) rows)) in
      let l : j ≤ length (set rows j r) = omega (arith, length-set rows j r) in
      let k : j ≤ j = omega arith in
      wrap_grown rows j X
      ∙ ap (λ B. grown B)
      (sym (raise_set rows j r j X k)
      ∙ ap (λ t. raise (set rows j r) j (stack K j t)) (sym (drop_here rows j r h))
      ∙ raise_stack (set rows j r) j l
      )

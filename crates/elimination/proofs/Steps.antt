-- A row on its way through a table, from column to column.
use Rattle.std.proofs.Common.{◌≡◌, ℕ, zero, suc, ◌+◌, ◌-◌, ◌*◌, ◌<◌, ◌≤◌, true, false, List, [], ◌∷◌, ◌++◌, map, length, get_or, take, drop, set, sym, refl, ap, ◌∙◌, subst, ap₂, append-nil, mul-le-mul_right, suc-mul, zero-mul, add-one, arith, length-drop, length-set}
use lib.ListN.{length-map}
use borrow.Rule.Slice.PartMut.{put_mid}
use Rattle.std.proofs.lemmas.List.{get_or-set_same, drop-set-lt, drop_all, drop-drop, take_all, take_at, drop_at, take-append-le, drop-append-le, take-take, drop-take, length-take-le, get_or_read}
use Rattle.linear.specs.Field.{Field}
use Rattle.linear.specs.Basis.{Basis, grown, under, ended, mix, insert}
use Rattle.elimination.specs.Table.{rows_of, is_free, column, stack, basis_of, wrap, Passed, Reduced, AddedFrom}
use Rattle.elimination.specs.Inserted.{Inserted}
use Rattle.elimination.specs.declared.echelon.Added.TheVariants.{Grown, Known, Clash}
use Rattle.elimination.proofs.Stack.{wrap_known, wrap_clash, step_skip, step_add, step_new, stack_at, new_row, length_rows, row_at}

-- row j ends within the table
pub fits : (w j : ℕ) → j < w → j * (w + 1) + (w + 1) ≤ w * (w + 1)
fits w j h = omega (arith, mul-le-mul_right (w + 1) h)

-- a row written into a flat table
rows_put : {X : Type 0} (s n : ℕ) (t : List X) (j : ℕ) (r : List X) → j < n → length r ≡ s → n * s ≤ length t
    → rows_of s n (put_mid (j * s) s t r) ≡ set (rows_of s n t) j r
rows_put s zero t j r h e l = absurd (omega arith)
rows_put s (suc n) t zero r h e l =
    ap (λ a. rows_of s (suc n) (put_mid a s t r)) (zero-mul s)
    ∙ ap (λ x. x ∷ rows_of s n (drop s (r ++ drop s t))) (take_at r (drop s t) s e)
    ∙ ap (λ x. r ∷ rows_of s n x) (drop_at r (drop s t) s e)
rows_put {X} s (suc n) t (suc j) r h e l =
    let a : ℕ = j * s in
    let Z : List X = r ++ drop s (drop (s + a) t) in
    let q : suc j * s ≡ s + a = omega (arith, suc-mul j s) in
    let h' : j < n = omega arith in
    let big : suc n * s ≡ n * s + s = suc-mul n s in
    let st : s ≤ length t = omega arith in
    let at : s + a ≤ length t = omega (arith, mul-le-mul_right s h', suc-mul j s) in
    let tl : s ≤ length (take (s + a) t) = omega (arith, length-take-le (s + a) t at) in
    let sa : s ≤ s + a = omega arith in
    let l' : n * s ≤ length (drop s t) = omega (arith, length-drop s t) in
    ap (λ k. rows_of s (suc n) (put_mid k s t r)) q
    ∙ ap (λ x. x ∷ rows_of s n (drop s (take (s + a) t ++ Z))) (take-append-le s (take (s + a) t) Z tl ∙ take-take s (s + a) t sa)
    ∙ ap (λ x. take s t ∷ rows_of s n x)
    (drop-append-le s (take (s + a) t) Z tl
    ∙ ap (λ x. x ++ Z) (drop-take s a t)
    ∙ ap (λ x. take a (drop s t) ++ (r ++ drop s x)) (sym (drop-drop a s t))
    )
    ∙ ap (λ x. take s t ∷ x) (rows_put s n (drop s t) j r h' e l')

-- the first element and the tail of a row are written: both can be read again
module _ {X : Type 0} where
  tail_put : (a m : ℕ) (t S : List X) → a + m ≡ length t → drop a (put_mid a m t S) ≡ S
  tail_put a m t S e =
      let l : a ≤ length t = omega arith in
      let k : length (drop a t) ≤ m = omega (arith, length-drop a t) in
      drop_at (take a t) (S ++ drop m (drop a t)) a (length-take-le a t l) ∙ ap (λ d. S ++ d) (drop_all m (drop a t) k) ∙ append-nil S

  first_put : (a m : ℕ) (t S : List X) (d : X) → 0 < a → 0 < length t → get_or (put_mid a m t S) 0 d ≡ get_or t 0 d
  first_put zero m t S d h k = absurd (omega arith)
  first_put (suc a) m [] S d h k = absurd (omega arith)
  first_put (suc a) m (x ∷ t) S d h k = refl

module _ {F : Type 0} (K : Field F) where
  open K use {zer, add, mul, neg, inv, is}

  drop_mix : (k : F) (n : ℕ) (o r : List F) → length r ≡ length o → drop n (mix K k o r) ≡ mix K k (drop n o) (drop n r)
  drop_mix k zero o r e = refl
  drop_mix k (suc n) [] [] e = refl
  drop_mix k (suc n) [] (x ∷ r) e = absurd (omega arith)
  drop_mix k (suc n) (y ∷ o) [] e = absurd (omega arith)
  drop_mix k (suc n) (y ∷ o) (x ∷ r) e = let e' : length r ≡ length o = omega arith in drop_mix k n o r e'

  -- k times the row R is added to x from place a on, which is r but for its right side
  module _ (j : ℕ) (k : F) (R r x : List F) (a m : ℕ) (h : a ≤ j + 2) (lo : j + 1 < length x) (n : length x ≡ length R) (mx : m ≡ length x - a) (S : List F) (se : S ≡ mix K k (drop a R) (drop a x)) where
    behind_from : drop (suc (suc j)) x ≡ drop (suc (suc j)) r → drop (suc (suc j)) (put_mid a m x S) ≡ mix K k (drop (suc (suc j)) R) (drop (suc (suc j)) r)
    behind_from b =
        let d : ℕ = suc (suc j) - a in
        let de : a + d ≡ suc (suc j) = omega arith in
        let full : a + m ≡ length x = omega arith in
        let long : length (drop a x) ≡ length (drop a R) = omega (arith, length-drop a x, length-drop a R) in
        ap (λ i. drop i (put_mid a m x S)) (sym de) ∙ sym (drop-drop d a (put_mid a m x S))
        ∙ ap (drop d) (tail_put a m x S full ∙ se)
        ∙ drop_mix k d (drop a R) (drop a x) long
        ∙ ap₂ (λ o t. mix K k o t) (drop-drop d a R ∙ ap (λ i. drop i R) de) (drop-drop d a x ∙ ap (λ i. drop i x) de ∙ b)

    pub added_later : 0 < a → (v : F) → x ≡ set r 0 v → v ≡ add (get_or r 0 zer) (mul k (get_or R 0 zer)) → AddedFrom K j k R r (put_mid a m x S)
    added_later p v xe ve =
        let l : 0 < length x = omega arith in
        let r-long : 0 < length r = omega (arith, ap length xe, length-set r 0 v) in
        record {
          right = first_put a m x S zer p l ∙ ap (λ t. get_or t 0 zer) xe ∙ get_or-set_same r 0 v zer r-long ∙ ve;
          behind = behind_from (ap (drop (suc (suc j))) xe ∙ drop-set-lt (suc (suc j)) r 0 v (omega arith));
        }

  -- the row r₀ came as far as column j, and is r there
  pub record At (w : ℕ) (T r₀ : List F) (j : ℕ) (r : List F) : Type 0 where
    pub passed : Passed K w T r₀ j r

  pub at_first : (w : ℕ) (T r : List F) → At w T r 0 r
  at_first w T r = record { passed = refl }

  module _ (w : ℕ) (T : List F) (j : ℕ) (l : w * (w + 1) ≤ length T) (h : j < w) where
    abbrev pub R : List F
    R = get_or (rows_of (suc w) w T) j []

    abbrev C : Basis F
    C = stack K (suc j) (drop (suc j) (rows_of (suc w) w T))

    pub R-is : R ≡ take (w + 1) (drop (j * (w + 1)) T)
    R-is = row_at (suc w) w T j h ∙ ap (λ m. take m (drop (j * m) T)) (sym (add-one w))

    pub R-long : length R ≡ w + 1
    R-long =
        let k : w + 1 ≤ length (drop (j * (w + 1)) T) = omega (arith, length-drop (j * (w + 1)) T, fits w j h, l) in
        ap length R-is ∙ length-take-le (w + 1) (drop (j * (w + 1)) T) k

    pub in_rows : j < length (rows_of (suc w) w T)
    in_rows = omega (arith, h, length_rows (suc w) w T)

    -- what is read of the column's row, where L is that row
    module _ (L : List F) (Le : L ≡ R) where
      pub right_side : (x : F) → x ≡ get_or L 0 x → x ≡ get_or R 0 zer
      right_side x e =
          let k : 0 < length L = omega (arith, ap length Le ∙ R-long) in
          get_or_read L 0 x k e zer ∙ ap (λ t. get_or t 0 zer) Le

      -- its coefficients after the column
      pub R-tail : (k : ℕ) → k ≡ w - suc j → take k (drop (j + 2) L) ≡ drop (suc (suc j)) R
      R-tail k q =
          let f : j + 2 ≡ suc (suc j) = omega arith in
          let short : length (drop (j + 2) L) ≤ k = omega (arith, length-drop (j + 2) L, ap length Le ∙ R-long) in
          take_all k (drop (j + 2) L) short ∙ ap₂ (λ i t. drop i t) f Le

    module _ (r₀ r : List F) (n : length r ≡ w + 1) where
      -- what is read of the row
      coef : (c : F) → c ≡ get_or r (j + 1) c → c ≡ get_or r (suc j) zer
      coef c e = let k : j + 1 < length r = omega arith in get_or_read r (j + 1) c k e zer ∙ ap (λ m. get_or r m zer) (add-one j)

      onward : (r' : List F) → At w T r₀ j r
          → insert K (column K j R C) (drop (suc j) r) (get_or r 0 zer) ≡ under (column K j R) (insert K C (drop (suc (suc j)) r') (get_or r' 0 zer))
          → At w T r₀ (j + 1) r'
      onward r' s e =
          subst (λ (m : ℕ). At w T r₀ m r') (sym (add-one j))
          (record {
            passed =
                ap (wrap K (rows_of (suc w) w T) j) (sym (ap (λ B. insert K B (drop (suc j) r) (get_or r 0 zer)) (stack_at K (rows_of (suc w) w T) j in_rows) ∙ e))
                ∙ s.passed;
          }
          )

      pub at_skip : (c : F) → c ≡ get_or r (j + 1) c → is c zer ≡ true → At w T r₀ j r → At w T r₀ (j + 1) r
      at_skip c p f s = onward r s (step_skip K j R r C (n ∙ sym R-long) (ap (λ q. is q zer) (sym (coef c p)) ∙ f))

      pub at_add : (c k : F) (r' : List F) → c ≡ get_or r (j + 1) c → is_free K w T j ≡ false → k ≡ neg c → AddedFrom K j k R r r' → At w T r₀ j r → At w T r₀ (j + 1) r'
      at_add c k r' ce dz ke a s =
          let k-is : k ≡ neg (get_or r (suc j) zer) = ke ∙ ap neg (coef c ce) in
          onward r' s (step_add K j R r r' C dz
          (a.right ∙ ap (λ u. add (get_or r 0 zer) (mul u (get_or R 0 zer))) k-is)
          (a.behind ∙ ap (λ u. mix K u (drop (suc (suc j)) R) (drop (suc (suc j)) r)) k-is))

      pub stopped : (c : F) → c ≡ get_or r (j + 1) c → is c zer ≡ false → is_free K w T j ≡ true → At w T r₀ j r → Reduced K w T r₀ j r
      stopped c ce cz dz s = record { within = omega arith; passed = s.passed; stops = λ _. (ap (λ q. is q zer) (sym (coef c ce)) ∙ cz, dz) }

      -- the row, divided by its coefficient
      abbrev N : List F
      N = map (mul (inv (get_or r (suc j) zer))) r

      pub grows : Reduced K w T r₀ j r → grown (stack K 0 (set (rows_of (suc w) w T) j N)) ≡ insert K (basis_of K w T) (drop 1 r₀) (get_or r₀ 0 zer)
      grows s =
          sym (new_row K (rows_of (suc w) w T) j N in_rows)
          ∙ ap (wrap K (rows_of (suc w) w T) j)
          (sym
          (ap (λ B. insert K B (drop (suc j) r) (get_or r 0 zer)) (stack_at K (rows_of (suc w) w T) j in_rows)
          ∙ step_new K j R r C (s.stops h).0 (s.stops h).1
          )
          )
          ∙ s.passed

      -- it goes into the table
      pub grown_inserted : Reduced K w T r₀ j r → (c : F) (r' S : List F) (k : ℕ) → c ≡ get_or r (j + 1) c
          → r' ≡ map (mul (inv c)) r → S ≡ r' → k ≡ w + 1 → Inserted K w T r₀ Grown (put_mid (j * (w + 1)) k T S)
      grown_inserted s c r' S k p u v m =
          let enough : w * suc w ≤ length T = let e : w * (w + 1) ≡ w * suc w = ap (λ z. w * z) (add-one w) in omega arith in
          record {
            outcome_is =
                ap (λ b. grown (basis_of K w (put_mid (j * (w + 1)) k T b))) (v ∙ u ∙ ap (λ z. map (mul (inv z)) r) (coef c p))
                ∙ ap₂ (λ a b. grown (basis_of K w (put_mid (j * a) b T N))) (add-one w) (m ∙ add-one w)
                ∙ ap (λ z. grown (stack K 0 z)) (rows_put (suc w) w T j N h (length-map r (mul (inv (get_or r (suc j) zer))) ∙ n ∙ add-one w) enough)
                ∙ grows s;
            kept = λ no-growth. absurd (no-growth refl);
          }

  module _ (w : ℕ) (T r₀ r : List F) (j : ℕ) (a : w ≤ j) (n : length r ≡ w + 1) (s : Reduced K w T r₀ j r) (x : F) (e : x ≡ get_or r 0 x) where
    pub end_is : wrap K (rows_of (suc w) w T) j (ended (is x zer)) ≡ insert K (basis_of K w T) (drop 1 r₀) (get_or r₀ 0 zer)
    end_is =
        let k : length (rows_of (suc w) w T) ≤ j = omega (arith, length_rows (suc w) w T) in
        let z : 0 < length r = omega arith in
        ap (λ y. wrap K (rows_of (suc w) w T) j (ended (is y zer))) (get_or_read r 0 x z e zer)
        ∙ ap (wrap K (rows_of (suc w) w T) j) (sym (ap (λ q. insert K (stack K j q) (drop (suc j) r) (get_or r 0 zer)) (drop_all j (rows_of (suc w) w T) k)))
        ∙ s.passed

    pub clash_inserted : is x zer ≡ false → Inserted K w T r₀ Clash T
    clash_inserted f =
        record { outcome_is = sym (ap (λ q. wrap K (rows_of (suc w) w T) j (ended q)) f ∙ wrap_clash K (rows_of (suc w) w T) j) ∙ end_is; kept = λ _. refl }

    pub known_inserted : is x zer ≡ true → Inserted K w T r₀ Known T
    known_inserted f =
        record { outcome_is = sym (ap (λ q. wrap K (rows_of (suc w) w T) j (ended q)) f ∙ wrap_known K (rows_of (suc w) w T) j) ∙ end_is; kept = λ _. refl }

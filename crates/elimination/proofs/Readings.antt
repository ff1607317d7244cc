-- What is read off a table: the slack, and the least solution.
use Rattle.std.proofs.Common.{zero, count_by, fold, cond, refl, ◌≡◌, ℕ, suc, ◌+◌, ◌-◌, ◌*◌, ◌<◌, ◌≤◌, Bool, true, false, List, ◌∷◌, length, get_or, take, drop, set, sym, ap, ◌∙◌, subst, ap₂, add-one, arith, length-drop, length-set}
use Rattle.std.proofs.lemmas.List.{drop_all, take_all}
use Rattle.std.specs.List.{range_with_len}
use Rattle.linear.specs.Field.{Field}
use Rattle.linear.specs.Basis.{Basis, dot, slack, least}
use Rattle.elimination.specs.Table.{rows_of, row_of, is_free, column_if, stack, basis_of}
use Rattle.elimination.proofs.Stack.{drop_here, stack_at, length_rows}
use Rattle.elimination.proofs.Steps.{R, R-long, R-tail, in_rows, right_side}

module _ {F : Type 0} (K : Field F) where
  open K use {zer, add, neg, is}

  -- the columns from j on
  abbrev pub from : ℕ → List F → ℕ → Basis F
  from w T j = stack K j (drop j (rows_of (suc w) w T))

  from_end : (w : ℕ) (T : List F) (j : ℕ) → w ≤ j → stack K j (drop j (rows_of (suc w) w T)) ≡ Basis.done
  from_end w T j h = let k : length (rows_of (suc w) w T) ≤ j = omega (arith, length_rows (suc w) w T) in ap (stack K j) (drop_all j (rows_of (suc w) w T) k)

  module _ (w : ℕ) (T : List F) (j : ℕ) (l : w * (w + 1) ≤ length T) (h : j < w) where
    at_column : (t : Bool) → is_free K w T j ≡ t → from w T j ≡ column_if K t j (R K w T j l h) (from w T (suc j))
    at_column t e =
        stack_at K (rows_of (suc w) w T) j (in_rows K w T j l h)
        ∙ ap (λ b. column_if K b j (R K w T j l h) (from w T (suc j))) e

    least_free : (out : List F) (v : F) → j < length out → is_free K w T j ≡ true → v ≡ zer → drop (suc j) out ≡ least K (from w T (suc j)) → drop j (set out j v) ≡ least K (from w T j)
    least_free out v k e z s = drop_here out j v k ∙ ap₂ (λ a t. a ∷ t) z s ∙ sym (ap (least K) (at_column true e))

    least_lead : (L : List F) → L ≡ R K w T j l h → (out O : List F) (y v : F) → j < length out → is_free K w T j ≡ false → drop (suc j) out ≡ least K (from w T (suc j))
        → y ≡ get_or L 0 y → O ≡ drop (suc (suc j)) (R K w T j l h) → v ≡ add y (neg (dot K O (drop (suc j) out)))
        → drop j (set out j v) ≡ least K (from w T j)
    least_lead L Le out O y v k e s ye oe ve =
        drop_here out j v k
        ∙ ap (λ t. t ∷ drop (suc j) out) (ve ∙ ap₂ (λ a o. add a (neg (dot K o (drop (suc j) out)))) (right_side K w T j l h L Le y ye) oe)
        ∙ ap (λ t. add (get_or (R K w T j l h) 0 zer) (neg (dot K (drop (suc (suc j)) (R K w T j l h)) t)) ∷ t) s
        ∙ sym (ap (least K) (at_column false e))

  -- from column j on, out is the least solution
  pub record Filled (w : ℕ) (T : List F) (j : ℕ) (out : List F) : Type 0 where
    pub within : j ≤ w
    pub long : length out ≡ w
    pub filled : drop j out ≡ least K (from w T j)

  pub filled_none : (w : ℕ) (T out : List F) → length out ≡ w → Filled w T w out
  filled_none w T out l =
      let a : length out ≤ w = omega arith in
      let b : w ≤ w = omega arith in
      record { within = b; long = l; filled = drop_all w out a ∙ sym (ap (least K) (from_end w T w b)) }

  module _ (w : ℕ) (T : List F) (i j : ℕ) (out : List F) (l : w * (w + 1) ≤ length T) (q : i ≡ suc j) (f : Filled w T i out) where
    before : Filled w T (suc j) out
    before = subst (λ (n : ℕ). Filled w T n out) q f

    pub filled_free : (v : F) → is_free K w T j ≡ true → v ≡ zer → Filled w T j (set out j v)
    filled_free v e z =
        let h : j < w = omega (arith, before.within) in
        let k : j < length out = omega (arith, before.within, before.long) in
        record { within = omega arith; long = length-set out j v ∙ before.long; filled = least_free w T j l h out v k e z before.filled }

    pub filled_lead : (L O P : List F) (y s u v : F) (n m : ℕ) → L ≡ row_of w T j → is_free K w T j ≡ false → y ≡ get_or L 0 y → n ≡ w - suc j → m ≡ w - suc j
        → O ≡ take n (drop (j + 2) L) → P ≡ take m (drop (j + 1) out) → (length O ≡ length P → s ≡ dot K O P) → u ≡ neg s → v ≡ add y u
        → Filled w T j (set out j v)
    filled_lead L O P y s u v n m Le e ye nq mq oe pe se ue ve =
        let h : j < w = omega (arith, before.within) in
        let k : j < length out = omega (arith, before.within, before.long) in
        let c : length (drop (j + 1) out) ≤ m = omega (arith, length-drop (j + 1) out, before.long) in
        let P-is : P ≡ drop (suc j) out = pe ∙ take_all m (drop (j + 1) out) c ∙ ap (λ t. drop t out) (add-one j) in
        let O-is : O ≡ drop (suc (suc j)) (R K w T j l h) = oe ∙ R-tail K w T j l h L Le n nq in
        let a : length O ≡ w - suc j = omega (arith, ap length O-is ∙ length-drop (suc (suc j)) (R K w T j l h), R-long K w T j l h) in
        let b : length P ≡ w - suc j = omega (arith, ap length P-is ∙ length-drop (suc j) out, before.long) in
        record {
          within = omega arith;
          long = length-set out j v ∙ before.long;
          filled =
              least_lead w T j l h L Le out O y v k e before.filled ye O-is
              (ve ∙ ap (add y) (ue ∙ ap neg (se (a ∙ sym b) ∙ ap (dot K O) P-is)));
        }

  -- the columns without a row, counted from column i on
  counted : (w : ℕ) (T : List F) (i k a : ℕ) → w * (w + 1) ≤ length T → i + k ≡ w → fold (λ n j. n + cond (is_free K w T j) 1 0) a (range_with_len i k) ≡ a + slack (from w T i)
  counted w T i zero a l e = omega (arith, ap (λ B. slack B) (from_end w T i (omega arith)))
  counted w T i (suc k) a l e =
      let h : i < w = omega arith in
      let e' : (i + 1) + k ≡ w = omega arith in
      counted w T (i + 1) k (a + cond (is_free K w T i) 1 0) l e' ∙ step (is_free K w T i) refl h
    where
      step : (t : Bool) → is_free K w T i ≡ t → i < w → (a + cond (is_free K w T i) 1 0) + slack (from w T (i + 1)) ≡ a + slack (from w T i)
      step false q h = omega (arith, ap (λ b. cond {A = ℕ} b 1 0) q, ap (λ B. slack B) (at_column w T i l h false q) ∙ ap (λ n. slack (from w T n)) (sym (add-one i)))
      step true q h = omega (arith, ap (λ b. cond {A = ℕ} b 1 0) q, ap (λ B. slack B) (at_column w T i l h true q) ∙ ap (λ n. suc (slack (from w T n))) (sym (add-one i)))

  pub free_counted : (w : ℕ) (T : List F) → w * (w + 1) ≤ length T → count_by (is_free K w T) (range_with_len 0 w) ≡ slack (basis_of K w T)
  free_counted w T l = counted w T 0 w 0 l (omega arith) ∙ omega arith

-- Rows end to end: what one more row adds, and what is read.
use Rattle.std.proofs.Common.{◌≡◌, ℕ, zero, suc, ◌+◌, ◌-◌, min, ◌<◌, ◌≤◌, List, [], ◌∷◌, ◌++◌, length, get_or, take, drop, sym, refl, ap, ◌∙◌, arith}
use Rattle.std.proofs.Math.Seq.{take-add}
use Rattle.std.proofs.lemmas.List.{drop-append-le, take-append-le, length-drop, drop-drop, drop_at, take_all, length-append}
use Rattle.std.specs.List.{concat}
use Rattle.rows.specs.Cut.{cut, cuts, Rising}

pub rising_le : (start n : ℕ) (ends : List ℕ) → Rising start ends n → start ≤ n
rising_le start n [] r = omega arith
rising_le start n (end ∷ ends) r = let a = rising_le end n ends r.1 in omega arith

-- a row that is kept lies among the places
pub rising_at : (start n : ℕ) (ends : List ℕ) → Rising start ends n → (k : ℕ) → k < length ends → (get_or (start ∷ ends) k 0 ≤ get_or ends k 0) × (get_or ends k 0 ≤ n)
rising_at start n [] r k h = absurd (omega arith)
rising_at start n (end ∷ ends) r zero h = (r.0, rising_le end n ends r.1)
rising_at start n (end ∷ ends) r (suc k) h = rising_at end n ends r.1 k (omega arith)

pub rising_by : (start n : ℕ) (ends : List ℕ) → ((k : ℕ) → k < length ends → get_or (start ∷ ends) k 0 ≤ get_or ends k 0) → get_or (start ∷ ends) (length ends) 0 ≡ n → Rising start ends n
rising_by start n [] h e = e
rising_by start n (end ∷ ends) h e = (h 0 (omega arith), rising_by end n ends (λ k l. h (suc k) (omega arith)) e)

pub length_cuts : (places : List ℕ) (start : ℕ) (ends : List ℕ) → length (cuts places start ends) ≡ length ends
length_cuts places start [] = refl
length_cuts places start (end ∷ ends) = ap suc (length_cuts places end ends)

pub cut_at : (places : List ℕ) (start : ℕ) (ends : List ℕ) (k : ℕ) (d : List ℕ) → k < length ends → get_or (cuts places start ends) k d ≡ cut places (get_or (start ∷ ends) k 0) (get_or ends k 0)
cut_at places start [] k d h = absurd (omega arith)
cut_at places start (end ∷ ends) zero d h = refl
cut_at places start (end ∷ ends) (suc k) d h = cut_at places end ends k d (omega arith)

-- one row more
module _ (places row places' : List ℕ) (n : ℕ) (more : places' ≡ places ++ row) (long : n ≡ length places') where
  wide : n ≡ length places + length row
  wide = long ∙ ap length more ∙ length-append places row

  pub rising_push : (start : ℕ) (ends : List ℕ) → Rising start ends (length places) → Rising start (ends ++ n ∷ []) (length places')
  rising_push start [] r = (omega (arith, wide), long)
  rising_push start (end ∷ ends) r = (r.0, rising_push end ends r.1)

  cut_front : (start end : ℕ) → start ≤ end → end ≤ length places → cut places' start end ≡ cut places start end
  cut_front start end o h =
      let a : start ≤ length places = omega arith in
      let b : end - start ≤ length (drop start places) = simp length-drop (omega arith) in
      ap (λ l. cut l start end) more ∙ ap (take (end - start)) (drop-append-le start places row a) ∙ take-append-le (end - start) (drop start places) row b

  pub cuts_push : (start : ℕ) (ends : List ℕ) → Rising start ends (length places) → cuts places' start (ends ++ n ∷ []) ≡ cuts places start ends ++ row ∷ []
  cuts_push start [] r =
      ap (λ l. l ∷ []) (ap (λ l. cut l start n) more ∙ ap (take (n - start)) (drop_at places row start (sym r)) ∙ take_all (n - start) row (omega (arith, wide)))
  cuts_push start (end ∷ ends) r =
      let a = cut_front start end r.0 (rising_le end (length places) ends r.1) in
      let b = cuts_push end ends r.1 in
      cc

-- the first rows, read as one
cut_join : (places : List ℕ) (a b c : ℕ) → a ≤ b → b ≤ c → cut places a b ++ cut places b c ≡ cut places a c
cut_join places a b c o p =
    let d : a + (b - a) ≡ b = omega arith in
    let e : b - a + (c - b) ≡ c - a = omega arith in
    ap (λ l. cut places a b ++ take (c - b) l) (ap (λ (k : ℕ). drop k places) (sym d) ∙ sym (drop-drop (b - a) a places))
    ∙ sym (take-add (b - a) (c - b) (drop a places))
    ∙ ap (λ (k : ℕ). take k (drop a places)) e

-- a row that is kept, or would come next, starts among the places
pub rising_within : (start n : ℕ) (ends : List ℕ) → Rising start ends n → (k : ℕ) → k ≤ length ends → (start ≤ get_or (start ∷ ends) k 0) × (get_or (start ∷ ends) k 0 ≤ n)
rising_within start n ends r zero h = (omega arith, rising_le start n ends r)
rising_within start n [] r (suc k) h = absurd (omega arith)
rising_within start n (end ∷ ends) r (suc k) h = let w = rising_within end n ends r.1 k (omega arith) in (omega (arith, r.0, w.0), w.1)

pub cuts_joined : (places : List ℕ) (start n : ℕ) (ends : List ℕ) → Rising start ends n → (count k : ℕ) → k ≡ min count (length ends)
    → concat (take count (cuts places start ends)) ≡ cut places start (get_or (start ∷ ends) k 0)
cuts_joined places start n ends r zero k e =
    let z : k ≡ 0 = omega arith in
    let none : start - start ≡ 0 = omega arith in
    sym (ap (λ (j : ℕ). cut places start (get_or (start ∷ ends) j 0)) z ∙ ap (λ (j : ℕ). take j (drop start places)) none)
cuts_joined places start n [] r (suc count) k e =
    let z : k ≡ 0 = omega arith in
    let none : start - start ≡ 0 = omega arith in
    sym (ap (λ (j : ℕ). cut places start (get_or (start ∷ []) j 0)) z ∙ ap (λ (j : ℕ). take j (drop start places)) none)
cuts_joined places start n (end ∷ ends) r (suc count) zero e = absurd (omega arith)
cuts_joined places start n (end ∷ ends) r (suc count) (suc k) e =
    ap (λ l. cut places start end ++ l) (cuts_joined places end n ends r.1 count k (omega arith))
    ∙ cut_join places start end (get_or (end ∷ ends) k 0) r.0 (rising_within end n ends r.1 k (omega arith)).0

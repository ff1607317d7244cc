-- Columns that grow in place: one number more, and what they hold in the end.
use Rattle.std.proofs.Common.{◌≡◌, ℕ, zero, suc, ◌+◌, ◌-◌, ◌<◌, ◌≤◌, ◌≢◌, Bool, true, false, cond, eqb, ltb, List, [], ◌∷◌, ◌++◌, length, get_or, take, drop, set, map, sym, refl, ap, ◌∙◌, append-nil, arith, ltb-false, ltb-true, add-one, length-take, length-set}
use borrow.Author.Tests.{eqb-true}
use Rattle.std.specs.List.{range_with_len, sum}
use Rattle.std.proofs.lemmas.Bool.{eqb-false, ne_eqb}
use Rattle.std.proofs.lemmas.List.{length_push, length-drop, take-take, take_all, get_or-take, get_or-set_other, drop-set-add, drop-set-lt, take-set-le, take_more_set}
use Rattle.std.proofs.lemmas.Grind.{get_or-set_at}
use Rattle.std.proofs.lemmas.List.FromFn.{fill_by_all, get_or-map-range_with_len, length-map-range_with_len}
use Rattle.std.proofs.lemmas.List.Sums.{sum_by_more, sum_by_more_le}
use Rattle.sets.proofs.Numbers.{eqb_same}
use Rattle.rows.specs.Cut.{cuts, Rising}
use Rattle.rows.specs.Laid.{Laid}
use Rattle.rows.proofs.Cuts.{length_cuts, cut_at, rising_by}

-- columns with as many places as are counted: what each holds so far, and where its next number goes
pub record Filled (counts : List ℕ) (held : ℕ → List ℕ) (nexts places : List ℕ) : Type 0 where
  pub many : length nexts ≡ length counts
  pub wide : length places ≡ sum counts
  pub next : (q : ℕ) → q < length counts → get_or nexts q 0 ≡ sum (take q counts) + length (held q)
  pub holds : (q : ℕ) → q < length counts → take (length (held q)) (drop (sum (take q counts)) places) ≡ held q

-- columns that are laid out hold nothing
pub filled_none : (counts starts places : List ℕ) (end : ℕ) → length starts ≡ length counts → length places ≡ end → Laid counts starts end → Filled counts (λ _. []) starts places
filled_none counts starts places end many wide laid =
    record { many = many; wide = wide ∙ laid.total; next = λ q h. omega (arith, laid.each q h); holds = λ q h. refl }

-- where a column starts, those before it have ended
starts_apart : (counts : List ℕ) (p q : ℕ) → p < q → q ≤ length counts → sum (take p counts) + get_or counts p 0 ≤ sum (take q counts)
starts_apart counts p q o h =
    let low : p < length (take q counts) = omega (arith, length-take q counts) in
    let front = take-take p q counts (omega arith) in
    omega (arith, sum_by_more_le (λ x. x) (take q counts) p 0 low, ap sum front, get_or-take q counts p 0 o)

-- a number written outside a part, and one written at its end
module _ (places : List ℕ) (k start len : ℕ) where
  part_below : (i : ℕ) → start + len ≤ i → take len (drop start (set places i k)) ≡ take len (drop start places)
  part_below i h =
      let j : i ≡ start + (i - start) = omega arith in
      let le : len ≤ i - start = omega arith in
      ap (λ t. take len (drop start (set places t k))) j
      ∙ ap (take len) (drop-set-add start places (i - start) k)
      ∙ take-set-le len (drop start places) (i - start) k le

  part_above : (i : ℕ) → i < start → take len (drop start (set places i k)) ≡ take len (drop start places)
  part_above i h = ap (take len) (drop-set-lt start places i k h)

  part_more : start + len < length places → take (len + 1) (drop start (set places (start + len) k)) ≡ take len (drop start places) ++ k ∷ []
  part_more h =
      let l : len < length (drop start places) = simp length-drop (omega arith) in
      ap (take (len + 1)) (drop-set-add start places len k) ∙ take_more_set (drop start places) len k l

-- one number more, for the column q
module _ {counts nexts places : List ℕ} {held held' : ℕ → List ℕ} (q k : ℕ) (more : (p : ℕ) → held' p ≡ held p ++ cond (eqb p q) (k ∷ []) []) (f : Filled counts held nexts places) where
  here : (p : ℕ) → eqb p q ≡ true → held' p ≡ held p ++ k ∷ []
  here p e = more p ∙ ap (λ b. held p ++ cond b (k ∷ []) []) e

  length_here : (p : ℕ) → eqb p q ≡ true → length (held' p) ≡ length (held p) + 1
  length_here p e = ap length (here p e) ∙ length_push (held p) k

  other : (p : ℕ) → eqb p q ≡ false → held' p ≡ held p
  other p e = more p ∙ ap (λ b. held p ++ cond b (k ∷ []) []) e ∙ append-nil (held p)

  -- what is no column is passed over
  pub filled_past : length counts ≤ q → Filled counts held' nexts places
  filled_past h =
      let same : (p : ℕ) → p < length counts → held' p ≡ held p = λ p l. other p (ne_eqb p q (λ e. absurd (omega arith))) in
      record {
        many = f.many;
        wide = f.wide;
        next = λ p l. omega (arith, f.next p l, ap length (same p l));
        holds = λ p l. rw (same p l) (f.holds p l);
      }

  module _ (room : (p : ℕ) → p < length counts → length (held' p) ≤ get_or counts p 0) (next : ℕ) (is : next ≡ get_or nexts q 0) (low : q < length counts) where
    abbrev start : ℕ → ℕ
    start p = sum (take p counts)

    longer : length (held q) + 1 ≤ get_or counts q 0
    longer = omega (arith, room q low, length_here q (eqb_same q))

    at : next ≡ start q + length (held q)
    at = is ∙ f.next q low

    pub inside : next < length places
    inside = omega (arith, at, longer, sum_by_more_le (λ x. x) counts q 0 low, f.wide)

    next_at : (p : ℕ) → p < length counts → (b : Bool) → eqb p q ≡ b → get_or (set nexts q (next + 1)) p 0 ≡ start p + length (held' p)
    next_at p l true e =
        let same = eqb-true p q e in
        omega (arith, get_or-set_at nexts q p (next + 1) 0 same (omega (arith, f.many)), is, ap (λ (j : ℕ). get_or nexts j 0) same, f.next p l, length_here p e)
    next_at p l false e = omega (arith, get_or-set_other nexts q p (next + 1) 0 (eqb-false p q e), f.next p l, ap length (other p e))

    holds_at : (p : ℕ) → p < length counts → (b : Bool) → eqb p q ≡ b → take (length (held' p)) (drop (start p) (set places next k)) ≡ held' p
    holds_at p l true e =
        let is_next : next ≡ start p + length (held p) = at ∙ ap (λ (j : ℕ). start j + length (held j)) (sym (eqb-true p q e)) in
        let len = length_here p e in
        rw (len, is_next) (part_more places k (start p) (length (held p)) (rw is_next at inside) ∙ ap (λ t. t ++ k ∷ []) (f.holds p l) ∙ sym (here p e))
    holds_at p l false e =
        rw (other p e) (untouched (ltb p q) refl ∙ f.holds p l)
      where
        untouched : (b : Bool) → ltb p q ≡ b → take (length (held p)) (drop (start p) (set places next k)) ≡ take (length (held p)) (drop (start p) places)
        untouched true t = part_below places k (start p) (length (held p)) next (omega (arith, at, room p l, ap length (other p e), starts_apart counts p q (ltb-true p q t) (omega arith)))
        untouched false t =
            let ne : p ≢ q = eqb-false p q e in
            let o : q < p = omega (arith, ltb-false p q t) in
            part_above places k (start p) (length (held p)) next (omega (arith, at, longer, starts_apart counts q p o (omega arith)))

    pub filled_more : Filled counts held' (set nexts q (next + 1)) (set places next k)
    filled_more =
        record {
          many = length-set nexts q (next + 1) ∙ f.many;
          wide = length-set places next k ∙ f.wide;
          next = λ p l. next_at p l (eqb p q) refl;
          holds = λ p l. holds_at p l (eqb p q) refl;
        }

-- columns that hold all that was counted
module _ (f : ℕ → List ℕ) (n : ℕ) (nexts places : List ℕ) where
  abbrev counts : List ℕ
  counts = map (λ q. length (f q)) (range_with_len 0 n)

  module _ (full : Filled counts f nexts places) where
    long : length counts ≡ n
    long = length-map-range_with_len (λ q. length (f q)) 0 n

    count_at : (q : ℕ) → q < n → get_or counts q 0 ≡ length (f q)
    count_at q h = get_or-map-range_with_len (λ q. length (f q)) 0 n q q 0 h (omega arith)

    end_at : (q : ℕ) → q < n → get_or nexts q 0 ≡ sum (take (q + 1) counts)
    end_at q h = omega (arith, full.next q (omega (arith, long)), count_at q h, sum_by_more (λ x. x) counts q 0 (omega (arith, long)))

    start_at : (q : ℕ) → q ≤ n → get_or (0 ∷ nexts) q 0 ≡ sum (take q counts)
    start_at zero h = refl
    start_at (suc q) h = rw (← add-one q) (end_at q (omega arith))

    pub cuts_full : cuts places 0 nexts ≡ map f (range_with_len 0 n)
    cuts_full =
        fill_by_all f (cuts places 0 nexts) n [] (length_cuts places 0 nexts ∙ full.many ∙ long)
        (λ q h.
        let low : q < length counts = omega (arith, long) in
        let len : get_or nexts q 0 - sum (take q counts) ≡ length (f q) = omega (arith, full.next q low) in
        let s = start_at q (omega arith) in
        cut_at places 0 nexts q [] (omega (arith, full.many)) ∙ rw (s, len) (full.holds q (omega (arith, long))))

    pub rising_full : Rising 0 nexts (length places)
    rising_full =
        rising_by 0 (length places) nexts (λ q h. omega (arith, start_at q (omega (arith, full.many, long)), full.next q (omega (arith, full.many))))
        (start_at (length nexts) (omega (arith, full.many, long)) ∙ ap sum (take_all (length nexts) counts (omega (arith, full.many))) ∙ sym full.wide)

-- Checks that touch the unknowns, met qubit by qubit.
use Rattle.std.proofs.Common.{◌≡◌, ℕ, zero, suc, ◌+◌, ◌<◌, Bool, true, false, not, ◌&&◌, ◌||◌, eqb, List, [], ◌∷◌, length, get_or, set, take, sym, refl, ap, ap₂, ◌∙◌, inl, inr, ◌⊎◌, arith, eqb-true, length-set, get_or-set_same, get_or-set_other}
use Rattle.std.proofs.lemmas.Bool.{false_from_ne_true, or_cases, or_left, or_right}
use lib.ListN.{length-map}
use borrow.Author.Tests.{eqb-false}
use Rattle.sets.specs.Lists.{In}
use Rattle.sets.specs.Sets.{has, row, join, less, empty, marks, meets, holders, elements, among}
use Rattle.sets.proofs.Bits.{clash}
use Rattle.sets.proofs.Lists.{in_get_or}
use Rattle.sets.proofs.Marks.{has_marks, length_marks}
use Rattle.sets.proofs.Numbers.{eqb_same, element_has}
use Rattle.sets.proofs.Sets.{ext, has_join, has_less, has_holders, has_mapped, has_below, length_over, meets_some, has_meets}
use Rattle.upkeep.proofs.Holders.{among_elements}
use Rattle.systems.specs.Told.{holding}
use Rattle.systems.proofs.Places.{among_taken}
use Rattle.systems.proofs.Rows.{same_from}

or_no : (b : Bool) → (b || false) ≡ b
or_no true = refl
or_no false = refl

in_taken : (l : List ℕ) (j x : ℕ) → In x (take j l) → In x l
in_taken [] zero x m = m
in_taken [] (suc j) x m = m
in_taken (y ∷ l) zero x m = absurd m
in_taken (y ∷ l) (suc j) x (inl e) = inl e
in_taken (y ∷ l) (suc j) x (inr m) = inr (in_taken l j x m)

-- the set `a`, and of the list those that are not closed
abbrev pub with_open : (a closed : List Bool) → List ℕ → List Bool
with_open a closed l = join a (less (marks (length a) l) closed)

module _ (a closed : List Bool) (long : length closed ≡ length a) (cs : List ℕ) (low : (c : ℕ) → In c cs → c < length a) where
  pub long_open : (l : List ℕ) → length (with_open a closed l) ≡ length a
  long_open l = length_over ◌||◌ a (less (marks (length a) l) closed) (length a) refl (length_over (λ x y. x && not y) (marks (length a) l) closed (length a) (length_marks (length a) l) long)

  has_open : (j d : ℕ) → has (with_open a closed (take j cs)) d ≡ (has a d || (among d (take j cs) && not (has closed d)))
  has_open j d =
      has_join a (less (marks (length a) (take j cs)) closed) d
      ∙ ap (λ b. has a d || b) (has_less (marks (length a) (take j cs)) closed d ∙ ap (λ b. b && not (has closed d)) (has_marks (length a) (take j cs) (λ c m. low c (in_taken cs j c m)) d))

  -- nothing of the list
  pub open_none : with_open a closed (take 0 cs) ≡ a
  open_none = ext (with_open a closed (take 0 cs)) a (long_open (take 0 cs)) (λ d. has_open 0 d ∙ or_no (has a d))

  module _ (j : ℕ) (h : j < length cs) where
    c : ℕ
    c = get_or cs j 0

    -- the same elsewhere
    off : (d : ℕ) → eqb d (get_or cs j 0) ≡ false → has (with_open a closed (take j cs)) d ≡ has (with_open a closed (take (j + 1) cs)) d
    off d e =
        has_open j d
        ∙ ap (λ b. has a d || (b && not (has closed d))) (sym (or_no (among d (take j cs))) ∙ ap (λ t. among d (take j cs) || t) (sym e) ∙ sym (among_taken cs j h d))
        ∙ sym (has_open (j + 1) d)

    on : has (with_open a closed (take (j + 1) cs)) (get_or cs j 0) ≡ (has a (get_or cs j 0) || not (has closed (get_or cs j 0)))
    on =
        has_open (j + 1) (get_or cs j 0)
        ∙ ap (λ b. has a (get_or cs j 0) || (b && not (has closed (get_or cs j 0)))) (among_taken cs j h (get_or cs j 0) ∙ ap (λ t. among (get_or cs j 0) (take j cs) || t) (self (get_or cs j 0)) ∙ or_yes (among (get_or cs j 0) (take j cs)))
      where
        self : (n : ℕ) → eqb n n ≡ true
        self n = eqb_same n

        or_yes : (b : Bool) → (b || true) ≡ true
        or_yes true = refl
        or_yes false = refl

    -- one that is there already, or closed, adds nothing
    pub open_skip : (has closed (get_or cs j 0) ≡ true) ⊎ (has (with_open a closed (take j cs)) (get_or cs j 0) ≡ true) → with_open a closed (take j cs) ≡ with_open a closed (take (j + 1) cs)
    open_skip w = ext _ _ (long_open (take j cs) ∙ sym (long_open (take (j + 1) cs))) (λ d. go d (eqb d (get_or cs j 0)) refl)
      where
        here : (has closed (get_or cs j 0) ≡ true) ⊎ (has (with_open a closed (take j cs)) (get_or cs j 0) ≡ true) → has (with_open a closed (take j cs)) (get_or cs j 0) ≡ has (with_open a closed (take (j + 1) cs)) (get_or cs j 0)
        here (inl shut) =
            has_open j (get_or cs j 0) ∙ ap (λ b. has a (get_or cs j 0) || (among (get_or cs j 0) (take j cs) && not b)) shut ∙ ap (λ b. has a (get_or cs j 0) || b) (and_no (among (get_or cs j 0) (take j cs)))
            ∙ ap (λ b. has a (get_or cs j 0) || not b) (sym shut) ∙ sym on
          where
            and_no : (b : Bool) → (b && false) ≡ false
            and_no true = refl
            and_no false = refl
        here (inr there) = there ∙ sym (on ∙ go (has a (get_or cs j 0)) (among (get_or cs j 0) (take j cs)) (has closed (get_or cs j 0)) (sym (has_open j (get_or cs j 0)) ∙ there))
          where
            go : (x y z : Bool) → (x || (y && not z)) ≡ true → (x || not z) ≡ true
            go true y z e = refl
            go false true z e = e
            go false false z e = cc

        go : (d : ℕ) (t : Bool) → eqb d (get_or cs j 0) ≡ t → has (with_open a closed (take j cs)) d ≡ has (with_open a closed (take (j + 1) cs)) d
        go d true e = ap (has (with_open a closed (take j cs))) (eqb-true d (get_or cs j 0) e) ∙ here w ∙ ap (has (with_open a closed (take (j + 1) cs))) (sym (eqb-true d (get_or cs j 0) e))
        go d false e = off d e

    -- another is set
    pub open_add : has closed (get_or cs j 0) ≡ false → set (with_open a closed (take j cs)) (get_or cs j 0) true ≡ with_open a closed (take (j + 1) cs)
    open_add shut =
        ext _ _ (length-set (with_open a closed (take j cs)) (get_or cs j 0) true ∙ long_open (take j cs) ∙ sym (long_open (take (j + 1) cs)))
        (λ d. go d (eqb d (get_or cs j 0)) refl)
      where
        inside : get_or cs j 0 < length (with_open a closed (take j cs))
        inside = omega (arith, low (get_or cs j 0) (in_get_or cs j 0 h), long_open (take j cs))

        or_yes : (b : Bool) → true ≡ (b || true)
        or_yes true = refl
        or_yes false = refl

        go : (d : ℕ) (t : Bool) → eqb d (get_or cs j 0) ≡ t → has (set (with_open a closed (take j cs)) (get_or cs j 0) true) d ≡ has (with_open a closed (take (j + 1) cs)) d
        go d true e =
            ap (has (set (with_open a closed (take j cs)) (get_or cs j 0) true)) (eqb-true d (get_or cs j 0) e)
            ∙ get_or-set_same (with_open a closed (take j cs)) (get_or cs j 0) true false inside
            ∙ or_yes (has a (get_or cs j 0)) ∙ ap (λ b. has a (get_or cs j 0) || not b) (sym shut) ∙ sym on
            ∙ ap (has (with_open a closed (take (j + 1) cs))) (sym (eqb-true d (get_or cs j 0) e))
        go d false e = get_or-set_other (with_open a closed (take j cs)) (get_or cs j 0) d true false (eqb-false d (get_or cs j 0) e) ∙ off d e

-- all of the list of those that hold q
pub open_all : (a closed : List Bool) (sets : List (List Bool)) (q : ℕ) → length sets ≡ length a → with_open a closed (elements (holding sets q)) ≡ join a (less (holding sets q) closed)
open_all a closed sets q e = ap (λ m. join a (less m closed)) (ext _ _ (length_marks (length a) (elements (holding sets q)) ∙ sym (length-map sets (λ s. has s q) ∙ e)) same)
  where
    same : (d : ℕ) → has (marks (length a) (elements (holding sets q))) d ≡ has (holding sets q) d
    same d = has_marks (length a) (elements (holding sets q)) (λ c m. let low : c < length (holding sets q) = has_below (holding sets q) c (element_has (holding sets q) c m) in omega (arith, low, length-map sets (λ s. has s q), e)) d ∙ among_elements (holding sets q) d

-- the set `a`, and the checks that are not closed and hold one of the listed unknowns, which are below n
abbrev pub with_held : (sets : List (List Bool)) (a closed : List Bool) (n : ℕ) → List ℕ → List Bool
with_held sets a closed n l = join a (less (holders sets (marks n l)) closed)

module _ (sets : List (List Bool)) (a closed : List Bool) (long : length closed ≡ length a) (wide : length sets ≡ length a) where
  held_long : (m : List Bool) → length (join a (less (holders sets m) closed)) ≡ length a
  held_long m = length_over ◌||◌ a (less (holders sets m) closed) (length a) refl (length_over (λ x y. x && not y) (holders sets m) closed (length a) (length-map sets (λ c. meets c m) ∙ wide) long)

  held_has : (m : List Bool) (d : ℕ) → has (join a (less (holders sets m) closed)) d ≡ (has a d || (meets (row sets d) m && not (has closed d)))
  held_has m d = has_join a (less (holders sets m) closed) d ∙ ap (λ b. has a d || b) (has_less (holders sets m) closed d ∙ ap (λ b. b && not (has closed d)) (has_holders sets m d))

  -- equal sets of unknowns have equal checks
  same_held : (m m' : List Bool) → ((q : ℕ) → has m q ≡ has m' q) → (r : List Bool) → meets r m ≡ meets r m'
  same_held m m' e r =
      same_from (meets r m) (meets r m')
      (λ t. let (q, i, h) = meets_some r m t in has_meets r m' q i (sym (e q) ∙ h))
      (λ t. let (q, i, h) = meets_some r m' t in has_meets r m q i (e q ∙ h))

  -- of no unknown
  pub held_none : (n : ℕ) → with_held sets a closed n [] ≡ a
  held_none n = ext _ _ (held_long (marks n [])) (λ d. held_has (marks n []) d ∙ ap (λ b. has a d || (b && not (has closed d))) (none (row sets d)) ∙ or_no (has a d))
    where
      none : (r : List Bool) → meets r (marks n []) ≡ false
      none r = false_from_ne_true (meets r (marks n [])) (λ t. let (q, i, h) = meets_some r (marks n []) t in clash h (has_marks n [] (λ c m. absurd m) q))

  -- of one more
  module _ (n : ℕ) (l : List ℕ) (low : (q : ℕ) → In q l → q < n) (i : ℕ) (h : i < length l) where
    marked : (j x : ℕ) → has (marks n (take j l)) x ≡ among x (take j l)
    marked j x = has_marks n (take j l) (λ c m. low c (in_taken l j c m)) x

    more : (r : List Bool) → (meets r (marks n (take i l)) || has r (get_or l i 0)) ≡ meets r (marks n (take (i + 1) l))
    more r = same_from _ _ (λ t. to (or_cases (meets r (marks n (take i l))) (has r (get_or l i 0)) t)) from
      where
        in_more : (x : ℕ) → (among x (take i l) ≡ true) ⊎ (eqb x (get_or l i 0) ≡ true) → has (marks n (take (i + 1) l)) x ≡ true
        in_more x w = marked (i + 1) x ∙ among_taken l i h x ∙ elim w [ inl e ↦ or_left (among x (take i l)) (eqb x (get_or l i 0)) e | inr e ↦ or_right (among x (take i l)) (eqb x (get_or l i 0)) e ]

        to : (meets r (marks n (take i l)) ≡ true) ⊎ (has r (get_or l i 0) ≡ true) → meets r (marks n (take (i + 1) l)) ≡ true
        to (inl t) = let (x, a, b) = meets_some r (marks n (take i l)) t in has_meets r (marks n (take (i + 1) l)) x a (in_more x (inl (sym (marked i x) ∙ b)))
        to (inr t) = has_meets r (marks n (take (i + 1) l)) (get_or l i 0) t (in_more (get_or l i 0) (inr (eqb_same (get_or l i 0))))

        from : meets r (marks n (take (i + 1) l)) ≡ true → (meets r (marks n (take i l)) || has r (get_or l i 0)) ≡ true
        from t =
            let (x, a, b) = meets_some r (marks n (take (i + 1) l)) t in
            elim (or_cases (among x (take i l)) (eqb x (get_or l i 0)) (sym (among_taken l i h x) ∙ sym (marked (i + 1) x) ∙ b)) [
              | inl e ↦ or_left (meets r (marks n (take i l))) (has r (get_or l i 0)) (has_meets r (marks n (take i l)) x a (marked i x ∙ e))
              | inr e ↦ or_right (meets r (marks n (take i l))) (has r (get_or l i 0)) (ap (has r) (sym (eqb-true x (get_or l i 0) e)) ∙ a)
            ]

    pub held_more : join (with_held sets a closed n (take i l)) (less (holding sets (get_or l i 0)) closed) ≡ with_held sets a closed n (take (i + 1) l)
    held_more =
        ext _ _
        (length_over ◌||◌ (with_held sets a closed n (take i l)) (less (holding sets (get_or l i 0)) closed) (length a) (held_long (marks n (take i l)))
        (length_over (λ x y. x && not y) (holding sets (get_or l i 0)) closed (length a) (length-map sets (λ s. has s (get_or l i 0)) ∙ wide) long) ∙ sym (held_long (marks n (take (i + 1) l))))
        (λ d.
        has_join (with_held sets a closed n (take i l)) (less (holding sets (get_or l i 0)) closed) d
        ∙ ap₂ ◌||◌ (held_has (marks n (take i l)) d) (has_less (holding sets (get_or l i 0)) closed d ∙ ap (λ b. b && not (has closed d)) (has_mapped (λ s. has s (get_or l i 0)) refl sets d))
        ∙ gather (has a d) (meets (row sets d) (marks n (take i l))) (not (has closed d)) (has (row sets d) (get_or l i 0))
        ∙ ap (λ b. has a d || (b && not (has closed d))) (more (row sets d))
        ∙ sym (held_has (marks n (take (i + 1) l)) d))
      where
        gather : (x m o t : Bool) → ((x || (m && o)) || (t && o)) ≡ (x || ((m || t) && o))
        gather true m o t = refl
        gather false true true t = refl
        gather false true false true = refl
        gather false true false false = refl
        gather false false o t = refl

  -- of all
  pub held_all : (k : List Bool) → with_held sets a closed (length k) (elements k) ≡ join a (less (holders sets k) closed)
  held_all k =
      ext _ _ (held_long (marks (length k) (elements k)) ∙ sym (held_long k))
      (λ d. held_has (marks (length k) (elements k)) d ∙ ap (λ b. has a d || (b && not (has closed d))) (same_held (marks (length k) (elements k)) k same (row sets d)) ∙ sym (held_has k d))
    where
      same : (q : ℕ) → has (marks (length k) (elements k)) q ≡ has k q
      same q = has_marks (length k) (elements k) (λ c m. has_below k c (element_has k c m)) q ∙ among_elements k q

-- beside no checks before
pub join_empty : (n : ℕ) (m : List Bool) → length m ≡ n → join (empty n) m ≡ m
join_empty zero [] e = refl
join_empty zero (x ∷ m) e = absurd (omega (arith, e))
join_empty (suc n) [] e = absurd (omega (arith, e))
join_empty (suc n) (x ∷ m) e = ap (λ l. x ∷ l) (join_empty n m (omega (arith, e)))

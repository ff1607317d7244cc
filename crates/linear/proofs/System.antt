-- The basis of a system, and its solutions as they are stated.
use mathlib.Core.Path.{◌≡◌, refl, sym, ap, ◌∙◌, subst}
use mathlib.Core.Logic.{inl, inr, ◌↔◌}
use mathlib.Core.Bool.{Bool, true, false, ◌&&◌, true≢false}
use mathlib.Core.List.{List, [], ◌∷◌, ◌++◌, map}
use mathlib.Core.Option.{Option, none, some}
use Prim.Native.Nat.{suc}
use native.Mathlib.Omega.{arith}
use lib.ListN.{length, length-append, length-map}
use Rattle.sets.specs.Lists.{In, flat}
use Rattle.linear.specs.Field.{Field}
use Rattle.linear.specs.Basis.{Basis, done, free, lead, dot, Sol, all, least, Before}
use Rattle.linear.specs.System.{Row, rev, rev_row, Wide, Meets, meets, choices, solutions, start, solve, Lex}
use Rattle.linear.specs.Theorems.{Absorbed, Told}
use Rattle.sets.proofs.Lists.{in_cast, in_map, of_map, in_flat, of_flat}
use Rattle.linear.proofs.Sorted.{Sorted, sorted_unique, sorted_map, sorted_flat, sorted_keep, in_keep, of_keep}
use Rattle.linear.proofs.Algebra.{add_left_comm, dot_nil, is_not}
use Rattle.linear.proofs.Absorb.{absorb_says}
use Rattle.linear.proofs.Order.{Less, values_sorted, all_sorted, before_lex, lex_asym}
use Rattle.linear.proofs.All.{all_lists, length_all}

module _ {F : Type 0} (K : Field F) where
  open K use {zer, one, add, mul, neg, inv, is, rest, is_eq, is_refl, add_assoc, add_zer, distinct, complete}

  -- a vector that the mask allows
  abbrev Allowed : Bool → F → Type 0
  Allowed true x = Unit {0}
  Allowed false x = x ≡ zer

  abbrev pub Sub : List Bool → List F → Type 0
  Sub [] [] = Unit {0}
  Sub [] (x ∷ xs) = ⊥
  Sub (b ∷ m) [] = ⊥
  Sub (b ∷ m) (x ∷ xs) = Allowed b x × Sub m xs

  sub_start : (m : List Bool) (x : List F) → Sol K (start K m) x ↔ Sub m x
  sub_start [] [] = (λ h. h, λ h. h)
  sub_start [] (x ∷ xs) = (λ h. h, λ h. h)
  sub_start (true ∷ m) [] = (λ h. h, λ h. h)
  sub_start (true ∷ m) (x ∷ xs) = (λ h. (tt, (sub_start m xs).0 h), λ h. (sub_start m xs).1 h.1)
  sub_start (false ∷ m) [] = (λ h. h, λ h. h)
  sub_start (false ∷ m) (x ∷ xs) =
      let e : add x (dot K [] xs) ≡ x = ap (add x) (dot_nil K xs) ∙ add_zer x in
      (λ h. (sym e ∙ h.0, (sub_start m xs).0 h.1), λ h. (e ∙ h.0, (sub_start m xs).1 h.1))

  sub_snoc : (m : List Bool) (x : List F) (b : Bool) (c : F) → Sub m x → Allowed b c → Sub (m ++ (b ∷ [])) (x ++ (c ∷ []))
  sub_snoc [] [] b c h a = (a, tt)
  sub_snoc [] (x ∷ xs) b c h a = absurd h
  sub_snoc (d ∷ m) [] b c h a = absurd h
  sub_snoc (d ∷ m) (x ∷ xs) b c h a = (h.0, sub_snoc m xs b c h.1 a)

  sub_rev : (m : List Bool) (x : List F) → Sub m x → Sub (rev m) (rev x)
  sub_rev [] [] h = h
  sub_rev [] (x ∷ xs) h = absurd h
  sub_rev (b ∷ m) [] h = absurd h
  sub_rev (b ∷ m) (x ∷ xs) h = sub_snoc (rev m) (rev xs) b x (sub_rev m xs h.1) h.0

  sub_length : (m : List Bool) (x : List F) → Sub m x → length x ≡ length m
  sub_length [] [] h = refl
  sub_length [] (x ∷ xs) h = absurd h
  sub_length (b ∷ m) [] h = absurd h
  sub_length (b ∷ m) (x ∷ xs) h = ap suc (sub_length m xs h.1)

  -- the choices are what the mask allows, in order
  abbrev Are : List Bool → Type 0
  Are m = (x : List F) → In x (choices K m) ↔ Sub m x

  are_none : Are []
  are_none [] = (λ h. tt, λ h. inl refl)
  are_none (x ∷ xs) = (λ h. elim h [ inl e ↦ absurd (true≢false (ap (λ l. elim l [ [] ↦ false | y ∷ ys ↦ true ]) e)) | inr n ↦ n ], λ h. absurd h)

  are_true : (m : List Bool) → Are m → Are (true ∷ m)
  are_true m ih x = (λ h. into (of_flat x (zer ∷ rest) row h), λ h. out x h)
    where
      row : (v : F) → In v (zer ∷ rest) → List (List F)
      row v _ = map (λ y. v ∷ y) (choices K m)

      into : (v : F) × (n : In v (zer ∷ rest)) × In x (row v n) → Sub (true ∷ m) x
      into (v, n, k) = let q = of_map (λ y. v ∷ y) x (choices K m) k in subst (Sub (true ∷ m)) (sym q.2) (tt, (ih q.0).0 q.1)

      out : (y : List F) → Sub (true ∷ m) y → In y (choices K (true ∷ m))
      out [] h = absurd h
      out (v ∷ y) h = in_flat (v ∷ y) v (zer ∷ rest) row (complete v) (λ n. in_map (λ z. v ∷ z) y (choices K m) ((ih y).1 h.1))

  are_false : (m : List Bool) → Are m → Are (false ∷ m)
  are_false m ih x = (λ h. into (of_map (λ y. zer ∷ y) x (choices K m) h), λ h. out x h)
    where
      into : (y : List F) × In y (choices K m) × (x ≡ zer ∷ y) → Sub (false ∷ m) x
      into (y, n, e) = subst (Sub (false ∷ m)) (sym e) (refl, (ih y).0 n)

      out : (y : List F) → Sub (false ∷ m) y → In y (choices K (false ∷ m))
      out [] h = absurd h
      out (v ∷ y) h = in_cast (choices K (false ∷ m)) (ap (λ t. t ∷ y) h.0) (in_map (λ z. zer ∷ z) y (choices K m) ((ih y).1 h.1))

  choices_are : (m : List Bool) → Are m
  choices_are [] = are_none
  choices_are (true ∷ m) = are_true m (choices_are m)
  choices_are (false ∷ m) = are_false m (choices_are m)

  choices_sorted : (m : List Bool) → Sorted (Lex K) (choices K m)
  choices_sorted [] = (λ y h. absurd h, tt)
  choices_sorted (true ∷ m) =
      sorted_flat (Less K) (Lex K) (zer ∷ rest) (λ v _. map (λ x. v ∷ x) (choices K m))
      (λ v _. sorted_map (Lex K) (Lex K) (λ x. v ∷ x) (choices K m) (λ x y _ _ h. inr (refl, h)) (choices_sorted m))
      (λ v w _ _ h y y' a b. apart v w y y' h (of_map (λ x. v ∷ x) y (choices K m) a) (of_map (λ x. w ∷ x) y' (choices K m) b))
      (values_sorted K)
    where
      apart : (v w : F) (y y' : List F) → Less K v w → (x : List F) × In x (choices K m) × (y ≡ v ∷ x) → (x : List F) × In x (choices K m) × (y' ≡ w ∷ x) → Lex K y y'
      apart v w y y' h (x, _, e) (x', _, f) = subst (λ (t : List F). Lex K t y') (sym e) (subst (Lex K (v ∷ x)) (sym f) (inl h))
  choices_sorted (false ∷ m) = sorted_map (Lex K) (Lex K) (λ x. zer ∷ x) (choices K m) (λ x y _ _ h. inr (refl, h)) (choices_sorted m)

  -- turned round, a row says the same
  dot_snoc : (a x : List F) (b y : F) → length a ≡ length x → dot K (a ++ (b ∷ [])) (x ++ (y ∷ [])) ≡ add (mul b y) (dot K a x)
  dot_snoc [] [] b y e = refl
  dot_snoc [] (x ∷ xs) b y e = absurd (omega arith)
  dot_snoc (c ∷ a) [] b y e = absurd (omega arith)
  dot_snoc (c ∷ a) (x ∷ xs) b y e =
      let e' : length a ≡ length xs = omega arith in
      ap (add (mul c x)) (dot_snoc a xs b y e') ∙ add_left_comm K (mul c x) (mul b y) (dot K a xs)

  pub length_rev : {X : Type 0} (l : List X) → length (rev l) ≡ length l
  length_rev [] = refl
  length_rev (x ∷ l) = length-append (rev l) (x ∷ []) ∙ omega (arith, length_rev l)

  pub dot_rev : (a x : List F) → length a ≡ length x → dot K (rev a) (rev x) ≡ dot K a x
  dot_rev [] [] e = refl
  dot_rev [] (x ∷ xs) e = absurd (omega arith)
  dot_rev (c ∷ a) [] e = absurd (omega arith)
  dot_rev (c ∷ a) (x ∷ xs) e =
      let e' : length a ≡ length xs = omega arith in
      let e'' : length (rev a) ≡ length (rev xs) = length_rev a ∙ e' ∙ sym (length_rev xs) in
      dot_snoc (rev a) (rev xs) c x e'' ∙ ap (add (mul c x)) (dot_rev a xs e')

  meets_rev : (rows : List (Row F)) (x : List F) → Wide (length x) rows → Meets K (map rev_row rows) (rev x) ↔ Meets K rows x
  meets_rev [] x w = (λ h. h, λ h. h)
  meets_rev (r ∷ rows) x w =
      let e : dot K (rev r.left) (rev x) ≡ dot K r.left x = dot_rev r.left x w.0 in
      let ih : Meets K (map rev_row rows) (rev x) ↔ Meets K rows x = meets_rev rows x w.1 in
      (λ h. (sym e ∙ h.0, ih.0 h.1), λ h. (e ∙ h.0, ih.1 h.1))

  meets_test : (rows : List (Row F)) (x : List F) → (meets K rows x ≡ true) ↔ Meets K rows x
  meets_test [] x = (λ _. tt, λ _. refl)
  meets_test (r ∷ rows) x = go (is (dot K r.left x) r.right) refl (meets_test rows x)
    where
      go : (t : Bool) → is (dot K r.left x) r.right ≡ t → (meets K rows x ≡ true) ↔ Meets K rows x → ((t && meets K rows x) ≡ true) ↔ Meets K (r ∷ rows) x
      go true e ih = (λ h. (is_eq (dot K r.left x) r.right e, ih.0 h), λ h. ih.1 h.1)
      go false e ih = (λ h. absurd (true≢false (sym h)), λ h. absurd (is_not K (dot K r.left x) r.right e h.0))

  rev_snoc : {X : Type 0} (l : List X) (a : X) → rev (l ++ (a ∷ [])) ≡ a ∷ rev l
  rev_snoc [] a = refl
  rev_snoc (x ∷ l) a = ap (λ t. t ++ (x ∷ [])) (rev_snoc l a)

  pub rev_rev : {X : Type 0} (l : List X) → rev (rev l) ≡ l
  rev_rev [] = refl
  rev_rev (x ∷ l) = rev_snoc (rev l) x ∙ ap (λ t. x ∷ t) (rev_rev l)

  sub_back : (m : List Bool) (x : List F) → Sub (rev m) (rev x) → Sub m x
  sub_back m x h = subst (λ (t : List F). Sub m t) (rev_rev x) (subst (λ (n : List Bool). Sub n (rev (rev x))) (rev_rev m) (sub_rev (rev m) (rev x) h))

  -- what is a solution
  is_solution : (m : List Bool) (rows : List (Row F)) (x : List F) → In x (solutions K m rows) ↔ (Sub m x × Meets K rows x)
  is_solution m rows x = (
    λ h. let r = of_keep Less·any (meets K rows) x (choices K m) h in ((choices_are m x).0 r.0, (meets_test rows x).0 r.1),
    λ h. in_keep Less·any (meets K rows) x (choices K m) ((choices_are m x).1 h.0) ((meets_test rows x).1 h.1),
  )
    where
      Less·any : List F → List F → Type 0
      Less·any x y = Unit {0}

  -- What the basis of a system answers: with none there is no solution; else the solutions are those of the basis, in their order,
  -- the first is the least, and they are as many as (number of values) ^ slack
  abbrev pub Answers : List Bool → List (Row F) → Option (Basis F) → Type 0
  Answers m rows none = solutions K m rows ≡ []
  Answers m rows (some B) = solutions K m rows ≡ map rev (all K B)

  nothing_in : {X : Type 0} (l : List X) → ((x : X) → In x l → ⊥) → l ≡ []
  nothing_in [] h = refl
  nothing_in (x ∷ l) h = absurd (h x (inl refl))

  answers : (m : List Bool) (rows : List (Row F)) → Wide (length m) rows → (o : Option (Basis F)) → Absorbed K (start K (rev m)) (map rev_row rows) o → Answers m rows o
  answers m rows w none says = nothing_in (solutions K m rows) none_in
    where
      none_in : (x : List F) → In x (solutions K m rows) → ⊥
      none_in x h =
          let p = (is_solution m rows x).0 h in
          says (rev x) ((sub_start (rev m) (rev x)).1 (sub_rev m x p.0))
          ((meets_rev rows x (subst (λ n. Wide n rows) (sym (sub_length m x p.0)) w)).1 p.1)
  answers m rows w (some B) says =
      sorted_unique (Lex K) (lex_asym K) (solutions K m rows) (map rev (all K B)) (sorted_keep (Lex K) (meets K rows) (choices K m) (choices_sorted m))
      (sorted_map (Before K) (Lex K) rev (all K B) (λ x y _ _ h. before_lex K x y h) (all_sorted K B)) (λ x. (to x, from x))
    where
      to : (x : List F) → In x (solutions K m rows) → In x (map rev (all K B))
      to x h =
          let p = (is_solution m rows x).0 h in
          let s : Sol K B (rev x) = (says (rev x)).1 (
            (sub_start (rev m) (rev x)).1 (sub_rev m x p.0),
            (meets_rev rows x (subst (λ n. Wide n rows) (sym (sub_length m x p.0)) w)).1 p.1,
          ) in
          in_cast (map rev (all K B)) (sym (rev_rev x)) (in_map rev (rev x) (all K B) ((all_lists K B).complete (rev x) s))

      from : (x : List F) → In x (map rev (all K B)) → In x (solutions K m rows)
      from x h =
          let q = of_map rev x (all K B) h in
          let e : q.0 ≡ rev x = sym (rev_rev q.0) ∙ ap rev (sym q.2) in
          let s : Sol K B (rev x) = subst (Sol K B) e ((all_lists K B).sound q.0 q.1) in
          let p = (says (rev x)).0 s in
          let u : Sub m x = sub_back m x ((sub_start (rev m) (rev x)).0 p.0) in
          (is_solution m rows x).1 (u, (meets_rev rows x (subst (λ n. Wide n rows) (sym (sub_length m x u)) w)).0 p.1)

  pub solve_answers : (m : List Bool) (rows : List (Row F)) → Wide (length m) rows → Answers m rows (solve K m rows)
  solve_answers m rows w = answers m rows w (solve K m rows) (absorb_says K (start K (rev m)) (map rev_row rows))

  -- the first of all solutions is the least
  pub all_first : (B : Basis F) → (t : List (List F)) × (all K B ≡ least K B ∷ t)
  all_first done = ([], refl)
  all_first (free B) =
      let r = all_first B in (
        map (λ v. v ∷ least K B) rest ++ flat (λ xs. map (λ v. v ∷ xs) (zer ∷ rest)) r.0,
        ap (flat (λ xs. map (λ v. v ∷ xs) (zer ∷ rest))) r.1,
      )
  all_first (lead r s B) =
      let q = all_first B in
      (map (λ xs. add s (neg (dot K r xs)) ∷ xs) q.0, ap (map (λ xs. add s (neg (dot K r xs)) ∷ xs)) q.1)

  told : (m : List Bool) (rows : List (Row F)) (o : Option (Basis F)) → Answers m rows o → Told K m rows o
  told m rows none h = h
  told m rows (some B) h =
      let r = all_first B in (
        (map rev r.0, h ∙ ap (map rev) r.1),
        ap length h ∙ length-map (all K B) rev ∙ length_all K B,
      )

  pub solve_tells : (m : List Bool) (rows : List (Row F)) → Wide (length m) rows → Told K m rows (solve K m rows)
  solve_tells m rows w = told m rows (solve K m rows) (solve_answers m rows w)

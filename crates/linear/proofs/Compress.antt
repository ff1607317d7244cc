-- The solutions under a mask are those over the mask's own unknowns, put back among all.
use mathlib.Core.Path.{◌≡◌, refl, sym, ap, ◌∙◌, fun_ext}
use mathlib.Core.Bool.{Bool, true, false, ◌&&◌}
use mathlib.Core.List.{List, [], ◌∷◌, ◌++◌, map, map-append, map-map}
use Rattle.sets.specs.Lists.{flat}
use Rattle.linear.specs.Field.{Field}
use Rattle.linear.specs.Basis.{hd, tl, dot}
use Rattle.linear.specs.System.{Row, keep, keep_if, meets, choices, solutions}
use Rattle.linear.specs.Compress.{trues, expand, compress, compress_row}
use Rattle.linear.proofs.Algebra.{zer_add, mul_zer, dot_nil}

map_flat : {X Y Z : Type 0} (f : Y → Z) (g : X → List Y) (l : List X) → map f (flat g l) ≡ flat (λ x. map f (g x)) l
map_flat f g [] = refl
map_flat f g (x ∷ l) = map-append f (g x) (flat g l) ∙ ap (λ t. map f (g x) ++ t) (map_flat f g l)

keep_map : {X Y : Type 0} (p : Y → Bool) (f : X → Y) (l : List X) → keep p (map f l) ≡ map f (keep (λ x. p (f x)) l)
keep_map p f [] = refl
keep_map {X} {Y} p f (x ∷ l) = go (p (f x)) (keep_map p f l)
  where
    go : (t : Bool) → keep p (map f l) ≡ map f (keep (λ x. p (f x)) l) → keep_if t (f x) (keep p (map f l)) ≡ map f (keep_if t x (keep (λ x. p (f x)) l))
    go true e = ap (λ s. f x ∷ s) e
    go false e = e

module _ {F : Type 0} (K : Field F) where
  open K use {zer, one, add, mul, neg, inv, is, rest, add_zer}

  choices_expand : (m : List Bool) → choices K m ≡ map (expand K m) (choices K (trues m))
  choices_expand [] = refl
  choices_expand (true ∷ m) =
      ap (λ t. flat (λ v. map (λ x. v ∷ x) t) (zer ∷ rest)) (choices_expand m)
      ∙ ap (λ g. flat g (zer ∷ rest)) (fun_ext (λ v. map-map (λ x. v ∷ x) (expand K m) (choices K (trues m)) ∙ sym (map-map (expand K (true ∷ m)) (λ x. v ∷ x) (choices K (trues m)))))
      ∙ sym (map_flat (expand K (true ∷ m)) (λ v. map (λ x. v ∷ x) (choices K (trues m))) (zer ∷ rest))
  choices_expand (false ∷ m) = ap (map (λ x. zer ∷ x)) (choices_expand m) ∙ map-map (λ x. zer ∷ x) (expand K m) (choices K (trues m))

  dot_expand_nil : (a : List F) (m : List Bool) → dot K a (expand K m []) ≡ zer
  dot_expand_nil a [] = refl
  dot_expand_nil a (true ∷ m) = ap (add (mul (hd K a) zer)) (dot_expand_nil (tl K a) m) ∙ add_zer (mul (hd K a) zer) ∙ mul_zer K (hd K a)
  dot_expand_nil a (false ∷ m) = ap (add (mul (hd K a) zer)) (dot_expand_nil (tl K a) m) ∙ add_zer (mul (hd K a) zer) ∙ mul_zer K (hd K a)

  pub dot_expand : (m : List Bool) (a y : List F) → dot K a (expand K m y) ≡ dot K (compress K m a) y
  dot_expand [] a y = sym (dot_nil K y)
  dot_expand (true ∷ m) a [] = dot_expand_nil a (true ∷ m)
  dot_expand (true ∷ m) a (y ∷ ys) = ap (add (mul (hd K a) y)) (dot_expand m (tl K a) ys)
  dot_expand (false ∷ m) a y =
      ap (λ t. add t (dot K (tl K a) (expand K m y))) (mul_zer K (hd K a))
      ∙ zer_add K (dot K (tl K a) (expand K m y))
      ∙ dot_expand m (tl K a) y

  meets_expand : (m : List Bool) (rows : List (Row F)) (y : List F) → meets K rows (expand K m y) ≡ meets K (map (compress_row K m) rows) y
  meets_expand m [] y = refl
  meets_expand m (r ∷ rows) y =
      ap (λ t. is t r.right && meets K rows (expand K m y)) (dot_expand m r.left y)
      ∙ ap (λ t. is (dot K (compress K m r.left) y) r.right && t) (meets_expand m rows y)

  pub solutions_expand : (m : List Bool) (rows : List (Row F)) → solutions K m rows ≡ map (expand K m) (solutions K (trues m) (map (compress_row K m) rows))
  solutions_expand m rows =
      ap (keep (meets K rows)) (choices_expand m)
      ∙ keep_map (meets K rows) (expand K m) (choices K (trues m))
      ∙ ap (λ p. map (expand K m) (keep p (choices K (trues m)))) (fun_ext (meets_expand m rows))

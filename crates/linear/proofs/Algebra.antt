-- What follows from the laws of a field.
use mathlib.Core.Path.{◌≡◌, refl, sym, ap, ◌∙◌}
use mathlib.Core.Logic.{inl, inr, ◌↔◌, ◌≢◌}
use mathlib.Core.Bool.{false, true≢false}
use mathlib.Core.List.{List, [], ◌∷◌, map}
use Rattle.linear.specs.Field.{Field}
use Rattle.linear.specs.Basis.{hd, tl, dot, mix}

module _ {F : Type 0} (K : Field F) where
  open K use {zer, one, add, mul, neg, inv, is, rest, add_assoc, add_comm, add_zer, add_neg, mul_assoc, mul_comm, mul_one, mul_add, mul_inv, is_refl, is_eq}

  pub zer_add : (a : F) → add zer a ≡ a
  zer_add a = add_comm zer a ∙ add_zer a

  pub add_left_comm : (a b c : F) → add a (add b c) ≡ add b (add a c)
  add_left_comm a b c = sym (add_assoc a b c) ∙ ap (λ t. add t c) (add_comm a b) ∙ add_assoc b a c

  pub cancel : (a b c : F) → add a c ≡ add b c → a ≡ b
  cancel a b c e = sym (undo a) ∙ ap (λ t. add t (neg c)) e ∙ undo b
    where
      undo : (x : F) → add (add x c) (neg c) ≡ x
      undo x = add_assoc x c (neg c) ∙ ap (add x) (add_neg c) ∙ add_zer x

  pub mul_zer : (a : F) → mul a zer ≡ zer
  mul_zer a = cancel (mul a zer) zer (mul a zer) (sym (mul_add a zer zer) ∙ ap (mul a) (add_zer zer) ∙ sym (zer_add (mul a zer)))

  pub zer_mul : (a : F) → mul zer a ≡ zer
  zer_mul a = mul_comm zer a ∙ mul_zer a

  pub add_mul : (a b c : F) → mul (add a b) c ≡ add (mul a c) (mul b c)
  add_mul a b c = mul_comm (add a b) c ∙ mul_add c a b ∙ ap (λ t. add t (mul c b)) (mul_comm c a) ∙ ap (add (mul a c)) (mul_comm c b)

  pub neg_mul_add : (c x : F) → add (mul c x) (mul (neg c) x) ≡ zer
  neg_mul_add c x = sym (add_mul c (neg c) x) ∙ ap (λ t. mul t x) (add_neg c) ∙ zer_mul x

  -- sums of four, regrouped
  pub regroup : (p q r s : F) → add (add p q) (add r s) ≡ add (add p r) (add q s)
  regroup p q r s = simp (add_assoc, add_left_comm)

  -- a coefficient c is taken off by a row x + d ≡ s
  pub reduce : (c x p d b s : F) → add x d ≡ s → (add p (mul (neg c) d) ≡ add b (mul (neg c) s)) ↔ (add (mul c x) p ≡ b)
  reduce c x p d b s h = (λ e. cancel (add (mul c x) p) b (mul (neg c) s) (key ∙ e), λ e. sym key ∙ ap (λ t. add t (mul (neg c) s)) e)
    where
      key : add (add (mul c x) p) (mul (neg c) s) ≡ add p (mul (neg c) d)
      key =
          ap (λ t. add (add (mul c x) p) (mul (neg c) t)) (sym h)
          ∙ ap (add (add (mul c x) p)) (mul_add (neg c) x d)
          ∙ regroup (mul c x) p (mul (neg c) x) (mul (neg c) d)
          ∙ ap (λ t. add t (add p (mul (neg c) d))) (neg_mul_add c x)
          ∙ zer_add (add p (mul (neg c) d))

  -- a row is divided by its leading coefficient
  pub divide : (c k x d b : F) → mul k c ≡ one → (add x (mul k d) ≡ mul k b) ↔ (add (mul c x) d ≡ b)
  divide c k x d b h = (λ e. sym (back x d) ∙ ap (mul c) e ∙ one_back b, λ e. sym (forth x d) ∙ ap (mul k) e)
    where
      one_back : (t : F) → mul c (mul k t) ≡ t
      one_back t = sym (mul_assoc c k t) ∙ ap (λ u. mul u t) (mul_comm c k ∙ h) ∙ mul_comm one t ∙ mul_one t

      one_forth : (t : F) → mul k (mul c t) ≡ t
      one_forth t = sym (mul_assoc k c t) ∙ ap (λ u. mul u t) h ∙ mul_comm one t ∙ mul_one t

      back : (x d : F) → mul c (add x (mul k d)) ≡ add (mul c x) d
      back x d = mul_add c x (mul k d) ∙ ap (add (mul c x)) (one_back d)

      forth : (x d : F) → mul k (add (mul c x) d) ≡ add x (mul k d)
      forth x d = mul_add k (mul c x) d ∙ ap (λ t. add t (mul k d)) (one_forth x)

  -- what is left of s after d, and d, make s
  pub leave : (s d : F) → add (add s (neg d)) d ≡ s
  leave s d = add_assoc s (neg d) d ∙ ap (add s) (add_comm (neg d) d ∙ add_neg d) ∙ add_zer s

  pub left_of_lem : (x d s : F) → add x d ≡ s → x ≡ add s (neg d)
  left_of_lem x d s e = cancel x (add s (neg d)) d (e ∙ sym (leave s d))

  pub is_not : (a b : F) → is a b ≡ false → a ≢ b
  is_not a b e q = true≢false (sym (is_refl a) ∙ ap (is a) q ∙ e)

  pub inverts : (c : F) → c ≢ zer → mul (inv c) c ≡ one
  inverts c h = elim (mul_inv c) [ inl e ↦ absurd (h e) | inr e ↦ e ]

  -- dot products
  pub dot_nil : (x : List F) → dot K [] x ≡ zer
  dot_nil [] = refl
  dot_nil (x ∷ xs) = ap (add (mul zer x)) (dot_nil xs) ∙ add_zer (mul zer x) ∙ zer_mul x

  pub hd_mix : (k : F) (r a : List F) → hd K (mix K k r a) ≡ add (hd K a) (mul k (hd K r))
  hd_mix k [] a = sym (ap (add (hd K a)) (mul_zer k) ∙ add_zer (hd K a))
  hd_mix k (y ∷ r) a = refl

  pub tl_mix : (k : F) (r a : List F) → tl K (mix K k r a) ≡ mix K k (tl K r) (tl K a)
  tl_mix k [] a = refl
  tl_mix k (y ∷ r) a = refl

  pub dot_mix : (k : F) (r a x : List F) → dot K (mix K k r a) x ≡ add (dot K a x) (mul k (dot K r x))
  dot_mix k r a [] = sym (zer_add (mul k zer) ∙ mul_zer k)
  dot_mix k r a (x ∷ xs) =
      ap (λ t. add (mul t x) (dot K (tl K (mix K k r a)) xs)) (hd_mix k r a)
      ∙ ap (λ t. add (mul (add (hd K a) (mul k (hd K r))) x) (dot K t xs)) (tl_mix k r a)
      ∙ ap (add (mul (add (hd K a) (mul k (hd K r))) x)) (dot_mix k (tl K r) (tl K a) xs)
      ∙ simp (add_mul, mul_add, mul_assoc, regroup (mul (hd K a) x) (mul k (mul (hd K r) x)) (dot K (tl K a) xs) (mul k (dot K (tl K r) xs)))

  pub dot_scale : (k : F) (a x : List F) → dot K (map (mul k) a) x ≡ mul k (dot K a x)
  dot_scale k a [] = sym (mul_zer k)
  dot_scale k [] (x ∷ xs) = dot_nil (x ∷ xs) ∙ sym (ap (mul k) (dot_nil (x ∷ xs)) ∙ mul_zer k)
  dot_scale k (c ∷ a) (x ∷ xs) =
      ap (add (mul (mul k c) x)) (dot_scale k a xs)
      ∙ ap (λ t. add t (mul k (dot K a xs))) (mul_assoc k c x)
      ∙ sym (mul_add k (mul c x) (dot K a xs))

-- How large sets are.
use Rattle.std.proofs.Common.{◌≡◌, ℕ, zero, suc, ◌+◌, ◌<◌, ◌≤◌, Bool, true, false, not, ◌&&◌, ◌⊎◌, List, [], ◌∷◌, map, length, sym, refl, ap, ◌∙◌, inl, inr, true≢false, arith}
use mathlib.Core.Bool.{false≢true}
use Rattle.sets.specs.Sets.{has, join, less, any, size, size_if, lowest}

pub size_length : (m : List Bool) → size m ≤ length m
size_length [] = omega arith
size_length (true ∷ m) = omega (arith, size_length m)
size_length (false ∷ m) = omega (arith, size_length m)

pub size_some : (m : List Bool) (i : ℕ) → has m i ≡ true → 1 ≤ size m
size_some [] i e = absurd (false≢true e)
size_some (true ∷ m) i e = omega arith
size_some (false ∷ m) zero e = absurd (false≢true e)
size_some (false ∷ m) (suc i) e = size_some m i e

pub size_zero : (m : List Bool) → any m ≡ false → size m ≤ 0
size_zero [] e = omega arith
size_zero (true ∷ m) e = absurd (true≢false e)
size_zero (false ∷ m) e = size_zero m e

-- a larger set of the same range, or the same
pub more_or_same : (a b : List Bool) → length a ≡ length b → ((k : ℕ) → has a k ≡ true → has b k ≡ true) → (b ≡ a) ⊎ (size a < size b)
more_or_same [] [] l h = inl refl
more_or_same [] (y ∷ b) l h = absurd (omega arith)
more_or_same (x ∷ a) [] l h = absurd (omega arith)
more_or_same (x ∷ a) (y ∷ b) l h = let l' : length a ≡ length b = omega arith in go x y (h 0) (more_or_same a b l' (λ k. h (suc k)))
  where
    go : (x y : Bool) → (x ≡ true → y ≡ true) → (b ≡ a) ⊎ (size a < size b) → (◌≡◌ {A = List Bool} (y ∷ b) (x ∷ a)) ⊎ (size (x ∷ a) < size (y ∷ b))
    go true true f (inl e) = inl (ap (λ t. true ∷ t) e)
    go true true f (inr m) = inr (omega arith)
    go true false f r = absurd (false≢true (f refl))
    go false true f (inl e) = inr (omega (arith, ap size e))
    go false true f (inr m) = inr (omega arith)
    go false false f (inl e) = inl (ap (λ t. false ∷ t) e)
    go false false f (inr m) = inr m

pub size_within : (a b : List Bool) → length a ≡ length b → ((k : ℕ) → has a k ≡ true → has b k ≡ true) → size a ≤ size b
size_within a b l h = elim (more_or_same a b l h) [ inl e ↦ omega (arith, ap size e) | inr m ↦ omega arith ]

-- what is taken away
pub size_none : (f : Bool → Bool) → ((x : Bool) → f x ≡ false) → (m : List Bool) → size (map f m) ≡ 0
size_none f z [] = refl
size_none f z (x ∷ m) = ap (λ b. size_if b (size (map f m))) (z x) ∙ size_none f z m

size_same : (f : Bool → Bool) → ((x : Bool) → f x ≡ x) → (m : List Bool) → size (map f m) ≡ size m
size_same f z [] = refl
size_same f z (x ∷ m) = ap (λ b. size_if b (size (map f m))) (z x) ∙ ap (size_if x) (size_same f z m)

stay : (x : Bool) → (x && true) ≡ x
stay true = refl
stay false = refl

pub size_less : (a b : List Bool) → size (less a b) ≤ size a
size_less [] b = omega (arith, size_none (λ y. false && not y) (λ y. refl) b)
size_less (x ∷ a) [] = let e : size (less (x ∷ a) []) ≡ size (x ∷ a) = ap (λ t. size_if t (size (map (λ y. y && true) a))) (stay x) ∙ ap (size_if x) (size_same (λ y. y && true) stay a) in omega arith
size_less (true ∷ a) (true ∷ b) = omega (arith, size_less a b)
size_less (true ∷ a) (false ∷ b) = omega (arith, size_less a b)
size_less (false ∷ a) (y ∷ b) = size_less a b

pub size_fewer : (a b : List Bool) (i : ℕ) → has a i ≡ true → has b i ≡ true → size (less a b) < size a
size_fewer [] b i p q = absurd (false≢true p)
size_fewer (x ∷ a) [] i p q = absurd (false≢true q)
size_fewer (true ∷ a) (true ∷ b) zero p q = omega (arith, size_less a b)
size_fewer (true ∷ a) (false ∷ b) zero p q = absurd (false≢true q)
size_fewer (false ∷ a) (y ∷ b) zero p q = absurd (false≢true p)
size_fewer (true ∷ a) (true ∷ b) (suc i) p q = omega (arith, size_fewer a b i p q)
size_fewer (true ∷ a) (false ∷ b) (suc i) p q = omega (arith, size_fewer a b i p q)
size_fewer (false ∷ a) (y ∷ b) (suc i) p q = size_fewer a b i p q

-- sets of one element
pub one_of : (m : List Bool) → size m ≡ 1 → (q : ℕ) × (has m q ≡ true) × ((i : ℕ) → has m i ≡ true → i ≡ q)
one_of [] e = absurd (omega arith)
one_of (true ∷ m) e = (0, refl, λ i. only_here i)
  where
    only_here : (i : ℕ) → has (true ∷ m) i ≡ true → i ≡ 0
    only_here zero t = refl
    only_here (suc i) t = absurd (omega (arith, size_some m i t))
one_of (false ∷ m) e = let r = one_of m e in (suc r.0, r.1, later r.0 r.2)
  where
    later : (q : ℕ) → ((i : ℕ) → has m i ≡ true → i ≡ q) → (i : ℕ) → has (false ∷ m) i ≡ true → i ≡ suc q
    later q f zero t = absurd (false≢true t)
    later q f (suc i) t = ap suc (f i t)

pub one_only : (m : List Bool) → size m ≤ 1 → (i j : ℕ) → has m i ≡ true → has m j ≡ true → i ≡ j
one_only m h i j p q = let e : size m ≡ 1 = omega (arith, size_some m i p) in let r = one_of m e in r.2 i p ∙ sym (r.2 j q)

pub lowest_has : (m : List Bool) → any m ≡ true → has m (lowest m) ≡ true
lowest_has [] e = absurd (false≢true e)
lowest_has (true ∷ m) e = refl
lowest_has (false ∷ m) e = lowest_has m e

-- sizes of sets over the same range
pub size_part : (a k : List Bool) → length a ≡ length k → ((i : ℕ) → has k i ≡ true → has a i ≡ true) → size (less a k) + size k ≡ size a
size_part [] [] l h = refl
size_part [] (y ∷ k) l h = absurd (omega arith)
size_part (x ∷ a) [] l h = absurd (omega arith)
size_part (x ∷ a) (y ∷ k) l h = let l' : length a ≡ length k = omega arith in go x y (h 0) (size_part a k l' (λ i. h (suc i)))
  where
    go : (x y : Bool) → (y ≡ true → x ≡ true) → size (less a k) + size k ≡ size a → size (less (x ∷ a) (y ∷ k)) + size (y ∷ k) ≡ size (x ∷ a)
    go true true f e = omega arith
    go true false f e = omega arith
    go false true f e = absurd (false≢true (f refl))
    go false false f e = e

pub size_join : (a k : List Bool) → length a ≡ length k → size (join a k) ≤ size a + size k
size_join [] [] l = omega arith
size_join [] (y ∷ k) l = absurd (omega arith)
size_join (x ∷ a) [] l = absurd (omega arith)
size_join (x ∷ a) (y ∷ k) l = let l' : length a ≡ length k = omega arith in go x y (size_join a k l')
  where
    go : (x y : Bool) → size (join a k) ≤ size a + size k → size (join (x ∷ a) (y ∷ k)) ≤ size (x ∷ a) + size (y ∷ k)
    go true true e = omega arith
    go true false e = omega arith
    go false true e = omega arith
    go false false e = e

-- Places of unknowns, and a check's coefficients at them, written one after another.
use Rattle.std.proofs.Common.{◌≡◌, ℕ, zero, suc, ◌+◌, ◌<◌, ◌≤◌, ◌≢◌, Bool, true, false, ◌||◌, eqb, List, [], ◌∷◌, ◌++◌, map, length, get_or, take, replicate, sym, refl, ap, ◌∙◌, subst, ap₂, inl, inr, true≢false, arith, eqb-true}
use Rattle.std.proofs.lemmas.List.{take_more, take_all}
use Rattle.std.proofs.lemmas.Bool.{false_from_ne_true}
use Rattle.sets.specs.Bits.{flip}
use Rattle.sets.specs.Lists.{In, Distinct}
use Rattle.sets.specs.Sets.{has, size, elements, elements_from, among}
use Rattle.sets.proofs.Lists.{in_get_or}
use Rattle.sets.proofs.Numbers.{eqb_same, in_among, elements_distinct, length_elements}
use Rattle.linear.specs.Field.{bits}
use Rattle.linear.specs.Compress.{compress}
use Rattle.linear.specs.Basis.{hd, tl}
use Rattle.elimination.specs.Calls.{more}

map_same : (p p' : ℕ → Bool) (E : List ℕ) → ((e : ℕ) → In e E → p e ≡ p' e) → map p E ≡ map p' E
map_same p p' [] h = refl
map_same p p' (e ∷ E) h = ap₂ (λ b t. b ∷ t) (h e (inl refl)) (map_same p p' E (λ d m. h d (inr m)))

among_append : (l r : List ℕ) (d : ℕ) → among d (l ++ r) ≡ (among d l || among d r)
among_append [] r d = refl
among_append (k ∷ l) r d = go (eqb d k) (among_append l r d)
  where
    go : (t : Bool) → among d (l ++ r) ≡ (among d l || among d r) → (t || among d (l ++ r)) ≡ ((t || among d l) || among d r)
    go true e = refl
    go false e = e

pub among_more : (l : List ℕ) (c d : ℕ) → among d (l ++ c ∷ []) ≡ (among d l || eqb d c)
among_more l c d = among_append l (c ∷ []) d ∙ ap (λ b. among d l || b) (go (eqb d c))
  where
    go : (t : Bool) → (t || false) ≡ t
    go true = refl
    go false = refl

-- p' is p with q besides
module _ (p p' : ℕ → Bool) (q : ℕ) (before : p q ≡ false) (at : p' q ≡ true) (others : (e : ℕ) → e ≢ q → p e ≡ p' e) where
  -- q stands at the place t, and its coefficient is put there
  put_at : (E : List ℕ) (t : ℕ) → Distinct E → t < length E → get_or E t 0 ≡ q → more bits (map p E) t true ≡ map p' E
  put_at [] t once l e = absurd (omega arith)
  put_at (d ∷ E) zero once l e =
      ap₂ (λ b s. b ∷ s) (ap (λ b. flip b true) (ap p e ∙ before) ∙ sym at ∙ sym (ap p' e))
      (map_same p p' E (λ a m. others a (λ same. once.0 (subst (λ (n : ℕ). In n E) (same ∙ sym e) m))))
  put_at (d ∷ E) (suc t) once l e =
      let l' : t < length E = omega arith in
      ap₂ (λ b s. b ∷ s) (others d (λ same. once.0 (subst (λ (n : ℕ). In n E) (e ∙ sym same) (in_get_or E t 0 l')))) (put_at E t once.1 l' e)

  -- q is not there, and nothing is put
  leave : (E : List ℕ) → among q E ≡ false → map p E ≡ map p' E
  leave E none = map_same p p' E (λ a m. others a (λ same. absurd (true≢false (sym (in_among q E (subst (λ (n : ℕ). In n E) same m)) ∙ none))))

-- what is written of a list of qubits: the coefficients at the unknowns k
pub written_of : List Bool → List ℕ → List Bool
written_of k l = map (λ e. among e l) (elements k)

not_before : (l : List ℕ) (j : ℕ) → Distinct l → j < length l → among (get_or l j 0) (take j l) ≡ false
not_before [] j once h = absurd (omega arith)
not_before (x ∷ l) zero once h = refl
not_before (x ∷ l) (suc j) once h =
    let h' : j < length l = omega arith in
    go (eqb (get_or l j 0) x) refl (not_before l j once.1 h') h'
  where
    go : (t : Bool) → eqb (get_or l j 0) x ≡ t → among (get_or l j 0) (take j l) ≡ false → j < length l → (t || among (get_or l j 0) (take j l)) ≡ false
    go true e ih h' = absurd (once.0 (subst (λ (n : ℕ). In n l) (eqb-true (get_or l j 0) x e) (in_get_or l j 0 h')))
    go false e ih h' = ih

-- with one number more of a list
pub among_taken : (l : List ℕ) (j : ℕ) → j < length l → (e : ℕ) → among e (take (j + 1) l) ≡ (among e (take j l) || eqb e (get_or l j 0))
among_taken l j h e = ap (among e) (take_more l j 0 h) ∙ among_more (take j l) (get_or l j 0) e

-- with the next qubit
module _ (k : List Bool) (l : List ℕ) (j : ℕ) (once : Distinct l) (h : j < length l) where
  among_next : (e : ℕ) → among e (take (j + 1) l) ≡ (among e (take j l) || eqb e (get_or l j 0))
  among_next = among_taken l j h

  at_next : among (get_or l j 0) (take (j + 1) l) ≡ true
  at_next = among_next (get_or l j 0) ∙ ap₂ (λ a b. a || b) (not_before l j once h) (eqb_same (get_or l j 0))

  other_next : (e : ℕ) → e ≢ get_or l j 0 → among e (take j l) ≡ among e (take (j + 1) l)
  other_next e ne = sym (among_next e ∙ ap (λ b. among e (take j l) || b) (false_from_ne_true (eqb e (get_or l j 0)) (λ t. ne (eqb-true e (get_or l j 0) t))) ∙ go (among e (take j l)))
    where
      go : (t : Bool) → (t || false) ≡ t
      go true = refl
      go false = refl

  pub written_put : (t : ℕ) → t < length (elements k) → get_or (elements k) t 0 ≡ get_or l j 0 → more bits (written_of k (take j l)) t true ≡ written_of k (take (j + 1) l)
  unfolding written_of
  written_put t =
      put_at (λ e. among e (take j l)) (λ e. among e (take (j + 1) l)) (get_or l j 0) (not_before l j once h) at_next other_next (elements k) t (elements_distinct 0 k)

  pub written_left : among (get_or l j 0) (elements k) ≡ false → written_of k (take j l) ≡ written_of k (take (j + 1) l)
  unfolding written_of
  written_left = leave (λ e. among e (take j l)) (λ e. among e (take (j + 1) l)) (get_or l j 0) (not_before l j once h) at_next other_next (elements k)

map_none : (E : List ℕ) → map (λ e. false) E ≡ replicate (length E) false
map_none [] = refl
map_none (e ∷ E) = ap (λ t. false ∷ t) (map_none E)

pub written_none : (k : List Bool) → replicate (size k) false ≡ written_of k []
unfolding written_of
written_none k = ap (λ n. replicate n false) (sym (length_elements 0 k)) ∙ sym (map_none (elements k))

pub has_tl : (a : List Bool) (i : ℕ) → has (tl bits a) i ≡ has a (suc i)
has_tl [] i = refl
has_tl (x ∷ a) i = refl

pub has_hd : (a : List Bool) → hd bits a ≡ has a 0
has_hd [] = refl
has_hd (x ∷ a) = refl

compressed : (from : ℕ) (m a b : List Bool) → ((i : ℕ) → has a i ≡ has b (from + i)) → map (has b) (elements_from from m) ≡ compress bits m a
compressed from [] a b h = refl
compressed from (true ∷ m) a b h =
    ap₂ (λ x t. x ∷ t) (sym (has_hd a ∙ h 0 ∙ ap (has b) (omega arith)))
    (compressed (from + 1) m (tl bits a) b (λ i. has_tl a i ∙ h (suc i) ∙ ap (has b) (omega arith)))
compressed from (false ∷ m) a b h = compressed (from + 1) m (tl bits a) b (λ i. has_tl a i ∙ h (suc i) ∙ ap (has b) (omega arith))

-- with all qubits of a row
pub written_all : (k : List Bool) (l : List ℕ) (j : ℕ) (a : List Bool) → length l ≤ j → ((e : ℕ) → among e l ≡ has a e) → written_of k (take j l) ≡ compress bits k a
unfolding written_of
written_all k l j a h names =
    map_same (λ e. among e (take j l)) (has a) (elements k) (λ e _. ap (among e) (take_all j l h) ∙ names e)
    ∙ compressed 0 k a a (λ i. ap (has a) (omega arith))

-- A cluster lies in the erased qubits of its side, and holds each of those that an open check holds together with one of its qubits.
use Rattle.std.proofs.Common.{◌≡◌, ℕ, zero, suc, ◌+◌, ◌<◌, ◌≤◌, Bool, true, false, cond, not, ◌&&◌, ◌||◌, ◌⊎◌, List, [], ◌∷◌, map, length, drop, sym, refl, ap, ◌∙◌, inl, inr, true≢false, arith}
use Rattle.std.proofs.lemmas.Bool.{cases_Bool, and_parts, and_from, or_cases, or_left, or_right, not-true, not_from_false}
use mathlib.Core.Bool.{false≢true}
use lib.ListN.{length-map}
use Rattle.sets.specs.Bits.{flip, alike}
use Rattle.sets.specs.Lists.{In}
use Rattle.sets.specs.Sets.{has, row, over, meet, only, size, meets, holders}
use Rattle.sets.proofs.Bits.{clash}
use Rattle.sets.proofs.Sets.{has_join, has_meet, has_less, has_below, has_holders, has_meets, meets_some, only_self, only_other, length_only, length_over}
use Rattle.meaning.specs.Meaning.{Meaning, Sound, qubits}
use Rattle.rules.specs.States.{State}
use Rattle.rules.specs.Clusters.{same_side, other_side, touched, spanned, again, grown, cluster, connecting, internal}
use Rattle.rules.proofs.Solutions.{has_drop}
use Rattle.sets.proofs.Sizes.{more_or_same, size_length, size_some}

pub has_map_in : (f : Bool → Bool) (m : List Bool) (i : ℕ) → i < length m → has (map f m) i ≡ f (has m i)
has_map_in f [] i h = absurd (omega arith)
has_map_in f (x ∷ m) zero h = refl
has_map_in f (x ∷ m) (suc i) h = let h' : i < length m = omega arith in has_map_in f m i h'

short : (f : Bool → Bool → Bool) (a b : List Bool) (n : ℕ) → length a ≤ n → length b ≤ n → length (over f a b) ≤ n
short f [] b n p q = omega (arith, length-map b (f false))
short f (x ∷ a) [] n p q = omega (arith, length-map a (λ y. f y false))
short f (x ∷ a) (y ∷ b) zero p q = absurd (omega arith)
short f (x ∷ a) (y ∷ b) (suc n) p q = let p' : length a ≤ n = omega arith in let q' : length b ≤ n = omega arith in omega (arith, short f a b n p' q')

as_left : (f : Bool → Bool → Bool) (a b : List Bool) (n : ℕ) → length a ≡ n → length b ≤ n → length (over f a b) ≡ n
as_left f [] b n p q = omega (arith, length-map b (f false))
as_left f (x ∷ a) [] n p q = omega (arith, length-map a (λ y. f y false))
as_left f (x ∷ a) (y ∷ b) zero p q = absurd (omega arith)
as_left f (x ∷ a) (y ∷ b) (suc n) p q = let p' : length a ≡ n = omega arith in let q' : length b ≤ n = omega arith in omega (arith, as_left f a b n p' q')

in_spanned : (C : List (List Bool)) (A : List Bool) (d i : ℕ) → has A d ≡ true → has (row C d) i ≡ true → has (spanned C A) i ≡ true
in_spanned [] A d i p q = absurd (false≢true q)
in_spanned (c ∷ C) A zero i p q =
    has_join (cond (has A 0) c []) (spanned C (drop 1 A)) i
    ∙ or_left (has (cond (has A 0) c []) i) (has (spanned C (drop 1 A)) i) (ap (λ t. has (cond t c []) i) p ∙ q)
in_spanned (c ∷ C) A (suc d) i p q =
    has_join (cond (has A 0) c []) (spanned C (drop 1 A)) i
    ∙ or_right (has (cond (has A 0) c []) i) (has (spanned C (drop 1 A)) i) (in_spanned C (drop 1 A) d i (has_drop A d ∙ p) q)

short_spanned : (n : ℕ) (C : List (List Bool)) (A : List Bool) → ((c : List Bool) → In c C → length c ≡ n) → length (spanned C A) ≤ n
short_spanned n [] A w = omega arith
short_spanned n (c ∷ C) A w = short ◌||◌ (cond (has A 0) c []) (spanned C (drop 1 A)) n (one (has A 0)) (short_spanned n C (drop 1 A) (λ e m. w e (inr m)))
  where
    one : (b : Bool) → length (cond b c []) ≤ n
    one true = omega (arith, w c (inl refl))
    one false = omega arith

again_fixed : {X : Type 0} (f : X → X) (n : ℕ) (x : X) → f x ≡ x → again n f x ≡ x
again_fixed f zero x e = refl
again_fixed f (suc n) x e = ap (again n f) e ∙ again_fixed f n x e

pub again_keeps : {X : Type 0} (P : X → Type 0) (f : X → X) → ((x : X) → P x → P (f x)) → (n : ℕ) (x : X) → P x → P (again n f x)
again_keeps P f h zero x p = p
again_keeps P f h (suc n) x p = again_keeps P f h n (f x) (h x p)

module _ (n : ℕ) (f : List Bool → List Bool) (long : (x : List Bool) → length x ≡ n → length (f x) ≡ n) (more : (x : List Bool) (k : ℕ) → has x k ≡ true → has (f x) k ≡ true) where
  rises : (m : ℕ) (x : List Bool) → length x ≡ n → (f (again m f x) ≡ again m f x) ⊎ (size x + m ≤ size (again m f x))
  rises zero x l = inr (omega arith)
  rises (suc m) x l = go (more_or_same x (f x) (l ∙ sym (long x l)) (more x)) (rises m (f x) (long x l))
    where
      go : (f x ≡ x) ⊎ (size x < size (f x)) → (f (again m f (f x)) ≡ again m f (f x)) ⊎ (size (f x) + m ≤ size (again m f (f x))) → (f (again m f (f x)) ≡ again m f (f x)) ⊎ (size x + suc m ≤ size (again m f (f x)))
      go (inl e) r = inl (let a : again m f (f x) ≡ x = ap (again m f) e ∙ again_fixed f m x e in ap f a ∙ e ∙ sym a)
      go (inr a) (inl e) = inl e
      go (inr a) (inr b) = inr (omega arith)

  rests : (x : List Bool) → length x ≡ n → (i : ℕ) → has x i ≡ true → f (again n f x) ≡ again n f x
  rests x l i e = elim (rises n x l) [ inl p ↦ p | inr p ↦ let a : size (again n f x) ≤ n = omega (arith, size_length (again n f x), again_keeps (λ y. length y ≡ n) f long n x l) in absurd (omega (arith, size_some x i e)) ]

module _ (M : Meaning) (sound : Sound M) (s : State) (erased_long : length s.erased ≡ qubits M) where
  pub has_touched : (k : List Bool) (d : ℕ) → has (touched M s k) d ≡ (meets (row M.checks d) k && not (has s.closed d))
  has_touched k d = has_less (holders M.checks k) s.closed d ∙ ap (λ t. t && not (has s.closed d)) (has_holders M.checks k d)

  -- an open check that holds one of k
  pub is_touched : (k : List Bool) (d i : ℕ) → has s.closed d ≡ false → has (row M.checks d) i ≡ true → has k i ≡ true → has (touched M s k) d ≡ true
  is_touched k d i o p q = has_touched k d ∙ and_from _ _ (has_meets (row M.checks d) k i p q) (not_from_false (has s.closed d) o)

  pub of_touched : (k : List Bool) (d : ℕ) → has (touched M s k) d ≡ true → (has s.closed d ≡ false) × (i : ℕ) × (has (row M.checks d) i ≡ true) × (has k i ≡ true)
  of_touched k d e =
      let r = and_parts (meets (row M.checks d) k) (not (has s.closed d)) (sym (has_touched k d) ∙ e) in
      let m = meets_some (row M.checks d) k r.0 in
      (not-true (has s.closed d) r.1, m.0, m.1, m.2)

  module _ (q : ℕ) (on : has s.erased q ≡ true) where
    below : (i : ℕ) → has s.erased i ≡ true → i < length M.sides
    below i e = let h : i < length s.erased = has_below s.erased i e in omega (arith, erased_long)

    pub side_cases : (i : ℕ) → has s.erased i ≡ true → (has (same_side M s q) i ≡ true) ⊎ (has (other_side M s q) i ≡ true)
    side_cases i e = go (cases_Bool (alike (has M.sides q) (has M.sides i)))
      where
        differ : (a b : Bool) → alike a b ≡ false → flip a b ≡ true
        differ true true h = absurd (true≢false h)
        differ true false h = refl
        differ false true h = refl
        differ false false h = absurd (true≢false h)

        go : (alike (has M.sides q) (has M.sides i) ≡ true) ⊎ (alike (has M.sides q) (has M.sides i) ≡ false) → (has (same_side M s q) i ≡ true) ⊎ (has (other_side M s q) i ≡ true)
        go (inl t) = inl (has_meet s.erased (map (alike (has M.sides q)) M.sides) i ∙ and_from _ _ e (has_map_in (alike (has M.sides q)) M.sides i (below i e) ∙ t))
        go (inr t) = inr (has_meet s.erased (map (flip (has M.sides q)) M.sides) i ∙ and_from _ _ e (has_map_in (flip (has M.sides q)) M.sides i (below i e) ∙ differ (has M.sides q) (has M.sides i) t))

    pub side_erased : (i : ℕ) → has (same_side M s q) i ≡ true → has s.erased i ≡ true
    side_erased i e = (and_parts (has s.erased i) (has (map (alike (has M.sides q)) M.sides) i) (sym (has_meet s.erased (map (alike (has M.sides q)) M.sides) i) ∙ e)).0

    pub self_side : has (same_side M s q) q ≡ true
    self_side = has_meet s.erased (map (alike (has M.sides q)) M.sides) q ∙ and_from _ _ on (has_map_in (alike (has M.sides q)) M.sides q (below q on) ∙ own (has M.sides q))
      where
        own : (b : Bool) → alike b b ≡ true
        own true = refl
        own false = refl

    step : List Bool → List Bool
    step = grown M s (same_side M s q)

    side_long : length (same_side M s q) ≡ qubits M
    side_long = length_over ◌&&◌ s.erased (map (alike (has M.sides q)) M.sides) (qubits M) erased_long (length-map M.sides (alike (has M.sides q)))

    step_long : (x : List Bool) → length x ≡ qubits M → length (grown M s (same_side M s q) x) ≡ qubits M
    step_long x l = length_over ◌||◌ x (meet (same_side M s q) (spanned M.checks (touched M s x))) (qubits M) l (as_left ◌&&◌ (same_side M s q) (spanned M.checks (touched M s x)) (qubits M) side_long (short_spanned (qubits M) M.checks (touched M s x) sound.checks_range))

    pub step_more : (x : List Bool) (k : ℕ) → has x k ≡ true → has (grown M s (same_side M s q) x) k ≡ true
    step_more x k e = has_join x (meet (same_side M s q) (spanned M.checks (touched M s x))) k ∙ or_left (has x k) (has (meet (same_side M s q) (spanned M.checks (touched M s x))) k) e

    start_long : length (only (qubits M) q) ≡ qubits M
    start_long = length_only (qubits M) q

    pub start_has : has (only (qubits M) q) q ≡ true
    start_has = only_self (qubits M) q (below q on)

    pub cluster_long : length (cluster M s q) ≡ qubits M
    cluster_long = again_keeps (λ y. length y ≡ qubits M) (grown M s (same_side M s q)) step_long (qubits M) (only (qubits M) q) start_long

    pub cluster_side : (i : ℕ) → has (cluster M s q) i ≡ true → has (same_side M s q) i ≡ true
    cluster_side = again_keeps (λ y. (i : ℕ) → has y i ≡ true → has (same_side M s q) i ≡ true) (grown M s (same_side M s q)) keep (qubits M) (only (qubits M) q) (λ i e. ap (has (same_side M s q)) (only_other (qubits M) q i e) ∙ self_side)
      where
        keep : (x : List Bool) → ((i : ℕ) → has x i ≡ true → has (same_side M s q) i ≡ true) → (i : ℕ) → has (grown M s (same_side M s q) x) i ≡ true → has (same_side M s q) i ≡ true
        keep x h i e =
            elim (or_cases (has x i) (has (meet (same_side M s q) (spanned M.checks (touched M s x))) i) (sym (has_join x (meet (same_side M s q) (spanned M.checks (touched M s x))) i) ∙ e)) [
              | inl p ↦ h i p
              | inr p ↦ (and_parts (has (same_side M s q) i) (has (spanned M.checks (touched M s x)) i) (sym (has_meet (same_side M s q) (spanned M.checks (touched M s x)) i) ∙ p)).0
            ]

    pub cluster_erased : (i : ℕ) → has (cluster M s q) i ≡ true → has s.erased i ≡ true
    cluster_erased i e = side_erased i (cluster_side i e)

    pub cluster_closed : (d i : ℕ) → has (touched M s (cluster M s q)) d ≡ true → has (row M.checks d) i ≡ true → has (same_side M s q) i ≡ true → has (cluster M s q) i ≡ true
    cluster_closed d i t p e =
        ap (λ y. has y i) (sym (rests (qubits M) (grown M s (same_side M s q)) step_long step_more (only (qubits M) q) start_long q start_has))
        ∙ has_join (cluster M s q) (meet (same_side M s q) (spanned M.checks (touched M s (cluster M s q)))) i
        ∙ or_right (has (cluster M s q) i) (has (meet (same_side M s q) (spanned M.checks (touched M s (cluster M s q)))) i)
        (has_meet (same_side M s q) (spanned M.checks (touched M s (cluster M s q))) i ∙ and_from _ _ e (in_spanned M.checks (touched M s (cluster M s q)) d i t p))

    -- an internal check of the cluster holds no other erased qubit
    pub internal_apart : (d i : ℕ) → has (internal M s q (cluster M s q)) d ≡ true → has (row M.checks d) i ≡ true → has s.erased i ≡ true → has (cluster M s q) i ≡ true
    internal_apart d i t p e =
        let r = and_parts (has (touched M s (cluster M s q)) d) (not (has (connecting M s q (cluster M s q)) d)) (sym (has_less (touched M s (cluster M s q)) (connecting M s q (cluster M s q)) d) ∙ t) in
        elim (side_cases i e) [
          | inl a ↦ cluster_closed d i r.0 p a
          | inr a ↦ absurd (clash (has_meet (touched M s (cluster M s q)) (holders M.checks (other_side M s q)) d ∙ and_from _ _ r.0 (has_holders M.checks (other_side M s q) d ∙ has_meets (row M.checks d) (other_side M s q) i p a)) (not-true (has (connecting M s q (cluster M s q)) d) r.1))
        ]

-- What is left to explain splits: a choice inside a system, and the rest.
use Rattle.std.proofs.Common.{◌≡◌, ℕ, zero, suc, ◌*◌, Bool, true, false, not, ◌&&◌, ◌⊎◌, List, [], ◌∷◌, length, sym, refl, ap, ◌∙◌, inl, inr}
use Rattle.std.proofs.lemmas.Bool.{and_parts, not-true, false_from_ne_true}
use Rattle.sets.specs.Bits.{flip}
use Rattle.sets.specs.Sets.{odd, has, row, plus}
use Rattle.sets.specs.Lists.{Exactly}
use Rattle.sets.proofs.Bits.{clash, flip_cases, flip_self, flip_comm, flip_assoc, flip_back, flip_false}
use Rattle.sets.proofs.Sets.{has_plus, length_over, ext, odd_plus, odd_apart}
use Rattle.linear.proofs.Count.{exactly_move, exactly_split}

-- the elements of x that are in K
abbrev pub cut : (ℕ → Bool) → List Bool → List Bool
cut K [] = []
cut K (b ∷ x) = (b && K 0) ∷ cut (λ i. K (suc i)) x

pub length_cut : (K : ℕ → Bool) (x : List Bool) → length (cut K x) ≡ length x
length_cut K [] = refl
length_cut K (b ∷ x) = ap suc (length_cut (λ i. K (suc i)) x)

pub has_cut : (K : ℕ → Bool) (x : List Bool) (i : ℕ) → has (cut K x) i ≡ (has x i && K i)
has_cut K [] i = refl
has_cut K (b ∷ x) zero = refl
has_cut K (b ∷ x) (suc i) = has_cut (λ i. K (suc i)) x i

-- a set over n numbers, inside U
pub record Under (n : ℕ) (U : ℕ → Bool) (y : List Bool) : Type 0 where
  pub long : length y ≡ n
  pub inside : (i : ℕ) → has y i ≡ true → U i ≡ true

-- of U, what is not in K
abbrev pub rest : (ℕ → Bool) → (ℕ → Bool) → ℕ → Bool
rest U K i = U i && not (K i)

module _ (n : ℕ) (C : List (List Bool)) where
  -- y lies in U and puts an odd number into exactly the checks s
  pub record Res (U s : ℕ → Bool) (y : List Bool) : Type 0 where
    pub under : Under n U y
    pub told : (d : ℕ) → odd (row C d) y ≡ s d

  -- z solves the system of the unknowns K and the checks T
  pub record Sys (K T s : ℕ → Bool) (z : List Bool) : Type 0 where
    pub under : Under n K z
    pub told : (d : ℕ) → T d ≡ true → odd (row C d) z ≡ s d

  -- what is odd once z is flipped
  abbrev pub turned : (ℕ → Bool) → List Bool → ℕ → Bool
  turned s z d = flip (s d) (odd (row C d) z)

  pub under_cong : {U V : ℕ → Bool} {y : List Bool} → ((i : ℕ) → U i ≡ V i) → Under n U y → Under n V y
  under_cong u h = record { long = h.long; inside = λ i e. sym (u i) ∙ h.inside i e }

  pub res_cong : {U V s t : ℕ → Bool} → ((i : ℕ) → U i ≡ V i) → ((d : ℕ) → s d ≡ t d) → (y : List Bool) → Res U s y → Res V t y
  res_cong u e y r = record { under = under_cong u r.under; told = λ d. r.told d ∙ e d }

  pub under_plus : {U : ℕ → Bool} (x y : List Bool) → Under n U x → Under n U y → Under n U (plus x y)
  under_plus {U} x y p q = record { long = length_over flip x y n p.long q.long; inside = λ i e. go i (flip_cases (has x i) (has y i) (sym (has_plus x y i) ∙ e)) }
    where
      go : (i : ℕ) → (has x i ≡ true) ⊎ (has y i ≡ true) → U i ≡ true
      go i (inl e) = p.inside i e
      go i (inr e) = q.inside i e

  pub under_more : {U V : ℕ → Bool} {y : List Bool} → ((i : ℕ) → U i ≡ true → V i ≡ true) → Under n U y → Under n V y
  under_more f h = record { long = h.long; inside = λ i e. f i (h.inside i e) }

  -- a set added twice
  pub twice : (x y : List Bool) → length x ≡ n → length y ≡ n → plus x (plus x y) ≡ y
  twice x y p q =
      let a : length (plus x y) ≡ n = length_over flip x y n p q in
      let b : length (plus x (plus x y)) ≡ length y = length_over flip x (plus x y) n p a ∙ sym q in
      ext (plus x (plus x y)) y b (λ k. has_plus x (plus x y) k ∙ ap (flip (has x k)) (has_plus x y k) ∙ flip_back (has x k) (has y k))

  pub plus_comm : (x y : List Bool) → length x ≡ n → length y ≡ n → plus x y ≡ plus y x
  plus_comm x y p q =
      let b : length (plus x y) ≡ length (plus y x) = length_over flip x y n p q ∙ sym (length_over flip y x n q p) in
      ext (plus x y) (plus y x) b (λ k. has_plus x y k ∙ flip_comm (has x k) (has y k) ∙ sym (has_plus y x k))

  -- the split
  module _ (U s K T : ℕ → Bool)
      (sub : (i : ℕ) → K i ≡ true → U i ≡ true)
      (apart : (d : ℕ) → T d ≡ true → (i : ℕ) → has (row C d) i ≡ true → rest U K i ≡ true → ⊥)
    where
      bit : (b u k : Bool) → (b ≡ true → u ≡ true) → flip (b && k) (b && (u && not k)) ≡ b
      bit true u true f = ap (λ t. flip true (t && false)) (f refl)
      bit true u false f = ap (λ t. flip false (t && true)) (f refl)
      bit false u k f = refl

      whole : (y : List Bool) → Under n U y → plus (cut K y) (cut (rest U K) y) ≡ y
      whole y u =
          ext (plus (cut K y) (cut (rest U K) y)) y
          (length_over flip (cut K y) (cut (rest U K) y) n (length_cut K y ∙ u.long) (length_cut (rest U K) y ∙ u.long) ∙ sym u.long)
          (λ k. has_plus (cut K y) (cut (rest U K) y) k ∙ ap (λ t. flip t (has (cut (rest U K) y) k)) (has_cut K y k) ∙ ap (flip (has y k && K k)) (has_cut (rest U K) y k) ∙ bit (has y k) (U k) (K k) (u.inside k))

      cut_under : (J : ℕ → Bool) (y : List Bool) → length y ≡ n → Under n J (cut J y)
      cut_under J y l = record { long = length_cut J y ∙ l; inside = λ i e. (and_parts (has y i) (J i) (sym (has_cut J y i) ∙ e)).1 }

      -- the part of y in K solves the system
      pub part : (y : List Bool) → Res U s y → Sys K T s (cut K y)
      part y r =
          record {
            under = cut_under K y r.under.long;
            told = λ d t. sym (flip_false (odd (row C d) (cut K y))) ∙ ap (flip (odd (row C d) (cut K y))) (sym (others d t)) ∙ sym (odd_plus (row C d) (cut K y) (cut (rest U K) y)) ∙ ap (odd (row C d)) (whole y r.under) ∙ r.told d;
          }
        where
          others : (d : ℕ) → T d ≡ true → odd (row C d) (cut (rest U K) y) ≡ false
          others d t = odd_apart (row C d) (cut (rest U K) y) (λ i p q. apart d t i p ((cut_under (rest U K) y r.under.long).inside i q))

      -- a set inside K and one inside the rest, told apart again
      bit_left : (x y k u : Bool) → (x ≡ true → k ≡ true) → (y ≡ true → (u && not k) ≡ true) → (flip x y && k) ≡ x
      bit_left true true k u f g = absurd (clash (f refl) (not-true k (and_parts u (not k) (g refl)).1))
      bit_left true false k u f g = f refl
      bit_left false true k u f g = not-true k (and_parts u (not k) (g refl)).1
      bit_left false false k u f g = refl

      bit_right : (x y k u : Bool) → (x ≡ true → k ≡ true) → (y ≡ true → (u && not k) ≡ true) → (flip x y && (u && not k)) ≡ y
      bit_right true true k u f g = absurd (clash (f refl) (not-true k (and_parts u (not k) (g refl)).1))
      bit_right true false k u f g = false_from_ne_true (u && not k) (λ e. clash (f refl) (not-true k (and_parts u (not k) e).1))
      bit_right false true k u f g = g refl
      bit_right false false k u f g = refl

      left_is : (x y : List Bool) → Under n K x → Under n (rest U K) y → cut K (plus x y) ≡ x
      left_is x y p q =
          ext (cut K (plus x y)) x (length_cut K (plus x y) ∙ length_over flip x y n p.long q.long ∙ sym p.long)
          (λ k. has_cut K (plus x y) k ∙ ap (λ t. t && K k) (has_plus x y k) ∙ bit_left (has x k) (has y k) (K k) (U k) (p.inside k) (q.inside k))

      right_is : (x y : List Bool) → Under n K x → Under n (rest U K) y → cut (rest U K) (plus x y) ≡ y
      right_is x y p q =
          ext (cut (rest U K) (plus x y)) y (length_cut (rest U K) (plus x y) ∙ length_over flip x y n p.long q.long ∙ sym q.long)
          (λ k. has_cut (rest U K) (plus x y) k ∙ ap (λ t. t && rest U K k) (has_plus x y k) ∙ bit_right (has x k) (has y k) (K k) (U k) (p.inside k) (q.inside k))

      rest_in : (i : ℕ) → rest U K i ≡ true → U i ≡ true
      rest_in i e = (and_parts (U i) (not (K i)) e).0

      -- the rest, after a choice x
      abbrev Left : List Bool → List Bool → Type 0
      Left x = Res (rest U K) (turned s x)

      -- the choice and the rest make the whole
      glue : (x y : List Bool) → Under n K x → Left x y → Res U s (plus x y)
      glue x y u l =
          record {
            under = under_plus x y (under_more sub u) (under_more rest_in l.under);
            told = λ d. odd_plus (row C d) x y ∙ ap (flip (odd (row C d) x)) (l.told d ∙ flip_comm (s d) (odd (row C d) x)) ∙ flip_back (odd (row C d) x) (s d);
          }

      unglue : (y : List Bool) → Res U s y → Left (cut K y) (cut (rest U K) y)
      unglue y r =
          record {
            under = cut_under (rest U K) y r.under.long;
            told = λ d. sym (flip_back (odd (row C d) (cut K y)) (odd (row C d) (cut (rest U K) y))) ∙ ap (flip (odd (row C d) (cut K y))) (sym (odd_plus (row C d) (cut K y) (cut (rest U K) y)) ∙ ap (odd (row C d)) (whole y r.under) ∙ r.told d) ∙ flip_comm (odd (row C d) (cut K y)) (s d);
          }

      module _ (fill : (h : List Bool) → Under n K h → ((d : ℕ) → T d ≡ true → odd (row C d) h ≡ false) → (w : List Bool) × Under n (rest U K) w × ((d : ℕ) → odd (row C d) w ≡ odd (row C d) h)) where
        -- after any choice, as much is left as after the choice z
        others_same : (z x : List Bool) (N : ℕ) → Sys K T s z → Sys K T s x → Exactly N (Left z) → Exactly N (Left x)
        others_same z x N p q E = exactly_move N (plus w) (plus w) (λ y. to y) (λ y. from y) (λ y l. twice w y u.long l.under.long) (λ y l. sym (twice w y u.long l.under.long)) E
          where
            even : (d : ℕ) → T d ≡ true → odd (row C d) (plus z x) ≡ false
            even d t = odd_plus (row C d) z x ∙ ap (λ b. flip b (odd (row C d) x)) (p.told d t) ∙ ap (flip (s d)) (q.told d t) ∙ flip_self (s d)

            found : (w : List Bool) × Under n (rest U K) w × ((d : ℕ) → odd (row C d) w ≡ odd (row C d) (plus z x))
            found = fill (plus z x) (under_plus z x p.under q.under) even

            w : List Bool
            w = found.0

            u : Under n (rest U K) w
            u = found.1

            move : (a b c : Bool) → flip (flip a b) (flip c a) ≡ flip c b
            move a b c = flip_comm (flip a b) (flip c a) ∙ flip_assoc c a (flip a b) ∙ ap (flip c) (flip_back a b)

            to : (y : List Bool) → Left z y → Left x (plus w y)
            to y l =
                record {
                  under = under_plus w y u l.under;
                  told = λ d. odd_plus (row C d) w y ∙ ap (λ t. flip t (odd (row C d) y)) (found.2 d ∙ odd_plus (row C d) z x) ∙ ap (flip (flip (odd (row C d) z) (odd (row C d) x))) (l.told d) ∙ move (odd (row C d) z) (odd (row C d) x) (s d);
                }

            from : (y : List Bool) → Left x y → Left z (plus w y)
            from y l =
                record {
                  under = under_plus w y u l.under;
                  told = λ d. odd_plus (row C d) w y ∙ ap (λ t. flip t (odd (row C d) y)) (found.2 d ∙ odd_plus (row C d) z x ∙ flip_comm (odd (row C d) z) (odd (row C d) x)) ∙ ap (flip (flip (odd (row C d) x) (odd (row C d) z))) (l.told d) ∙ move (odd (row C d) x) (odd (row C d) z) (s d);
                }

        pub split : (z : List Bool) (m N : ℕ) → Sys K T s z → Exactly m (Sys K T s) → Exactly N (Res (rest U K) (turned s z)) → Exactly (m * N) (Res U s)
        split z m N p S E =
            exactly_move {X = List Bool × List Bool} {P = λ q. Sys K T s q.0 × Left q.0 q.1} {Q = Res U s} (m * N)
            (λ q. plus q.0 q.1) (λ y. (cut K y, cut (rest U K) y))
            (λ q h. glue q.0 q.1 h.0.under h.1)
            (λ y r. (part y r, unglue y r))
            (λ q h. λ i. (left_is q.0 q.1 h.0.under h.1.under i, right_is q.0 q.1 h.0.under h.1.under i))
            (λ y r. sym (whole y r.under))
            (exactly_split m N S (λ x q. others_same z x N p q E))

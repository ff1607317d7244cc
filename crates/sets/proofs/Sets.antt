-- What is in a set made from others; when two sets are equal; odd numbers of common elements.
use Rattle.std.proofs.Common.{◌≡◌, ℕ, zero, suc, ◌<◌, Bool, true, false, not, ◌&&◌, ◌||◌, ◌⊎◌, List, [], ◌∷◌, ◌++◌, map, length, sym, refl, ap, ◌∙◌, inl, inr, arith, length-set, get_or-set_same}
use Rattle.std.proofs.lemmas.Bool.{cases_Bool, and_parts, and_from, or_cases, or_left, or_right, or_parts, false_from_ne_true}
use mathlib.Core.Bool.{false≢true}
use lib.ListN.{length-replicate, length-map}
use Rattle.sets.specs.Bits.{flip}
use Rattle.sets.specs.Lists.{In}
use Rattle.sets.specs.Sets.{has, row, over, join, meet, less, plus, empty, only, any, meets, within, holders, odd}
use Rattle.sets.proofs.Lists.{in_get_or}
use Rattle.sets.proofs.Bits.{clash, and_comm, and_flip, flip_four, flip_false, flip_assoc}

pub has_map : (f : Bool → Bool) → f false ≡ false → (m : List Bool) (k : ℕ) → has (map f m) k ≡ f (has m k)
has_map f z [] k = sym z
has_map f z (x ∷ m) zero = refl
has_map f z (x ∷ m) (suc k) = has_map f z m k

pub has_over : (f : Bool → Bool → Bool) → f false false ≡ false → (a b : List Bool) (k : ℕ) → has (over f a b) k ≡ f (has a k) (has b k)
has_over f z [] b k = has_map (f false) z b k
has_over f z (x ∷ a) [] zero = refl
has_over f z (x ∷ a) [] (suc k) = has_map (λ y. f y false) z a k
has_over f z (x ∷ a) (y ∷ b) zero = refl
has_over f z (x ∷ a) (y ∷ b) (suc k) = has_over f z a b k

pub length_over : (f : Bool → Bool → Bool) (a b : List Bool) (n : ℕ) → length a ≡ n → length b ≡ n → length (over f a b) ≡ n
length_over f [] b n p q = length-map b (f false) ∙ q
length_over f (x ∷ a) [] n p q = absurd (omega arith)
length_over f (x ∷ a) (y ∷ b) zero p q = absurd (omega arith)
length_over f (x ∷ a) (y ∷ b) (suc n) p q =
    let p' : length a ≡ n = omega arith in
    let q' : length b ≡ n = omega arith in
    ap suc (length_over f a b n p' q')

pub has_join : (a b : List Bool) (k : ℕ) → has (join a b) k ≡ (has a k || has b k)
has_join = has_over ◌||◌ refl

pub has_meet : (a b : List Bool) (k : ℕ) → has (meet a b) k ≡ (has a k && has b k)
has_meet = has_over ◌&&◌ refl

pub has_less : (a b : List Bool) (k : ℕ) → has (less a b) k ≡ (has a k && not (has b k))
has_less = has_over (λ x y. x && not y) refl

pub has_plus : (a b : List Bool) (k : ℕ) → has (plus a b) k ≡ flip (has a k) (has b k)
has_plus = has_over flip refl

pub has_empty : (n k : ℕ) → has (empty n) k ≡ false
has_empty zero k = refl
has_empty (suc n) zero = refl
has_empty (suc n) (suc k) = has_empty n k

pub has_below : (m : List Bool) (k : ℕ) → has m k ≡ true → k < length m
has_below [] k e = absurd (false≢true e)
has_below (x ∷ m) zero e = omega arith
has_below (x ∷ m) (suc k) e = let h : k < length m = has_below m k e in omega arith

pub only_self : (n k : ℕ) → k < n → has (only n k) k ≡ true
only_self n k h = let l : k < length (empty n) = omega (arith, length-replicate n false) in get_or-set_same (empty n) k true false l

pub only_other : (n k j : ℕ) → has (only n k) j ≡ true → j ≡ k
only_other zero k j e = absurd (false≢true e)
only_other (suc n) zero zero e = refl
only_other (suc n) zero (suc j) e = absurd (clash e (has_empty n j))
only_other (suc n) (suc k) zero e = absurd (false≢true e)
only_other (suc n) (suc k) (suc j) e = ap suc (only_other n k j e)

pub length_only : (n k : ℕ) → length (only n k) ≡ n
length_only n k = length-set (empty n) k true ∙ length-replicate n false

pub ext : (a b : List Bool) → length a ≡ length b → ((k : ℕ) → has a k ≡ has b k) → a ≡ b
ext [] [] l h = refl
ext [] (y ∷ b) l h = absurd (omega arith)
ext (x ∷ a) [] l h = absurd (omega arith)
ext (x ∷ a) (y ∷ b) l h =
    let l' : length a ≡ length b = omega arith in
    let i : x ≡ y = h 0 in
    let j : a ≡ b = ext a b l' (λ k. h (suc k)) in
    cc

pub within_length : (a b : List Bool) → within a b ≡ true → length a ≡ length b
within_length [] [] e = refl
within_length [] (y ∷ b) e = absurd (false≢true e)
within_length (x ∷ a) [] e = absurd (false≢true e)
within_length (x ∷ a) (y ∷ b) e = ap suc (within_length a b (and_parts (not x || y) (within a b) e).1)

pub within_has : (a b : List Bool) → within a b ≡ true → (k : ℕ) → has a k ≡ true → has b k ≡ true
within_has [] [] e k h = h
within_has [] (y ∷ b) e k h = absurd (false≢true e)
within_has (x ∷ a) [] e k h = absurd (false≢true e)
within_has (x ∷ a) (y ∷ b) e zero h = go x h (and_parts (not x || y) (within a b) e).0
  where
    go : (x : Bool) → x ≡ true → (not x || y) ≡ true → y ≡ true
    go true h e = e
    go false h e = absurd (false≢true h)
within_has (x ∷ a) (y ∷ b) e (suc k) h = within_has a b (and_parts (not x || y) (within a b) e).1 k h

pub has_within : (a b : List Bool) → length a ≡ length b → ((k : ℕ) → has a k ≡ true → has b k ≡ true) → within a b ≡ true
has_within [] [] l h = refl
has_within [] (y ∷ b) l h = absurd (omega arith)
has_within (x ∷ a) [] l h = absurd (omega arith)
has_within (x ∷ a) (y ∷ b) l h =
    let l' : length a ≡ length b = omega arith in
    and_from _ _ (go x (h 0)) (has_within a b l' (λ k. h (suc k)))
  where
    go : (x : Bool) → (x ≡ true → y ≡ true) → (not x || y) ≡ true
    go true f = f refl
    go false f = refl

pub any_none : (m : List Bool) → any m ≡ false → (k : ℕ) → has m k ≡ false
any_none [] e k = refl
any_none (x ∷ m) e zero = (or_parts x (any m) e).0
any_none (x ∷ m) e (suc k) = any_none m (or_parts x (any m) e).1 k

pub any_some : (m : List Bool) → any m ≡ true → (k : ℕ) × (has m k ≡ true)
any_some [] e = absurd (false≢true e)
any_some (x ∷ m) e = go (or_cases x (any m) e) (any_some m)
  where
    go : (x ≡ true) ⊎ (any m ≡ true) → (any m ≡ true → (k : ℕ) × (has m k ≡ true)) → (k : ℕ) × (has (x ∷ m) k ≡ true)
    go (inl p) ih = (0, p)
    go (inr p) ih = let r = ih p in (suc r.0, r.1)

pub has_any : (m : List Bool) (k : ℕ) → has m k ≡ true → any m ≡ true
has_any [] k e = absurd (false≢true e)
has_any (x ∷ m) zero e = or_left x (any m) e
has_any (x ∷ m) (suc k) e = or_right x (any m) (has_any m k e)

pub meets_none : (a b : List Bool) → meets a b ≡ false → (k : ℕ) → has a k ≡ true → has b k ≡ true → ⊥
meets_none [] b e k p q = false≢true p
meets_none (x ∷ a) [] e k p q = false≢true q
meets_none (x ∷ a) (y ∷ b) e zero p q = clash (and_from _ _ p q) (or_parts (x && y) (meets a b) e).0
meets_none (x ∷ a) (y ∷ b) e (suc k) p q = meets_none a b (or_parts (x && y) (meets a b) e).1 k p q

pub meets_some : (a b : List Bool) → meets a b ≡ true → (k : ℕ) × (has a k ≡ true) × (has b k ≡ true)
meets_some [] b e = absurd (false≢true e)
meets_some (x ∷ a) [] e = absurd (false≢true e)
meets_some (x ∷ a) (y ∷ b) e = go (or_cases (x && y) (meets a b) e) (meets_some a b)
  where
    go : ((x && y) ≡ true) ⊎ (meets a b ≡ true) → (meets a b ≡ true → (k : ℕ) × (has a k ≡ true) × (has b k ≡ true)) → (k : ℕ) × (has (x ∷ a) k ≡ true) × (has (y ∷ b) k ≡ true)
    go (inl p) ih = let r = and_parts x y p in (0, r.0, r.1)
    go (inr p) ih = let r = ih p in (suc r.0, r.1, r.2)

pub has_meets : (a b : List Bool) (k : ℕ) → has a k ≡ true → has b k ≡ true → meets a b ≡ true
has_meets [] b k p q = absurd (false≢true p)
has_meets (x ∷ a) [] k p q = absurd (false≢true q)
has_meets (x ∷ a) (y ∷ b) zero p q = or_left (x && y) (meets a b) (and_from _ _ p q)
has_meets (x ∷ a) (y ∷ b) (suc k) p q = or_right (x && y) (meets a b) (has_meets a b k p q)

pub has_mapped : (f : List Bool → Bool) → f [] ≡ false → (sets : List (List Bool)) (d : ℕ) → has (map f sets) d ≡ f (row sets d)
has_mapped f z [] d = sym z
has_mapped f z (c ∷ sets) zero = refl
has_mapped f z (c ∷ sets) (suc d) = has_mapped f z sets d

pub has_holders : (sets : List (List Bool)) (b : List Bool) (d : ℕ) → has (holders sets b) d ≡ meets (row sets d) b
has_holders sets b d = has_mapped (λ c. meets c b) refl sets d

-- odd numbers of common elements
pub odd_nil : (x : List Bool) → odd [] x ≡ false
odd_nil [] = refl
odd_nil (x ∷ xs) = refl

pub odd_none : (c : List Bool) → odd c [] ≡ false
odd_none [] = refl
odd_none (x ∷ c) = refl

map_id : (f : Bool → Bool) → ((x : Bool) → f x ≡ x) → (m : List Bool) → map f m ≡ m
map_id f h [] = refl
map_id f h (x ∷ m) = let p : f x ≡ x = h x in let q : map f m ≡ m = map_id f h m in cc

pub odd_plus : (c x y : List Bool) → odd c (plus x y) ≡ flip (odd c x) (odd c y)
odd_plus [] x y = odd_nil (plus x y) ∙ sym (ap (λ t. flip t (odd [] y)) (odd_nil x) ∙ odd_nil y)
odd_plus (b ∷ c) [] y = ap (odd (b ∷ c)) (map_id (λ t. t) (λ t. refl) y)
odd_plus (b ∷ c) (x ∷ xs) [] =
    let p : flip x false ≡ x = flip_false x in
    let q : map (λ y. flip y false) xs ≡ xs = map_id (λ y. flip y false) flip_false xs in
    let r : plus (x ∷ xs) [] ≡ x ∷ xs = cc in
    ap (odd (b ∷ c)) r ∙ sym (flip_false (odd (b ∷ c) (x ∷ xs)))
odd_plus (b ∷ c) (x ∷ xs) (y ∷ ys) =
    ap (λ t. flip t (odd c (plus xs ys))) (and_flip b x y)
    ∙ ap (flip (flip (b && x) (b && y))) (odd_plus c xs ys)
    ∙ flip_four (b && x) (b && y) (odd c xs) (odd c ys)

pub odd_apart : (c x : List Bool) → ((k : ℕ) → has c k ≡ true → has x k ≡ true → ⊥) → odd c x ≡ false
odd_apart [] x h = odd_nil x
odd_apart (b ∷ c) [] h = refl
odd_apart (b ∷ c) (x ∷ xs) h =
    ap (λ t. flip t (odd c xs)) (false_from_ne_true (b && x) (λ e. let r = and_parts b x e in h 0 r.0 r.1))
    ∙ odd_apart c xs (λ k. h (suc k))

pub odd_empty : (c : List Bool) (n : ℕ) → odd c (empty n) ≡ false
odd_empty c n = odd_apart c (empty n) (λ k _ q. clash q (has_empty n k))

-- the rows of a list of sets
pub row_in : (sets : List (List Bool)) (d : ℕ) → In (row sets d) sets ⊎ (row sets d ≡ [])
row_in [] d = inr refl
row_in (c ∷ sets) zero = inl (inl refl)
row_in (c ∷ sets) (suc d) = elim (row_in sets d) [ inl m ↦ inl (inr m) | inr e ↦ inr e ]

pub row_of : (sets : List (List Bool)) (d : ℕ) → d < length sets → In (row sets d) sets
row_of sets d h = in_get_or sets d [] h

-- a set with at most one element, which the other has
pub odd_one : (c x : List Bool) (q : ℕ) → has c q ≡ true → ((i : ℕ) → has x i ≡ true → i ≡ q) → odd c x ≡ has x q
odd_one [] x q p f = absurd (false≢true p)
odd_one (b ∷ c) [] q p f = refl
odd_one (b ∷ c) (x ∷ xs) zero p f =
    let e : odd c xs ≡ false = odd_apart c xs (λ i _ t. absurd (omega (arith, f (suc i) t))) in
    ap (λ t. flip (t && x) (odd c xs)) p ∙ ap (flip x) e ∙ flip_false x
odd_one (b ∷ c) (x ∷ xs) (suc q) p f =
    ap (λ t. flip t (odd c xs)) (false_from_ne_true (b && x) (λ t. absurd (omega (arith, f 0 (and_parts b x t).1))))
    ∙ odd_one c xs q p (λ i t. let e : suc i ≡ suc q = f (suc i) t in omega arith)

pub odd_only : (c : List Bool) (n k : ℕ) → k < n → odd c (only n k) ≡ has c k
odd_only c n k h = elim (cases_Bool (has c k)) [
  | inl e ↦ odd_one c (only n k) k e (only_other n k) ∙ only_self n k h ∙ sym e
  | inr e ↦ odd_apart c (only n k) (λ i p q. clash (ap (has c) (sym (only_other n k i q)) ∙ p) e) ∙ sym e
]

pub odd_comm : (c x : List Bool) → odd c x ≡ odd x c
odd_comm [] x = odd_nil x ∙ sym (odd_none x)
odd_comm (b ∷ c) [] = refl
odd_comm (b ∷ c) (x ∷ xs) = ap (λ t. flip t (odd c xs)) (and_comm b x) ∙ ap (flip (x && b)) (odd_comm c xs)

pub odd_append : (a b c d : List Bool) → length a ≡ length c → odd (a ++ b) (c ++ d) ≡ flip (odd a c) (odd b d)
odd_append [] b [] d l = refl
odd_append [] b (y ∷ c) d l = absurd (omega arith)
odd_append (x ∷ a) b [] d l = absurd (omega arith)
odd_append (x ∷ a) b (y ∷ c) d l =
    let l' : length a ≡ length c = omega arith in
    ap (flip (x && y)) (odd_append a b c d l') ∙ sym (flip_assoc (x && y) (odd a c) (odd b d))

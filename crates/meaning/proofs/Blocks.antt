-- A grid of m lines of w places, read line after line: which of its places a set of one line, or of one place in several lines, has.
use Rattle.std.proofs.Common.{◌≡◌, ℕ, zero, suc, ◌+◌, ◌*◌, ◌/◌, ◌%◌, ◌<◌, Bool, true, false, cond, eqb, List, ◌++◌, map, length, get_or, sym, refl, ap, ◌∙◌, subst, suc-mul, zero-mul, arith, eqb-true}
use mathlib.Core.Bool.{false≢true}
use lib.ListN.{length-replicate}
use Rattle.std.specs.List.{range_with_len}
use Rattle.std.proofs.lemmas.Nat.{div-add-mod', div_below, mod_below}
use Rattle.std.proofs.lemmas.List.FromFn.{length-range_with_len}
use Rattle.std.proofs.lemmas.List.{get_or_append_left, get_or-append-add}
use Rattle.sets.specs.Lists.{In, flat}
use Rattle.sets.specs.Sets.{has, empty, only, elements, among}
use Rattle.sets.proofs.Bits.{same}
use Rattle.sets.proofs.Lists.{in_map, of_map, length_flat}
use Rattle.sets.proofs.Sets.{has_empty, has_below, only_self, only_other, length_only}
use Rattle.sets.proofs.Numbers.{eqb_same, in_among, among_in, has_element, element_has}

-- what stands at place j of line i
pub get_or_flat : {X : Type 0} (w : ℕ) (f : ℕ → List X) (from m : ℕ) (d : X) → ((x : ℕ) → length (f x) ≡ w) → (i j : ℕ) → i < m → j < w → get_or (flat f (range_with_len from m)) (i * w + j) d ≡ get_or (f (from + i)) j d
get_or_flat w f from zero d long i j hi hj = absurd (omega arith)
get_or_flat w f from (suc m) d long zero j hi hj =
    let h : j < length (f from) = omega (arith, long from) in
    let at : 0 * w + j ≡ j = omega (arith, zero-mul w) in
    let here : from + 0 ≡ from = omega arith in
    ap (λ k. get_or (f from ++ flat f (range_with_len (from + 1) m)) k d) at ∙ get_or_append_left (f from) (flat f (range_with_len (from + 1) m)) d j h ∙ ap (λ k. get_or (f k) j d) (sym here)
get_or_flat w f from (suc m) d long (suc i) j hi hj =
    let at : suc i * w + j ≡ length (f from) + (i * w + j) = omega (arith, suc-mul i w, long from) in
    let next : from + 1 + i ≡ from + suc i = omega arith in
    ap (λ k. get_or (f from ++ flat f (range_with_len (from + 1) m)) k d) at
    ∙ get_or-append-add (f from) (flat f (range_with_len (from + 1) m)) (i * w + j) d
    ∙ get_or_flat w f (from + 1) m d long i j (omega arith) hj
    ∙ ap (λ k. get_or (f k) j d) next

pub length_grid : {X : Type 0} (w : ℕ) (f : ℕ → List X) (m : ℕ) → ((x : ℕ) → length (f x) ≡ w) → length (flat f (range_with_len 0 m)) ≡ m * w
length_grid w f m long = length_flat w (range_with_len 0 m) (λ x _. f x) (λ x _. long x) ∙ ap (λ k. k * w) (length-range_with_len 0 m)

pub long_if : (b : Bool) (m : ℕ) (x : List Bool) → length x ≡ m → length (cond b x (empty m)) ≡ m
long_if true m x e = e
long_if false m x e = length-replicate m false

-- a place of the grid as line and place in it
pub record Cell (w m p : ℕ) : Type 0 where
  pub line : ℕ
  pub place : ℕ
  pub line_low : line < m
  pub place_low : place < w
  pub is : line * w + place ≡ p

pub cell : (w m p : ℕ) → p < m * w → Cell w m p
cell w m p h = go w h
  where
    go : (w : ℕ) → p < m * w → Cell w m p
    go zero h = absurd (omega arith)
    go (suc w) h = record { line = p / suc w; place = p % suc w; line_low = div_below p (suc w) m (omega arith) h; place_low = mod_below p (suc w) (omega arith); is = div-add-mod' p (suc w) }

cond_yes : (t : Bool) (x : List Bool) (w j : ℕ) → has (cond t x (empty w)) j ≡ true → (t ≡ true) × (has x j ≡ true)
cond_yes true x w j e = (refl, e)
cond_yes false x w j e = absurd (false≢true (sym (has_empty w j) ∙ e))

-- one line s, filled with the set y: told as the places of that line
module _ (w m s : ℕ) (y : List Bool) (low : s < m) (long : length y ≡ w) where
  abbrev pub line : List Bool
  line = flat (λ x. cond (eqb x s) y (empty w)) (range_with_len 0 m)

  line_long : (x : ℕ) → length (cond (eqb x s) y (empty w)) ≡ w
  line_long x = long_if (eqb x s) w y long

  pub length_line : length line ≡ m * w
  length_line = length_grid w (λ x. cond (eqb x s) y (empty w)) m line_long

  pub line_told : (p : ℕ) → among p (map (λ j. s * w + j) (elements y)) ≡ has line p
  line_told p = same (among p (map (λ j. s * w + j) (elements y))) (has line p) there back
    where
      there : among p (map (λ j. s * w + j) (elements y)) ≡ true → has line p ≡ true
      there e =
          let r = of_map (λ j. s * w + j) p (elements y) (among_in p (map (λ j. s * w + j) (elements y)) e) in
          let h = element_has y r.0 r.1 in
          let l : r.0 < w = omega (arith, has_below y r.0 h, long) in
          ap (has line) r.2
          ∙ get_or_flat w (λ x. cond (eqb x s) y (empty w)) 0 m false line_long s r.0 low l
          ∙ ap (λ k. has (cond (eqb k s) y (empty w)) r.0) (omega arith)
          ∙ ap (λ t. has (cond t y (empty w)) r.0) (eqb_same s)
          ∙ h

      back : has line p ≡ true → among p (map (λ j. s * w + j) (elements y)) ≡ true
      back e =
          let c = cell w m p (omega (arith, has_below line p e, length_line)) in
          let at = get_or_flat w (λ x. cond (eqb x s) y (empty w)) 0 m false line_long c.line c.place c.line_low c.place_low in
          let h = cond_yes (eqb (0 + c.line) s) y w c.place (sym at ∙ ap (has line) c.is ∙ e) in
          let z : 0 + c.line ≡ s = eqb-true (0 + c.line) s h.0 in
          let q : s * w + c.place ≡ p = ap (λ k. k * w + c.place) (sym z ∙ omega arith) ∙ c.is in
          in_among p (map (λ j. s * w + j) (elements y)) (subst (λ (k : ℕ). In k (map (λ j. s * w + j) (elements y))) q (in_map (λ j. s * w + j) c.place (elements y) (has_element y c.place h.1)))

-- the place k of each line in the set z, by the test t: told as those places
module _ (w m k : ℕ) (t : ℕ → Bool) (z : List Bool) (low : k < w) (wide : length z ≡ m) (test : (x : ℕ) → t x ≡ has z x) where
  abbrev pub comb : List Bool
  comb = flat (λ x. cond (t x) (only w k) (empty w)) (range_with_len 0 m)

  comb_long : (x : ℕ) → length (cond (t x) (only w k) (empty w)) ≡ w
  comb_long x = long_if (t x) w (only w k) (length_only w k)

  pub length_comb : length comb ≡ m * w
  length_comb = length_grid w (λ x. cond (t x) (only w k) (empty w)) m comb_long

  pub comb_told : (p : ℕ) → among p (map (λ x. x * w + k) (elements z)) ≡ has comb p
  comb_told p = same (among p (map (λ x. x * w + k) (elements z))) (has comb p) there back
    where
      there : among p (map (λ x. x * w + k) (elements z)) ≡ true → has comb p ≡ true
      there e =
          let r = of_map (λ x. x * w + k) p (elements z) (among_in p (map (λ x. x * w + k) (elements z)) e) in
          let h = element_has z r.0 r.1 in
          let l : r.0 < m = omega (arith, has_below z r.0 h, wide) in
          ap (has comb) r.2
          ∙ get_or_flat w (λ x. cond (t x) (only w k) (empty w)) 0 m false comb_long r.0 k l low
          ∙ ap (λ j. has (cond (t j) (only w k) (empty w)) k) (omega arith)
          ∙ ap (λ b. has (cond b (only w k) (empty w)) k) (test r.0 ∙ h)
          ∙ only_self w k low

      back : has comb p ≡ true → among p (map (λ x. x * w + k) (elements z)) ≡ true
      back e =
          let c = cell w m p (omega (arith, has_below comb p e, length_comb)) in
          let at = get_or_flat w (λ x. cond (t x) (only w k) (empty w)) 0 m false comb_long c.line c.place c.line_low c.place_low in
          let h = cond_yes (t (0 + c.line)) (only w k) w c.place (sym at ∙ ap (has comb) c.is ∙ e) in
          let in-z : has z c.line ≡ true = sym (test c.line) ∙ ap t (omega arith) ∙ h.0 in
          let q : c.line * w + k ≡ p = ap (λ j. c.line * w + j) (sym (only_other w k c.place h.1)) ∙ c.is in
          in_among p (map (λ x. x * w + k) (elements z)) (subst (λ (j : ℕ). In j (map (λ x. x * w + k) (elements z))) q (in_map (λ x. x * w + k) c.line (elements z) (has_element z c.line in-z)))

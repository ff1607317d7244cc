-- One element more or less, and the counts that follow it.
use Rattle.std.proofs.Common.{◌≡◌, ℕ, zero, suc, ◌+◌, ◌-◌, ◌<◌, ◌≤◌, min, Bool, true, false, cond, ◌&&◌, List, [], ◌∷◌, map, length, get_or, set, replicate, sym, refl, ap, ◌∙◌, ap₂, arith}
use Rattle.std.proofs.lemmas.List.{ext_get_or, length-map, get_or-map, set-set, set-get_or, get_or-set_same}
use Rattle.sets.specs.Lists.{In, Distinct}
use Rattle.sets.specs.Sets.{has, row, meet, size, size_if, empty, among}
use Rattle.sets.proofs.Bits.{clash}
use Rattle.sets.proofs.Sets.{length_over, has_meet, has_empty, row_of}
use Rattle.sets.proofs.Sizes.{size_length, size_none}
use Rattle.upkeep.specs.Changed.{changed, lowered, raised}
use Rattle.upkeep.specs.Counts.{counts_in}
use Rattle.upkeep.proofs.Changed.{length_changed, changed_at}

-- an element less in b is one less in what s has of b, if s has it
pub size_unset : (s b : List Bool) (q : ℕ) → has b q ≡ true → size (meet s (set b q false)) + cond (has s q) 1 0 ≡ size (meet s b)
size_unset [] [] q h = absurd (clash h refl)
size_unset [] (x ∷ b) q h = nothing q (x ∷ b)
  where
    none : (b : List Bool) → size (map (λ y. false && y) b) ≡ 0
    none b = size_none (λ y. false && y) (λ y. refl) b

    nothing : (q : ℕ) (b : List Bool) → size (meet [] (set b q false)) + 0 ≡ size (meet [] b)
    nothing q b = omega (arith, none (set b q false), none b)
size_unset (y ∷ s) [] q h = absurd (clash h refl)
size_unset (y ∷ s) (x ∷ b) zero h = go y x h
  where
    go : (y x : Bool) → x ≡ true → size_if (y && false) (size (meet s b)) + cond y 1 0 ≡ size_if (y && x) (size (meet s b))
    go true true e = omega arith
    go false true e = omega arith
    go y false e = absurd (clash e refl)
size_unset (y ∷ s) (x ∷ b) (suc q) h = go (y && x) (size_unset s b q h)
  where
    go : (t : Bool) → size (meet s (set b q false)) + cond (has s q) 1 0 ≡ size (meet s b) → size_if t (size (meet s (set b q false))) + cond (has s q) 1 0 ≡ size_if t (size (meet s b))
    go true e = omega arith
    go false e = e

-- and one more is one more
pub size_set : (s b : List Bool) (q : ℕ) → q < length b → has b q ≡ false → size (meet s (set b q true)) ≡ size (meet s b) + cond (has s q) 1 0
size_set s b q low h =
    let back : set (set b q true) q false ≡ b = set-set b q true false ∙ ap (set b q) (sym h) ∙ set-get_or b q false in
    sym (size_unset s (set b q true) q (get_or-set_same b q true false low)) ∙ ap (λ x. size (meet s x) + cond (has s q) 1 0) back

-- the list l names each set that holds q, once
module _ (sets : List (List Bool)) (b : List Bool) (q : ℕ) (l : List ℕ) (once : Distinct l) (names : (k : ℕ) → k < length sets → among k l ≡ has (row sets k) q) where
  count_at : (a : List Bool) (k : ℕ) → k < length sets → get_or (counts_in sets a) k 0 ≡ size (meet (row sets k) a)
  count_at a k h = get_or-map (λ s. size (meet s a)) sets k [] 0 h

  -- what stands at a place of the counts after a change at the places of l
  changed_count : (f : ℕ → ℕ) (k : ℕ) → k < length sets → get_or (changed 0 f l (counts_in sets b)) k 0 ≡ cond (has (row sets k) q) (f (size (meet (row sets k) b))) (size (meet (row sets k) b))
  changed_count f k h =
      changed_at 0 f l (counts_in sets b) once k (omega (arith, length-map sets (λ s. size (meet s b))))
      ∙ ap (λ t. cond t (f (get_or (counts_in sets b) k 0)) (get_or (counts_in sets b) k 0)) (names k h)
      ∙ ap (λ x. cond (has (row sets k) q) (f x) x) (count_at b k h)

  long : (f : ℕ → ℕ) → length (changed 0 f l (counts_in sets b)) ≡ length sets
  long f = length_changed 0 f l (counts_in sets b) ∙ length-map sets (λ s. size (meet s b))

  pub counts_lowered : has b q ≡ true → lowered l (counts_in sets b) ≡ counts_in sets (set b q false)
  counts_lowered h =
      ext_get_or 0 (lowered l (counts_in sets b)) (counts_in sets (set b q false)) (long (λ n. n - 1) ∙ sym (length-map sets (λ s. size (meet s (set b q false)))))
      (λ k low. let low' : k < length sets = omega (arith, long (λ n. n - 1)) in
      changed_count (λ n. n - 1) k low' ∙ step (has (row sets k) q) (size (meet (row sets k) b)) (size (meet (row sets k) (set b q false))) (size_unset (row sets k) b q h) ∙ sym (count_at (set b q false) k low'))
    where
      step : (t : Bool) (x y : ℕ) → y + cond t 1 0 ≡ x → cond t (x - 1) x ≡ y
      step true x y e = omega arith
      step false x y e = omega arith

  pub counts_raised : q < length b → length b ≤ 2048 → ((s : List Bool) → In s sets → length s ≡ length b) → has b q ≡ false → raised l (counts_in sets b) ≡ counts_in sets (set b q true)
  counts_raised low few wide h =
      ext_get_or 0 (raised l (counts_in sets b)) (counts_in sets (set b q true)) (long (λ n. min (n + 1) 65535) ∙ sym (length-map sets (λ s. size (meet s (set b q true)))))
      (λ k lower. let low' : k < length sets = omega (arith, long (λ n. min (n + 1) 65535)) in
      let bound : size (meet (row sets k) b) ≤ 2048 = omega (arith, size_length (meet (row sets k) b), length_over ◌&&◌ (row sets k) b (length b) (wide (row sets k) (row_of sets k low')) refl) in
      changed_count (λ n. min (n + 1) 65535) k low' ∙ step (has (row sets k) q) (size (meet (row sets k) b)) (size (meet (row sets k) (set b q true))) bound (size_set (row sets k) b q low h) ∙ sym (count_at (set b q true) k low'))
    where
      step : (t : Bool) (x y : ℕ) → x ≤ 2048 → y ≡ x + cond t 1 0 → cond t (min (x + 1) 65535) x ≡ y
      step true x y l e = omega arith
      step false x y l e = omega arith

and_no : (y : Bool) → (y && false) ≡ false
and_no true = refl
and_no false = refl

pub size_nothing : (m : List Bool) → ((k : ℕ) → has m k ≡ false) → size m ≡ 0
size_nothing [] f = refl
size_nothing (true ∷ m) f = absurd (clash refl (f 0))
size_nothing (false ∷ m) f = size_nothing m (λ k. f (suc k))

none : (s : List Bool) (n : ℕ) → size (meet s (empty n)) ≡ 0
none s n = size_nothing (meet s (empty n)) (λ k. has_meet s (empty n) k ∙ ap (λ t. has s k && t) (has_empty n k) ∙ and_no (has s k))

-- no element, no count
pub counts_none : (sets : List (List Bool)) (n : ℕ) → counts_in sets (empty n) ≡ replicate (length sets) 0
counts_none [] n = refl
counts_none (s ∷ sets) n = ap₂ ◌∷◌ (none s n) (counts_none sets n)

-- The solutions of a system, as they are listed: which they are, and that their number is 2 to the slack.
use Rattle.std.proofs.Common.{◌≡◌, ℕ, zero, suc, ◌/◌, ◌^◌, ◌<◌, ◌≤◌, Bool, true, false, T, leb, ◌⊎◌, List, [], ◌∷◌, map, length, drop, sym, refl, ap, ◌∙◌, subst, inl, inr, pow-suc, mul-div_cancel, arith, leb→le, pow_pos}
use Rattle.std.proofs.lemmas.Bool.{and_parts, and_from}
use mathlib.Core.Bool.{false≢true}
use mathlib.Core.Option.{Option, none, some}
use native.Mathlib.Nat.{two-pow-succ}
use Rattle.sets.specs.Bits.{alike}
use Rattle.sets.specs.Lists.{In, Distinct, Lists, Exactly}
use Rattle.sets.specs.Sets.{odd, has, row}
use Rattle.sets.proofs.Lists.{in_left, in_right, in_cases, in_map, of_map, distinct_map, distinct_append}
use Rattle.sets.proofs.Bits.{alike_same, same_alike}
use Rattle.sets.proofs.Sets.{has_below}
use Rattle.linear.specs.Field.{bits}
use Rattle.linear.specs.Basis.{Basis}
use Rattle.linear.specs.System.{keep, keep_if, Wide, solve}
use Rattle.linear.specs.Theorems.{Told}
use Rattle.linear.specs.Subsets.{subsets, explains}
use Rattle.linear.proofs.Sorted.{in_keep, of_keep}
use Rattle.linear.proofs.System.{solve_tells}
use Rattle.linear.proofs.Subsets.{solutions_subsets}
use Rattle.rules.specs.Systems.{rows, solutions, Solves, log2, slack}
use Rattle.rules.specs.Companions.{SolutionsListed, SlackCounts}
use Rattle.rules.proofs.Split.{Under, Sys}

-- the subsets of a mask
abbrev first : List Bool → Bool
first [] = false
first (x ∷ xs) = x

abbrev others : List Bool → List Bool
others [] = []
others (x ∷ xs) = xs

pub distinct_subsets : (m : List Bool) → Distinct (subsets m)
distinct_subsets [] = (λ h. h, tt)
distinct_subsets (true ∷ m) =
    distinct_append (map (λ x. false ∷ x) (subsets m)) (map (λ x. true ∷ x) (subsets m))
    (distinct_map (λ x. false ∷ x) (subsets m) (λ x y _ _ e. ap others e) (distinct_subsets m))
    (distinct_map (λ x. true ∷ x) (subsets m) (λ x y _ _ e. ap others e) (distinct_subsets m))
    (λ x a b. let p = of_map (λ x. false ∷ x) x (subsets m) a in let q = of_map (λ x. true ∷ x) x (subsets m) b in false≢true (ap first (sym p.2 ∙ q.2)))
distinct_subsets (false ∷ m) = distinct_map (λ x. false ∷ x) (subsets m) (λ x y _ _ e. ap others e) (distinct_subsets m)

under_cons : (b : Bool) (m : List Bool) (a : Bool) (x : List Bool) → (a ≡ true → b ≡ true) → Under (length m) (has m) x → Under (length (b ∷ m)) (has (b ∷ m)) (a ∷ x)
under_cons b m a x f u = record { long = ap suc u.long; inside = elim [ zero ↦ f | suc k ↦ u.inside k ] }

pub of_subsets : (m x : List Bool) → In x (subsets m) → Under (length m) (has m) x
of_subsets [] x (inl e) = record { long = ap length e; inside = λ i h. subst (λ (t : List Bool). has t i ≡ true) e h }
of_subsets [] x (inr n) = absurd n
of_subsets (true ∷ m) x h = go (in_cases x (map (λ x. false ∷ x) (subsets m)) (map (λ x. true ∷ x) (subsets m)) h) (λ y k. of_subsets m y k)
  where
    go : In x (map (λ x. false ∷ x) (subsets m)) ⊎ In x (map (λ x. true ∷ x) (subsets m)) → ((y : List Bool) → In y (subsets m) → Under (length m) (has m) y) → Under (length (true ∷ m)) (has (true ∷ m)) x
    go (inl a) ih = let p = of_map (λ x. false ∷ x) x (subsets m) a in subst (Under (length (true ∷ m)) (has (true ∷ m))) (sym p.2) (under_cons true m false p.0 (λ e. refl) (ih p.0 p.1))
    go (inr a) ih = let p = of_map (λ x. true ∷ x) x (subsets m) a in subst (Under (length (true ∷ m)) (has (true ∷ m))) (sym p.2) (under_cons true m true p.0 (λ e. refl) (ih p.0 p.1))
of_subsets (false ∷ m) x h = let p = of_map (λ x. false ∷ x) x (subsets m) h in subst (Under (length (false ∷ m)) (has (false ∷ m))) (sym p.2) (under_cons false m false p.0 (λ e. e) (of_subsets m p.0 p.1))

under_rest : (b : Bool) (m : List Bool) (a : Bool) (x : List Bool) → Under (length (b ∷ m)) (has (b ∷ m)) (a ∷ x) → Under (length m) (has m) x
under_rest b m a x u = let l : suc (length x) ≡ suc (length m) = u.long in record { long = omega arith; inside = λ k. u.inside (suc k) }

pub in_subsets : (m x : List Bool) → Under (length m) (has m) x → In x (subsets m)
in_subsets [] [] u = inl refl
in_subsets [] (a ∷ x) u = let l : suc (length x) ≡ 0 = u.long in absurd (omega arith)
in_subsets (b ∷ m) [] u = let l : 0 ≡ suc (length m) = u.long in absurd (omega arith)
in_subsets (true ∷ m) (true ∷ x) u = in_right (true ∷ x) (map (λ x. false ∷ x) (subsets m)) (map (λ x. true ∷ x) (subsets m)) (in_map (λ x. true ∷ x) x (subsets m) (in_subsets m x (under_rest true m true x u)))
in_subsets (true ∷ m) (false ∷ x) u = in_left (false ∷ x) (map (λ x. false ∷ x) (subsets m)) (map (λ x. true ∷ x) (subsets m)) (in_map (λ x. false ∷ x) x (subsets m) (in_subsets m x (under_rest true m false x u)))
in_subsets (false ∷ m) (true ∷ x) u = absurd (false≢true (u.inside 0 refl))
in_subsets (false ∷ m) (false ∷ x) u = in_map (λ x. false ∷ x) x (subsets m) (in_subsets m x (under_rest false m false x u))

pub has_drop : (s : List Bool) (d : ℕ) → has (drop 1 s) d ≡ has s (suc d)
has_drop [] d = refl
has_drop (b ∷ s) d = refl

-- the rows say what the checks say
pub of_explains : (C : List (List Bool)) (A s x : List Bool) → length A ≡ length C → explains (rows C A s) x ≡ true → (d : ℕ) → has A d ≡ true → odd (row C d) x ≡ has s d
of_explains [] A s x l e d t = let h : d < length A = has_below A d t in absurd (omega arith)
of_explains (c ∷ C) [] s x l e d t = absurd (omega arith)
of_explains (c ∷ C) (true ∷ A) s x l e zero t = alike_same (odd c x) (has s 0) (and_parts (alike (odd c x) (has s 0)) (explains (rows C A (drop 1 s)) x) e).0
of_explains (c ∷ C) (false ∷ A) s x l e zero t = absurd (false≢true t)
of_explains (c ∷ C) (true ∷ A) s x l e (suc d) t =
    let l' : length A ≡ length C = omega arith in
    of_explains C A (drop 1 s) x l' (and_parts (alike (odd c x) (has s 0)) (explains (rows C A (drop 1 s)) x) e).1 d t ∙ has_drop s d
of_explains (c ∷ C) (false ∷ A) s x l e (suc d) t =
    let l' : length A ≡ length C = omega arith in
    of_explains C A (drop 1 s) x l' e d t ∙ has_drop s d

pub in_explains : (C : List (List Bool)) (A s x : List Bool) → length A ≡ length C → ((d : ℕ) → has A d ≡ true → odd (row C d) x ≡ has s d) → explains (rows C A s) x ≡ true
in_explains [] A s x l h = refl
in_explains (c ∷ C) [] s x l h = absurd (omega arith)
in_explains (c ∷ C) (true ∷ A) s x l h =
    let l' : length A ≡ length C = omega arith in
    and_from _ _ (same_alike (odd c x) (has s 0) (h 0 refl)) (in_explains C A (drop 1 s) x l' (λ d t. h (suc d) t ∙ sym (has_drop s d)))
in_explains (c ∷ C) (false ∷ A) s x l h =
    let l' : length A ≡ length C = omega arith in
    in_explains C A (drop 1 s) x l' (λ d t. h (suc d) t ∙ sym (has_drop s d))

distinct_keep : {X : Type 0} (p : X → Bool) (l : List X) → Distinct l → Distinct (keep p l)
distinct_keep p [] d = tt
distinct_keep {X} p (x ∷ l) d = go (p x) (distinct_keep p l d.1)
  where
    go : (t : Bool) → Distinct (keep p l) → Distinct (keep_if t x (keep p l))
    go true s = (λ m. d.0 (of_keep (λ a b. Unit {0}) p x l m).0, s)
    go false s = s

-- base-2 logarithms
below_pow : (k : ℕ) → k < 2 ^ k
below_pow zero = omega arith
below_pow (suc k) = let h : k < 2 ^ k = below_pow k in omega (arith, two-pow-succ k)

log_pow : (t k : ℕ) → k ≤ t → log2 t (2 ^ k) ≡ k
log_pow zero k h = omega arith
log_pow (suc t) zero h = refl
log_pow (suc t) (suc k) h = let h' : k ≤ t = omega arith in go (leb (2 ^ suc k) 1) refl (log_pow t k h')
  where
    half : 2 ^ suc k / 2 ≡ 2 ^ k
    half = ap (λ n. n / 2) (pow-suc 2 k) ∙ mul-div_cancel (2 ^ k) (omega arith)

    go : (b : Bool) → leb (2 ^ suc k) 1 ≡ b → log2 t (2 ^ k) ≡ k → (elim b [ true ↦ 0 | false ↦ suc (log2 t (2 ^ suc k / 2)) ]) ≡ suc k
    go true e ih = let l : 2 ^ suc k ≤ 1 = leb→le (2 ^ suc k) 1 (subst T (sym e) tt) in absurd (omega (arith, pow_pos k, two-pow-succ k))
    go false e ih = ap suc (ap (log2 t) half ∙ ih)

-- the slack of 2 ^ k solutions
pub slack_pow : (k : ℕ) → log2 (2 ^ k) (2 ^ k) ≡ k
slack_pow k = let b : k ≤ 2 ^ k = omega (arith, below_pow k) in log_pow (2 ^ k) k b

module _ (n : ℕ) (C : List (List Bool)) (K A s : List Bool) (k : length K ≡ n) (a : length A ≡ length C) where
  pub of_solutions : (x : List Bool) → In x (solutions C K A s) → Sys n C (has K) (has A) (has s) x
  of_solutions x h =
      let r = of_keep (λ a b. Unit {0}) (explains (rows C A s)) x (subsets K) h in
      record { under = subst (λ (t : ℕ). Under t (has K) x) k (of_subsets K x r.0); told = of_explains C A s x a r.1 }

  pub in_solutions : (x : List Bool) → Sys n C (has K) (has A) (has s) x → In x (solutions C K A s)
  in_solutions x h =
      in_keep (λ a b. Unit {0}) (explains (rows C A s)) x (subsets K) (in_subsets K x (subst (λ (t : ℕ). Under t (has K) x) (sym k) h.under))
      (in_explains C A s x a h.told)

  in_list : Lists (Sys n C (has K) (has A) (has s)) (solutions C K A s)
  in_list = record { distinct = distinct_keep (explains (rows C A s)) (subsets K) (distinct_subsets K); sound = of_solutions; complete = in_solutions }

  pub listed : Exactly (length (solutions C K A s)) (Sys n C (has K) (has A) (has s))
  listed = record { all = solutions C K A s; lists = in_list; count = refl }

  wide : (D : List (List Bool)) (B t : List Bool) → ((c : List Bool) → In c D → length c ≡ n) → Wide (length K) (rows D B t)
  wide [] B t w = tt
  wide (c ∷ D) B t w = go (has B 0) (wide D (drop 1 B) (drop 1 t) (λ e m. w e (inr m)))
    where
      go : (b : Bool) → Wide (length K) (rows D (drop 1 B) (drop 1 t)) → Wide (length K) (keep_if b (record { left = c; right = has t 0 }) (rows D (drop 1 B) (drop 1 t)))
      go true h = (w c (inl refl) ∙ sym k, h)
      go false h = h

  pub power : ((c : List Bool) → In c C → length c ≡ n) → (solutions C K A s ≡ []) ⊎ (length (solutions C K A s) ≡ 2 ^ slack (solutions C K A s))
  power w = go (solve bits K (rows C A s)) (solve_tells bits K (rows C A s) (wide C A s w))
    where
      go : (o : Option (Basis Bool)) → Told bits K (rows C A s) o → (solutions C K A s ≡ []) ⊎ (length (solutions C K A s) ≡ 2 ^ slack (solutions C K A s))
      go none h = inl (sym (solutions_subsets K (rows C A s)) ∙ h)
      go (some B) h =
          let e : length (solutions C K A s) ≡ 2 ^ Rattle.linear.specs.Basis.slack B = ap length (sym (solutions_subsets K (rows C A s))) ∙ h.1 in
          let l : slack (solutions C K A s) ≡ Rattle.linear.specs.Basis.slack B = ap (λ (t : ℕ). log2 t t) e ∙ slack_pow (Rattle.linear.specs.Basis.slack B) in
          inr (e ∙ ap (λ (t : ℕ). 2 ^ t) (sym l))

-- the same in the words of the definition
module _ (C : List (List Bool)) (K A s : List Bool) where
  to_sys : (z : List Bool) → Solves C K A s z → Sys (length K) C (has K) (has A) (has s) z
  to_sys z h = record { under = record { long = h.range; inside = h.inside }; told = h.odd_where }

  of_sys : (z : List Bool) → Sys (length K) C (has K) (has A) (has s) z → Solves C K A s z
  of_sys z h = record { range = h.under.long; inside = h.under.inside; odd_where = h.told }

pub solutions_listed : SolutionsListed
solutions_listed C K A s y =
    let l = in_list (length K) C K A s refl y.among_range in
    record { distinct = l.distinct; sound = λ z m. of_sys C K A s z (l.sound z m); complete = λ z h. l.complete z (to_sys C K A s z h) }

pub slack_counts : SlackCounts
slack_counts C K A s z y m =
    elim (power (length K) C K A s refl y.among_range y.checks_range) [
      | inl e ↦ absurd (subst (In z) e m)
      | inr e ↦ record { all = solutions C K A s; lists = solutions_listed C K A s y; count = e }
    ]

-- The generators that have qubits and all of them erased, and the lowest qubit of one.
use Rattle.std.proofs.Common.{◌≡◌, ℕ, zero, suc, ◌+◌, ◌<◌, ◌≤◌, min, Bool, true, false, cond, not, eqb, ltb, ◌&&◌, ◌⊎◌, List, [], ◌∷◌, length, drop, get_or, fold, Some, None, sym, refl, ap, ◌∙◌, inl, inr, arith, ltb-false, eqb-true, eq-eqb, ◌||◌}
use Rattle.std.specs.List.{reduce}
use Rattle.std.proofs.lemmas.Bool.{or_left, or_right, or_cases, false_from_ne_true, cases_lt, ne_eqb}
use Rattle.std.proofs.lemmas.List.{at_drop_more, get_or_past}
use Rattle.terms.specs.declared.row.Row.TheVariants.{Generator}
use Rattle.sets.specs.Sets.{has, row, any, lowest, within, among}
use Rattle.sets.proofs.Bits.{clash}
use Rattle.sets.proofs.Sets.{any_some, has_any, row_of}
use Rattle.sets.proofs.Sizes.{lowest_has}
use Rattle.sets.proofs.Numbers.{eqb_same}
use Rattle.rules.specs.Run.{all_erased}
use Rattle.table.specs.OfTable.{told_of}
use Rattle.table.specs.Stands.{table_sound, table_tells, table_tells_none}
use Rattle.upkeep.specs.Rows.{all_in}
use Rattle.upkeep.proofs.Rows.{all_within}
use Rattle.running.specs.Finding.{lowest_in}
use Rattle.trial.specs.Standing.{Standing}
use Rattle.trial.proofs.Done.{code}

-- all elements of a list but the first lie in m
pub all_after : (m : List Bool) (l : List ℕ) (i : ℕ) (t : Bool) → i < length l → has m (get_or l i 0) ≡ t → all_in m (drop i l) ≡ (t && all_in m (drop (i + 1) l))
all_after m l i t h e = at_drop_more (all_in m) l i 0 h ∙ ap (λ x. x && all_in m (drop (i + 1) l)) e

-- a generator is told by its qubits, also where there is none of its number
pub told_names : (t : Standing) (g q : ℕ) → among q (told_of t.table (Generator g)) ≡ has (row (code t).generators g) q
told_names t g q = go (ltb g (length (code t).generators)) refl
  where
    go : (b : Bool) → ltb g (length (code t).generators) ≡ b → among q (told_of t.table (Generator g)) ≡ has (row (code t).generators g) q
    go true e = (table_tells t.table).names (Generator g) e q
    go false e =
        ap (among q) (table_tells_none t.table (Generator g) e)
        ∙ ap (λ m. has m q) (sym (get_or_past (code t).generators g [] (omega (arith, ltb-false g (length (code t).generators) e))))

module _ (t : Standing) (g : ℕ) where
  abbrev told : List ℕ
  told = told_of t.table (Generator g)

  abbrev set : List Bool
  set = row (code t).generators g

  module _ (h : g < length (code t).generators) where
    some : any set ≡ not (eqb (length told) 0)
    some = go told (told_names t g)
      where
        go : (l : List ℕ) → ((q : ℕ) → among q l ≡ has set q) → any set ≡ not (eqb (length l) 0)
        go [] n = false_from_ne_true (any set) (λ e. let q = any_some set e in clash (n q.0 ∙ q.1) refl)
        go (q ∷ l) n = has_any set q (sym (n q) ∙ or_left (eqb q q) (among q l) (eqb_same q)) ∙ ap not (sym (ne_eqb (suc (length l)) 0 (λ e. absurd (omega arith))))

    -- the generator has qubits and all of them erased, by its row as it is told
    pub wanted : all_erased (code t) t.state g ≡ (not (eqb (length told) 0) && all_in t.state.erased told)
    wanted =
        ap (λ x. x && within set t.state.erased) some
        ∙ ap (λ x. not (eqb (length told) 0) && x) (sym (all_within t.state.erased set told ((table_sound t.table).generators_range set (row_of (code t).generators g h) ∙ sym t.sized.erased) (told_names t g)))

-- the least of a list that names each number of a set, and no other, is the lowest of the set
lowest_least : (m : List Bool) (k : ℕ) → has m k ≡ true → lowest m ≤ k
lowest_least [] k e = absurd (clash e refl)
lowest_least (true ∷ m) k e = omega arith
lowest_least (false ∷ m) zero e = absurd (clash e refl)
lowest_least (false ∷ m) (suc k) e = omega (arith, lowest_least m k e)

least_named : (x : ℕ) (l : List ℕ) → among (fold min x l) (x ∷ l) ≡ true
least_named x [] = or_left (eqb x x) false (eqb_same x)
least_named x (y ∷ l) = go (or_cases (eqb (fold min (min x y) l) (min x y)) (among (fold min (min x y) l) l) (least_named (min x y) l))
  where
    m : ℕ
    m = fold min (min x y) l

    go : (eqb m (min x y) ≡ true) ⊎ (among m l ≡ true) → among m (x ∷ y ∷ l) ≡ true
    go (inr a) = or_right (eqb m x) (among m (y ∷ l)) (or_right (eqb m y) (among m l) a)
    go (inl e) = elim (either m (eqb-true m (min x y) e)) [
      | inl a ↦ or_left (eqb m x) (among m (y ∷ l)) (eq-eqb m x a)
      | inr b ↦ or_right (eqb m x) (among m (y ∷ l)) (or_left (eqb m y) (among m l) (eq-eqb m y b))
    ]
      where
        either : (k : ℕ) → k ≡ min x y → (k ≡ x) ⊎ (k ≡ y)
        either k e = elim (cases_lt x y) [ inl h ↦ inl (omega arith) | inr h ↦ inr (omega arith) ]

least_least : (x : ℕ) (l : List ℕ) (q : ℕ) → among q (x ∷ l) ≡ true → fold min x l ≤ q
least_least x [] q h = elim (or_cases (eqb q x) false h) [ inl e ↦ omega (arith, eqb-true q x e) | inr e ↦ absurd (clash e refl) ]
least_least x (y ∷ l) q h = go (least_least (min x y) l (min x y) (or_left (eqb (min x y) (min x y)) (among (min x y) l) (eqb_same (min x y)))) (least_least (min x y) l q) (or_cases (eqb q x) (eqb q y || among q l) h)
  where
    go : fold min (min x y) l ≤ min x y → (among q (min x y ∷ l) ≡ true → fold min (min x y) l ≤ q) → (eqb q x ≡ true) ⊎ ((eqb q y || among q l) ≡ true) → fold min (min x y) l ≤ q
    go first ih (inl e) = omega (arith, first, eqb-true q x e)
    go first ih (inr a) = elim (or_cases (eqb q y) (among q l) a) [ inl e ↦ omega (arith, first, eqb-true q y e) | inr b ↦ ih (or_right (eqb q (min x y)) (among q l) b) ]

pub least_lowest : (m : List Bool) (l : List ℕ) → ((q : ℕ) → among q l ≡ has m q) → reduce min l ≡ lowest_in m
least_lowest m [] names = sym (ap (λ x. cond x (Some (lowest m)) None) (false_from_ne_true (any m) (λ e. let q = any_some m e in clash (names q.0 ∙ q.1) refl)))
least_lowest m (x ∷ l) names =
    let here : has m (fold min x l) ≡ true = sym (names (fold min x l)) ∙ least_named x l in
    let some : any m ≡ true = has_any m (fold min x l) here in
    let low : lowest m ≤ fold min x l = lowest_least m (fold min x l) here in
    let least : fold min x l ≤ lowest m = least_least x l (lowest m) (names (lowest m) ∙ lowest_has m some) in
    let e : fold min x l ≡ lowest m = omega arith in
    ap (λ k. Some k) e ∙ sym (ap (λ x. cond x (Some (lowest m)) None) some)

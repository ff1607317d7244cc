-- What a table tells of its checks.
use Rattle.std.proofs.Common.{◌≡◌, ℕ, suc, ◌<◌, Bool, true, false, ltb, List, [], ◌∷◌, map, length, get_or, sym, refl, ap, ◌∙◌, subst, inl, inr, arith, ltb-false}
use Rattle.std.proofs.lemmas.Bool.{false_from_ne_true}
use Rattle.std.proofs.lemmas.List.{get_or_past}
use Rattle.terms.specs.declared.row.Row.TheVariants.{Check}
use Rattle.sets.specs.Lists.{In}
use Rattle.sets.specs.Sets.{has, row, meets, among}
use Rattle.sets.proofs.Bits.{clash}
use Rattle.sets.proofs.Lists.{in_get_or}
use Rattle.sets.proofs.Numbers.{in_among, among_in, element_has, has_element}
use Rattle.sets.proofs.Sets.{has_mapped, has_meets, meets_some}
use Rattle.table.specs.Columns.{holders_of}
use Rattle.table.specs.OfTable.{meaning_of, told_of}
use Rattle.table.specs.Stands.{table_tells, table_tells_none}
use Rattle.table.specs.declared.Table.{Table}

-- a check names the qubits that it holds
pub told_among : (t : Table) (c q : ℕ) → among q (told_of t (Check c)) ≡ has (row (meaning_of t).checks c) q
told_among t c q = go (ltb c (length (meaning_of t).checks)) refl
  where
    go : (b : Bool) → ltb c (length (meaning_of t).checks) ≡ b → among q (told_of t (Check c)) ≡ has (row (meaning_of t).checks c) q
    go true e = (table_tells t).names (Check c) e q
    go false e = ap (among q) (table_tells_none t (Check c) e) ∙ sym (ap (λ (r : List Bool). has r q) (get_or_past (meaning_of t).checks c [] (ltb-false c _ e)))

-- a column names the checks that hold a qubit
pub column_in : (sets : List (List Bool)) (q d : ℕ) → In d (holders_of sets q) → has (row sets d) q ≡ true
column_in sets q d i = sym (has_mapped (λ s. has s q) refl sets d) ∙ element_has (map (λ s. has s q) sets) d i

pub in_column : (sets : List (List Bool)) (q d : ℕ) → has (row sets d) q ≡ true → In d (holders_of sets q)
in_column sets q d e = has_element (map (λ s. has s q) sets) d (has_mapped (λ s. has s q) refl sets d ∙ e)

-- where a listed number stands
pub in_at : (k : ℕ) (l : List ℕ) → In k l → (i : ℕ) × (i < length l) × (get_or l i 0 ≡ k)
in_at k [] m = absurd m
in_at k (j ∷ l) (inl e) = (0, omega arith, sym e)
in_at k (j ∷ l) (inr m) = let r = in_at k l m in (suc r.0, (let h = r.1 in omega arith), r.2)

-- each place of a check's row has a qubit that it holds, and each qubit that it holds has a place
pub named : (t : Table) (c : ℕ) (l : List ℕ) → l ≡ told_of t (Check c) → (i : ℕ) → i < length l → has (row (meaning_of t).checks c) (get_or l i 0) ≡ true
named t c l e i h = let k = get_or l i 0 in sym (told_among t c k) ∙ ap (λ (x : List ℕ). among k x) (sym e) ∙ in_among k l (in_get_or l i 0 h)

pub place_of : (t : Table) (c : ℕ) (l : List ℕ) → l ≡ told_of t (Check c) → (k : ℕ) → has (row (meaning_of t).checks c) k ≡ true → (i : ℕ) × (i < length l) × (get_or l i 0 ≡ k)
place_of t c l e k h = in_at k l (among_in k l (ap (λ (x : List ℕ). among k x) e ∙ told_among t c k ∙ h))

-- the same for columns
pub holding : (sets : List (List Bool)) (q : ℕ) (l : List ℕ) → l ≡ holders_of sets q → (i : ℕ) → i < length l → has (row sets (get_or l i 0)) q ≡ true
holding sets q l e i h = column_in sets q (get_or l i 0) (subst (λ (x : List ℕ). In (get_or l i 0) x) e (in_get_or l i 0 h))

pub holder_place : (sets : List (List Bool)) (q : ℕ) (l : List ℕ) → l ≡ holders_of sets q → (d : ℕ) → has (row sets d) q ≡ true → (i : ℕ) × (i < length l) × (get_or l i 0 ≡ d)
holder_place sets q l e d h = in_at d l (subst (λ (x : List ℕ). In d x) (sym e) (in_column sets q d h))

-- what a search through a row for a qubit of a set finds
pub met_at : (t : Table) (c : ℕ) (m : List Bool) (l : List ℕ) → l ≡ told_of t (Check c) → (i : ℕ) → i < length l → has m (get_or l i 0) ≡ true → meets (row (meaning_of t).checks c) m ≡ true
met_at t c m l e i h p = has_meets (row (meaning_of t).checks c) m (get_or l i 0) (named t c l e i h) p

pub met_nowhere : (t : Table) (c : ℕ) (m : List Bool) (l : List ℕ) → l ≡ told_of t (Check c) → ((i : ℕ) → i < length l → has m (get_or l i 0) ≡ false) → meets (row (meaning_of t).checks c) m ≡ false
met_nowhere t c m l e none =
    false_from_ne_true (meets (row (meaning_of t).checks c) m)
    (λ h. let p = meets_some (row (meaning_of t).checks c) m h in let r = place_of t c l e p.0 p.1 in clash (ap (has m) r.2 ∙ p.2) (none r.0 r.1))

-- Places of unknowns; and the qubits of a check as a table tells them.
use Rattle.std.proofs.Common.{◌≡◌, ℕ, suc, ◌<◌, ◌≤◌, Some, None, Result, Ok, Err, Bool, true, false, cond, List, [], ◌∷◌, length, get_or, sym, refl, ap, ◌∙◌, subst, inl, inr, arith, lt-ltb, ltb-false}
use Rattle.terms.specs.Answering.{Answers}
use Rattle.terms.specs.declared.refusal.Refusal.{Refusal}
use Rattle.terms.specs.declared.refusal.Refusal.TheVariants.{QubitTooLarge}
use Rattle.terms.specs.declared.row.Row.TheVariants.{Check}
use Rattle.sets.specs.Lists.{In, Distinct}
use Rattle.sets.specs.Sets.{has, row, among}
use Rattle.sets.proofs.Bits.{clash}
use Rattle.sets.proofs.Numbers.{in_among, repeats_distinct}
use Rattle.sets.proofs.Sets.{has_below, row_in}
use Rattle.meaning.specs.Telling.{is_row}
use Rattle.table.specs.declared.Table.{Table}
use Rattle.table.specs.OfTable.{meaning_of, told_of}
use Rattle.table.specs.Stands.{table_sound, table_tells, table_tells_none}
use Rattle.elimination.specs.Calls.{outside}
use Rattle.systems.proofs.Rows.{no_row}

pub in_at : (x : ℕ) (l : List ℕ) → In x l → (i : ℕ) × (i < length l) × (get_or l i 0 ≡ x)
in_at x [] n = absurd n
in_at x (y ∷ l) (inl e) = (0, omega arith, sym e)
in_at x (y ∷ l) (inr m) = let (i, h, e) = in_at x l m in (suc i, omega arith, e)

-- a place of an unknown is not refused
pub inside : {X : Type 0} (r : Result X Refusal) (n p : ℕ) (Q : Type 0) → p < n → Answers r (outside n p) (λ _. Q) → Q
inside {X} r n p Q h a = go r (let R : Bool → Type 0 = λ b. Answers r (cond b None (Some QubitTooLarge)) (λ _. Q) in subst R (lt-ltb p n h) a)
  where
    go : (r : Result X Refusal) → Answers r None (λ _. Q) → Q
    go (Ok x) a = a
    go (Err f) a = absurd a

-- also of a number that is no check's, nothing is told twice, and what is told is the row
pub told_once : (t : Table) (c : ℕ) → Distinct (told_of t (Check c))
told_once t c = go (is_row (meaning_of t) (Check c)) refl
  where
    go : (b : Bool) → is_row (meaning_of t) (Check c) ≡ b → Distinct (told_of t (Check c))
    go true e = repeats_distinct (told_of t (Check c)) ((table_tells t).once (Check c) e)
    go false e = subst (λ (l : List ℕ). Distinct l) (sym (table_tells_none t (Check c) e)) tt

pub told_names : (t : Table) (c q : ℕ) → among q (told_of t (Check c)) ≡ has (row (meaning_of t).checks c) q
told_names t c q = go (is_row (meaning_of t) (Check c)) refl
  where
    go : (b : Bool) → is_row (meaning_of t) (Check c) ≡ b → among q (told_of t (Check c)) ≡ has (row (meaning_of t).checks c) q
    go true e = (table_tells t).names (Check c) e q
    go false e = ap (among q) (table_tells_none t (Check c) e) ∙ sym (ap (λ l. has l q) (no_row (meaning_of t).checks c (let h : length (meaning_of t).checks ≤ c = omega (arith, ltb-false c _ e) in omega arith)))

-- each of them is a qubit of the code
pub told_low : (t : Table) (c q : ℕ) → In q (told_of t (Check c)) → q < 2048
told_low t c q m =
    let M = meaning_of t in
    let held : has (row M.checks c) q ≡ true = sym (told_names t c q) ∙ in_among q (told_of t (Check c)) m in
    elim (row_in M.checks c) [
      | inl i ↦ omega (arith, has_below (row M.checks c) q held, (table_sound t).checks_range (row M.checks c) i, (table_sound t).few_qubits)
      | inr e ↦ absurd (clash held (ap (λ r. has r q) e))
    ]

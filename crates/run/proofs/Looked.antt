-- The places that a run keeps stay true.
use Rattle.std.proofs.Common.{◌≡◌, ℕ, ◌≤◌, Bool, false, List, length, map, None, Ok, Option, Result, sym, refl, ap, ◌∙◌, subst, inl, inr, arith}
use Rattle.std.specs.List.{find}
use Rattle.std.proofs.lemmas.Bool.{cases_lt}
use Rattle.terms.specs.declared.refusal.Refusal.{Refusal}
use Rattle.sets.specs.Sets.{has, row}
use Rattle.sets.proofs.Sets.{has_mapped}
use Rattle.meaning.specs.Meaning.{Meaning, qubits}
use Rattle.rules.specs.States.{State}
use Rattle.rules.specs.Calls.{dangling, peel, prune}
use Rattle.rules.specs.Run.{all_erased}
use Rattle.table.specs.Columns.{holders_of}
use Rattle.table.specs.OfTable.{meaning_of}
use Rattle.table.specs.declared.Table.{Table}
use Rattle.trial.specs.Standing.{Standing}
use Rattle.running.specs.Finding.{numbers_from, NoneBelow, back_to}
use Rattle.running.proofs.Lowest.{none_at_all, still_none}
use Rattle.running.proofs.Dangling.{peel_keeps, prune_keeps, none_past}
use Rattle.running.proofs.Shrinking.{Shrunk, idle_below, idle_past}

abbrev pub code : Standing → Meaning
code t = meaning_of t.table

-- nothing was found from k on, so there is nothing
pub nothing : (p : ℕ → Bool) (n k : ℕ) → ((j : ℕ) → n ≤ j → p j ≡ false) → NoneBelow p k → None ≡ find p (numbers_from k n) → (i : ℕ) → NoneBelow p i
nothing p n k past h e i j l = elim (cases_lt j n) [ inl a ↦ none_at_all p n k h (sym e) j a | inr b ↦ past j b ]

pub none_dangling : (M : Meaning) (s : State) (k : ℕ) → NoneBelow (dangling M s) k → None ≡ find (dangling M s) (numbers_from k (length M.checks)) → (i : ℕ) → NoneBelow (dangling M s) i
none_dangling M s k = nothing (dangling M s) (length M.checks) k (none_past M s)

pub none_to_prune : (M : Meaning) (s : State) (k : ℕ) → NoneBelow (all_erased M s) k → None ≡ find (all_erased M s) (numbers_from k (length M.generators)) → (i : ℕ) → NoneBelow (all_erased M s) i
none_to_prune M s k = nothing (all_erased M s) (length M.generators) k (idle_past M s)

lacks : (checks : List (List Bool)) (q j : ℕ) → has (map (λ s. has s q) checks) j ≡ false → has (row checks j) q ≡ false
lacks checks q j e = sym (has_mapped (λ s. has s q) refl checks j) ∙ e

module _ (t u : Standing) (same : u.table ≡ t.table) where
  long : length u.state.erased ≡ length t.state.erased
  long = u.sized.erased ∙ ap (λ (x : Table). qubits (meaning_of x)) same ∙ sym t.sized.erased

  -- generators that are behind stay behind
  pub generators_stay : (k : ℕ) → Shrunk (code t) t.state u.state → NoneBelow (all_erased (code t) t.state) k → NoneBelow (all_erased (code t) u.state) k
  generators_stay k s h = idle_below (code t) t.state u.state s long k h

  -- where a call turned at most checks that hold q into dangling ones
  checks_stay : (q k : ℕ) (o : Option ℕ) → ((j : ℕ) → has (row (code t).checks j) q ≡ false → dangling (code t) u.state j ≡ dangling (code t) t.state j) → NoneBelow (dangling (code t) t.state) k
      → o ≡ find (dangling (code u) u.state) (holders_of (code u).checks q) → NoneBelow (dangling (code t) u.state) (back_to k o)
  checks_stay q k o others h e =
      let here : o ≡ find (dangling (code t) u.state) (holders_of (code t).checks q) = e ∙ ap (λ (x : Table). find (dangling (meaning_of x) u.state) (holders_of (meaning_of x).checks q)) same in
      subst (λ x. NoneBelow (dangling (code t) u.state) (back_to k x)) (sym here)
      (still_none (dangling (code t) u.state) (dangling (code t) t.state) k (map (λ s. has s q) (code t).checks) h (λ j l. others j (lacks (code t).checks q j l)))

  pub after_peel : (slip c q k : ℕ) (o : Option ℕ) (r : Result ℕ Refusal) → (r, u.state) ≡ peel (code t) t.state slip c → r ≡ Ok q → NoneBelow (dangling (code t) t.state) k
      → o ≡ find (dangling (code u) u.state) (holders_of (code u).checks q) → NoneBelow (dangling (code t) u.state) (back_to k o)
  after_peel slip c q k o r e a h f =
      checks_stay q k o (λ j l. ap (λ x. dangling (code t) x.1 j) e ∙ peel_keeps (code t) t.state slip c q (sym (ap (λ x. x.0) e) ∙ a) j l) h f

  pub after_prune : (slip q : ℕ) (l : List ℕ) (k : ℕ) (o : Option ℕ) → u.state ≡ (prune (code t) t.state slip q l).1 → NoneBelow (dangling (code t) t.state) k
      → o ≡ find (dangling (code u) u.state) (holders_of (code u).checks q) → NoneBelow (dangling (code t) u.state) (back_to k o)
  after_prune slip q l k o e h f = checks_stay q k o (λ j r. ap (λ x. dangling (code t) x j) e ∙ prune_keeps (code t) t.state slip q l j r) h f

-- nothing is below 0
pub none_below_zero : (p : ℕ → Bool) → NoneBelow p 0
none_below_zero p j l = absurd (omega arith)

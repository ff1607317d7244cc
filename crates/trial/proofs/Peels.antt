-- A peel that is not refused.
use Rattle.std.proofs.Common.{◌≡◌, ℕ, ◌+◌, ◌<◌, Bool, true, cond, not, eqb, ltb, List, length, Some, None, Ok, Result, vec_items, sym, ap, ap₂, ◌∙◌, arith, ltb-true, eqb-true}
use Rattle.std.proofs.lemmas.Bool.{and_parts, not-false}
use Rattle.terms.specs.declared.refusal.Refusal.{Refusal}
use Rattle.terms.specs.declared.row.Row.TheVariants.{Check}
use Rattle.sets.specs.Sets.{has, row, only, empty, size, among}
use Rattle.sets.proofs.Bits.{clash}
use Rattle.sets.proofs.Sets.{has_below, has_meet}
use Rattle.sets.proofs.Sizes.{one_of}
use Rattle.meaning.specs.Meaning.{qubits}
use Rattle.rules.specs.declared.answers.Status.{Status}
use Rattle.rules.specs.States.{State, finish, count}
use Rattle.rules.specs.Calls.{held, dangling, peel_bars, peel}
use Rattle.rules.proofs.Bars.{Clear}
use Rattle.table.specs.OfTable.{told_of}
use Rattle.table.specs.Stands.{table_sound, table_tells}
use Rattle.upkeep.specs.Fault.{fault}
use Rattle.upkeep.specs.Rows.{first_in}
use Rattle.upkeep.specs.Statuses.{erased_of}
use Rattle.upkeep.proofs.Faults.{fault_clear, fault_none}
use Rattle.upkeep.proofs.Rows.{first_in_lem, none_in}
use Rattle.upkeep.proofs.Finish.{with_counts, count_peeled}
use Rattle.upkeep.proofs.Peeled.{peel_one}
use Rattle.trial.specs.Standing.{Standing}
use Rattle.trial.specs.Seen.{standing_of}
use Rattle.trial.specs.declared.trial.Trial.TheInside.{Inside}
use Rattle.trial.proofs.Done.{code}

module _ (t : Standing) (slip k : ℕ) (fine : None ≡ fault (peel_bars (code t) t.state slip k)) where
  clear : Clear (peel_bars (code t) t.state slip k)
  clear = fault_clear (peel_bars (code t) t.state slip k) (sym fine)

  pub is_check : k < length (code t).checks
  is_check = ltb-true k (length (code t).checks) (not-false (ltb k (length (code t).checks)) clear.0)

  one : size (held (code t) t.state k) ≡ 1
  one = eqb-true (size (held (code t) t.state k)) 1 (and_parts (not (has t.state.closed k)) (eqb (size (held (code t) t.state k)) 1) (not-false (dangling (code t) t.state k) clear.1.1.0)).1

  abbrev told : List ℕ
  told = told_of t.table (Check k)

  named : (q : ℕ) → among q told ≡ has (row (code t).checks k) q
  named q = (table_tells t.table).names (Check k) (not-false (ltb k (length (code t).checks)) clear.0) q

  -- what is found at the fields is what the rule finds
  pub at_fields : (i : Inside) → standing_of i ≡ t → (l : List Status) (r : List ℕ) → l ≡ vec_items i.board.erasures.status → r ≡ told_of i.board.erasures.table.now (Check k)
      → first_in (erased_of l) r ≡ first_in t.state.erased told
  at_fields i is l r el er = ap₂ (λ x y. first_in (erased_of x) y) el er ∙ ap (λ (x : Standing). first_in x.state.erased (told_of x.table (Check k))) is

  -- the row has an erased qubit
  pub some_erased : None ≡ first_in t.state.erased told → ⊥
  some_erased e =
      let q = one_of (held (code t) t.state k) one in
      let b = and_parts (has (row (code t).checks k) q.0) (has t.state.erased q.0) (sym (has_meet (row (code t).checks k) t.state.erased q.0) ∙ q.1) in
      clash b.1 (none_in t.state.erased told e q.0 (named q.0 ∙ b.0))

  module _ (q : ℕ) (found : Some q ≡ first_in t.state.erased told) where
    pub erased_is : has t.state.erased q ≡ true
    erased_is = (first_in_lem t.state.erased told q found).1

    pub is_qubit : q < qubits (code t)
    is_qubit = omega (arith, has_below t.state.erased q erased_is, t.sized.erased)

    -- what is left by finishing the qubit and counting it is what a peel leaves
    pub peels : (u : State) (flip : Bool) → flip ≡ has t.state.odds k → u ≡ finish (code t) (only (qubits (code t)) q) (cond flip (only (qubits (code t)) q) (empty (qubits (code t)))) t.state
        → ◌≡◌ {A = Result ℕ Refusal × State} (Ok q, with_counts u (u.peeled + 1) u.pruned u.chosen) (peel (code t) t.state slip k)
    peels u flip odd e =
        ap (λ (s : State). (Ok q, s)) (count_peeled u ∙ ap (count 1 0 0) (e ∙ ap (λ f. finish (code t) (only (qubits (code t)) q) (cond f (only (qubits (code t)) q) (empty (qubits (code t)))) t.state) odd))
        ∙ peel_one (code t) (table_sound t.table) t.state t.sized.erased k is_check one q (sym (named q) ∙ (first_in_lem t.state.erased told q found).0) erased_is
        ∙ sym (fault_none t.state _ (peel_bars (code t) t.state slip k) fine)

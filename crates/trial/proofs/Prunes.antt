-- A prune that is not refused.
use Rattle.std.proofs.Common.{◌≡◌, ℕ, ◌+◌, ◌<◌, true, ltb, List, None, Ok, Result, sym, ap, ◌∙◌, ltb-true}
use Rattle.std.proofs.lemmas.Bool.{not-false}
use Rattle.terms.specs.declared.refusal.Refusal.{Refusal}
use Rattle.sets.specs.Sets.{has, only, empty}
use Rattle.meaning.specs.Meaning.{qubits}
use Rattle.rules.specs.Reports.{product}
use Rattle.rules.specs.States.{State, finish, count}
use Rattle.rules.specs.Calls.{prune_bars, prune}
use Rattle.rules.proofs.Bars.{Clear}
use Rattle.rules.proofs.Steps.{product_erased}
use Rattle.upkeep.specs.Fault.{fault}
use Rattle.upkeep.proofs.Faults.{fault_clear, fault_none}
use Rattle.upkeep.proofs.Finish.{with_counts, count_pruned}
use Rattle.trial.specs.Standing.{Standing}
use Rattle.trial.proofs.Done.{code}

module _ (t : Standing) (slip q : ℕ) (l : List ℕ) (fine : None ≡ fault (prune_bars (code t) t.state slip q l)) where
  clear : Clear (prune_bars (code t) t.state slip q l)
  clear = fault_clear (prune_bars (code t) t.state slip q l) (sym fine)

  pub is_qubit : q < qubits (code t)
  is_qubit = ltb-true q (qubits (code t)) (not-false (ltb q (qubits (code t))) clear.0)

  pub erased_is : has t.state.erased q ≡ true
  erased_is = product_erased (code t) t.state.erased l clear.1.1.1.1.0 q (not-false (has (product (code t) l) q) clear.1.1.1.1.1.0)

  -- what is left by finishing the qubit and counting it is what a prune leaves
  pub prunes : (u : State) → u ≡ finish (code t) (only (qubits (code t)) q) (empty (qubits (code t))) t.state
      → ◌≡◌ {A = Result (Unit {0}) Refusal × State} (Ok tt, with_counts u u.peeled (u.pruned + 1) u.chosen) (prune (code t) t.state slip q l)
  prunes u e = ap (λ (s : State). (Ok tt, s)) (count_pruned u ∙ ap (count 0 1 0) e) ∙ sym (fault_none t.state _ (prune_bars (code t) t.state slip q l) fine)

-- No call changes the number that a trial shares with its slip.
use Rattle.std.proofs.Common.{◌≡◌, ℕ, zero, suc, Bool, true, false, List, [], ◌∷◌, length, Ok, refl, ◌∙◌}
use mathlib.Core.Option.{Option, none, some}
use Rattle.meaning.specs.Meaning.{Meaning, qubits}
use Rattle.rules.specs.States.{Entry, State, reopen}
use Rattle.rules.specs.Clusters.{touched, cluster, free}
use Rattle.rules.specs.Systems.{solutions}
use Rattle.rules.specs.Refusing.{wrong_slip}
use Rattle.rules.specs.Calls.{peel_bars, prune_bars, solve_bars, sweep_bars, settle_bars, solve_found, sweep_found, settle_found, settle_newest, settle}
use Rattle.rules.specs.CallLists.{Call, Peel, Prune, Solve, Sweep, Settle, Close, call}
use Rattle.rules.specs.Moves.{solve_from, sweep_from, connects}
use Rattle.rules.specs.Run.{next, turns, settles, ran, ending, run_bars, run}
use Rattle.rules.proofs.Bars.{guarded}
use Rattle.running.specs.Turning.{taken}

module _ (M : Meaning) (s : State) where
  abbrev Same : State → Type 0
  Same t = t.number ≡ s.number

  call_number : (c : Call) → Same (call M s c)
  call_number (Peel slip c) = guarded (peel_bars M s slip c) s _ Same refl (λ _. refl)
  call_number (Prune slip q l) = guarded (prune_bars M s slip q l) s _ Same refl (λ _. refl)
  call_number (Solve slip q scratch) =
      guarded (solve_bars M s q scratch (cluster M s q) (connects M s q)) s (solve_found M s slip (cluster M s q) (connects M s q) (free M s (cluster M s q) (connects M s q)) (solve_from M s q)) Same refl
      (λ _. go (free M s (cluster M s q) (connects M s q)) (solve_from M s q))
    where
      go : (f : Bool) (found : List (List Bool)) → Same (solve_found M s slip (cluster M s q) (connects M s q) f found).1
      go f [] = refl
      go true (z ∷ found) = guarded (wrong_slip s slip ∷ []) s _ Same refl (λ _. refl)
      go false (z ∷ found) = guarded (wrong_slip s slip ∷ []) s _ Same refl (λ _. refl)
  call_number (Sweep slip) = guarded (sweep_bars s) s (sweep_found M s slip (sweep_from M s)) Same refl (λ _. go (sweep_from M s))
    where
      go : (found : List (List Bool)) → Same (sweep_found M s slip found).1
      go [] = refl
      go (z ∷ found) = guarded (wrong_slip s slip ∷ []) s _ Same refl (λ _. refl)
  call_number (Settle slip) = guarded (settle_bars s slip) s (settle_newest M s s.shelf) Same refl (λ _. newest s.shelf)
    where
      newest : (l : List Entry) → Same (settle_newest M s l).1
      newest [] = refl
      newest (e ∷ l) = go (solutions M.checks e.members (touched M (reopen e.check l s) e.members) s.odds)
        where
          go : (found : List (List Bool)) → Same (settle_found M s (reopen e.check l s) e.members found).1
          go [] = refl
          go (z ∷ found) = refl
  call_number (Close slip tally) = refl

  pub settle_number : (slip : ℕ) → Same (settle M s slip).1
  settle_number slip = call_number (Settle slip)

  pub taken_number : (o : Option Call) → Same (taken M s o).1
  taken_number none = refl
  taken_number (some c) = call_number c

pub turns_number : (M : Meaning) (w : ℕ) (scratch : List ℕ) (n : ℕ) (s : State) → (turns M w scratch n s).number ≡ s.number
turns_number M w scratch zero s = refl
turns_number M w scratch (suc n) s = go s.void (next M w scratch s) (λ t. turns_number M w scratch n t)
  where
    go : (b : Bool) (o : Option Call) → ((t : State) → (turns M w scratch n t).number ≡ t.number)
        → (let t : State = elim b [ true ↦ s | false ↦ elim o [ none ↦ s | some c ↦ turns M w scratch n (call M s c) ] ] in t.number ≡ s.number)
    go true o ih = refl
    go false none ih = refl
    go false (some c) ih = ih (call M s c) ∙ call_number M s c

settles_number : (M : Meaning) (n : ℕ) (s : State) → (settles M n s).number ≡ s.number
settles_number M zero s = refl
settles_number M (suc n) s = settles_number M n (settle M s s.number).1 ∙ settle_number M s s.number

pub run_number : (M : Meaning) (s : State) (slip w : ℕ) (scratch : List ℕ) → (run M s slip w scratch).1.number ≡ s.number
run_number M s slip w scratch =
    let t : State = turns M w scratch (qubits M) s in
    guarded (run_bars M s slip w scratch) s (Ok (ending (ran M w scratch s)), ran M w scratch s) (λ (u : State). u.number ≡ s.number) refl
    (λ _. settles_number M (length t.shelf) t ∙ turns_number M w scratch (qubits M) s)

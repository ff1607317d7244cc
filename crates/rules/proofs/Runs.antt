-- A run is a list of calls.
use Rattle.std.proofs.Common.{◌≡◌, ℕ, zero, suc, Bool, true, false, List, [], ◌∷◌, ◌++◌, length, Ok, sym, refl, ap, ◌∙◌}
use mathlib.Core.Option.{Option, none, some}
use Rattle.meaning.specs.Meaning.{Meaning, qubits}
use Rattle.rules.specs.States.{State}
use Rattle.rules.specs.Calls.{settle}
use Rattle.rules.specs.CallLists.{Call, Settle, call, after}
use Rattle.rules.specs.Run.{next, turns, settles, ran, ending, run_bars}
use Rattle.rules.specs.Companions.{RunIsCalls}
use Rattle.rules.proofs.Bars.{guarded}

after_append : (M : Meaning) (s : State) (k l : List Call) → after M s (k ++ l) ≡ after M (after M s k) l
after_append M s [] l = refl
after_append M s (c ∷ k) l = after_append M (call M s c) k l

turns_calls : (M : Meaning) (w : ℕ) (scratch : List ℕ) (n : ℕ) (s : State) → (calls : List Call) × (turns M w scratch n s ≡ after M s calls)
turns_calls M w scratch zero s = ([], refl)
turns_calls M w scratch (suc n) s = go s.void (next M w scratch s) (λ t. turns_calls M w scratch n t)
  where
    go : (b : Bool) (o : Option Call) → ((t : State) → (calls : List Call) × (turns M w scratch n t ≡ after M t calls))
        → (calls : List Call) × ((elim b [ true ↦ s | false ↦ elim o [ none ↦ s | some c ↦ turns M w scratch n (call M s c) ] ]) ≡ after M s calls)
    go true o ih = ([], refl)
    go false none ih = ([], refl)
    go false (some c) ih = let r = ih (call M s c) in (c ∷ r.0, r.1)

settles_calls : (M : Meaning) (n : ℕ) (s : State) → (calls : List Call) × (settles M n s ≡ after M s calls)
settles_calls M zero s = ([], refl)
settles_calls M (suc n) s = let r = settles_calls M n (settle M s s.number).1 in (Settle s.number ∷ r.0, r.1)

ran_calls : (M : Meaning) (w : ℕ) (scratch : List ℕ) (s : State) → (calls : List Call) × (ran M w scratch s ≡ after M s calls)
ran_calls M w scratch s =
    let a = turns_calls M w scratch (qubits M) s in
    let t : State = turns M w scratch (qubits M) s in
    let b = settles_calls M (length t.shelf) t in
    (a.0 ++ b.0, b.1 ∙ ap (λ x. after M x b.0) a.1 ∙ sym (after_append M s a.0 b.0))

pub run_calls : RunIsCalls
run_calls M s slip w scratch =
    guarded (run_bars M s slip w scratch) s (Ok (ending (ran M w scratch s)), ran M w scratch s) (λ t. (calls : List Call) × (t ≡ after M s calls)) ([], refl)
    (λ c. ran_calls M w scratch s)

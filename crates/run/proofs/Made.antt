-- A run is the list of the calls that it makes.
use Rattle.std.proofs.Common.{◌≡◌, ℕ, zero, suc, Bool, true, false, cond, List, [], ◌∷◌, ◌++◌, length, replicate, Ok, Err, Result, sym, refl, ap, ◌∙◌}
use mathlib.Core.Option.{Option, none, some}
use Rattle.terms.specs.declared.refusal.Refusal.{Refusal}
use Rattle.meaning.specs.Meaning.{Meaning, qubits}
use Rattle.rules.specs.declared.answers.Ending.{Ending}
use Rattle.rules.specs.States.{State}
use Rattle.rules.specs.Calls.{settle}
use Rattle.rules.specs.CallLists.{Call, Settle, call, after}
use Rattle.rules.specs.Refusing.{Bar, unless}
use Rattle.rules.specs.Run.{next, turns, settles, ran, ending, run_bars, run}
use Rattle.running.proofs.Numbered.{settle_number, turns_number}
use Rattle.run.specs.Promises.{turns_made, made, CountsAsCalls}

one_after_another : (M : Meaning) (s : State) (k l : List Call) → after M s (k ++ l) ≡ after M (after M s k) l
one_after_another M s [] l = refl
one_after_another M s (c ∷ k) l = one_after_another M (call M s c) k l

turns_are : (M : Meaning) (w : ℕ) (scratch : List ℕ) (n : ℕ) (s : State) → turns M w scratch n s ≡ after M s (turns_made M w scratch n s)
turns_are M w scratch zero s = refl
turns_are M w scratch (suc n) s = go s.void (next M w scratch s) (λ t. turns_are M w scratch n t)
  where
    go : (b : Bool) (o : Option Call) → ((t : State) → turns M w scratch n t ≡ after M t (turns_made M w scratch n t))
        → (elim b [ true ↦ s | false ↦ elim o [ none ↦ s | some c ↦ turns M w scratch n (call M s c) ] ])
        ≡ after M s (elim b [ true ↦ [] | false ↦ elim o [ none ↦ [] | some c ↦ c ∷ turns_made M w scratch n (call M s c) ] ])
    go true o ih = refl
    go false none ih = refl
    go false (some c) ih = ih (call M s c)

settles_are : (M : Meaning) (n : ℕ) (s : State) (k : ℕ) → s.number ≡ k → settles M n s ≡ after M s (replicate n (Settle k))
settles_are M zero s k e = refl
settles_are M (suc n) s k e =
    settles_are M n (settle M s s.number).1 k (settle_number M s s.number ∙ e)
    ∙ ap (λ (i : ℕ). after M (settle M s i).1 (replicate n (Settle k))) e

ran_made : (M : Meaning) (w : ℕ) (scratch : List ℕ) (s : State) → ran M w scratch s ≡ after M s (made M w scratch s)
ran_made M w scratch s =
    let t : State = turns M w scratch (qubits M) s in
    settles_are M (length t.shelf) t s.number (turns_number M w scratch (qubits M) s)
    ∙ ap (λ (u : State). after M u (replicate (length t.shelf) (Settle s.number))) (turns_are M w scratch (qubits M) s)
    ∙ sym (one_after_another M s (turns_made M w scratch (qubits M) s) (replicate (length t.shelf) (Settle s.number)))

-- a refused call leaves what was there before
either_way : {A S : Type 0} (bars : List Bar) (s : S) (x : Result A Refusal × S) (P : Result A Refusal × S → Type 0) → ((f : Refusal) → P (Err f, s)) → P x → P (unless bars s x)
either_way [] s x P refused accepted = accepted
either_way (b ∷ bars) s x P refused accepted = go b.holds (either_way bars s x P refused accepted)
  where
    go : (t : Bool) → P (unless bars s x) → P (cond t (Err b.says, s) (unless bars s x))
    go true ih = refused b.says
    go false ih = ih

pub run_is_made : (M : Meaning) (s : State) (slip w : ℕ) (scratch : List ℕ) → CountsAsCalls M s w scratch (run M s slip w scratch).0 (run M s slip w scratch).1
run_is_made M s slip w scratch =
    either_way (run_bars M s slip w scratch) s (Ok (ending (ran M w scratch s)), ran M w scratch s) (λ (p : Result Ending Refusal × State). CountsAsCalls M s w scratch p.0 p.1) (λ f. refl) (ran_made M w scratch s)

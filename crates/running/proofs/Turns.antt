-- Turn after turn, and settle after settle.
use Rattle.std.proofs.Common.{◌≡◌, ℕ, zero, suc, Bool, true, false, List, Ok, Err, Result, sym, refl, ap, ◌∙◌}
use mathlib.Core.Option.{Option, none, some}
use Rattle.std.specs.Result.{is_err}
use Rattle.terms.specs.declared.refusal.Refusal.{Refusal}
use Rattle.sets.proofs.Bits.{clash}
use Rattle.meaning.specs.Meaning.{Meaning}
use Rattle.rules.specs.States.{State}
use Rattle.rules.specs.Calls.{settle}
use Rattle.rules.specs.CallLists.{Call, call}
use Rattle.rules.specs.Companions.{Kept}
use Rattle.rules.specs.Run.{next, turns, settles}
use Rattle.rules.proofs.Bars.{not_ok}
use Rattle.rules.proofs.Refused.{refusals_keep}
use Rattle.running.specs.Turning.{taken}

module _ (M : Meaning) (w : ℕ) (scratch : List ℕ) where
  -- in a trial that is void, or in which nothing more can be done, turns change nothing
  pub turns_void : (n : ℕ) (s : State) → s.void ≡ true → turns M w scratch n s ≡ s
  turns_void zero s v = refl
  turns_void (suc n) s v = ap (λ b. elim b as (λ _. State) [ true ↦ s | false ↦ elim (next M w scratch s) as (λ _. State) [ none ↦ s | some c ↦ turns M w scratch n (call M s c) ] ]) v

  turn_one : (n : ℕ) (s : State) → s.void ≡ false → turns M w scratch (suc n) s ≡ (elim (next M w scratch s) [ none ↦ s | some c ↦ turns M w scratch n (call M s c) ])
  turn_one n s v = ap (λ b. elim b as (λ _. State) [ true ↦ s | false ↦ elim (next M w scratch s) as (λ _. State) [ none ↦ s | some c ↦ turns M w scratch n (call M s c) ] ]) v

  pub turns_idle : (n : ℕ) (s t : State) → s.void ≡ false → (false, t) ≡ taken M s (next M w scratch s) → turns M w scratch n s ≡ t
  turns_idle zero s t v e = go (next M w scratch s) e
    where
      go : (o : Option Call) → (false, t) ≡ taken M s o → s ≡ t
      go none e = sym (ap (λ (r : Bool × State). r.1) e)
      go (some c) e = absurd (clash refl (ap (λ (r : Bool × State). r.0) (sym e)))
  turns_idle (suc n) s t v e = turn_one n s v ∙ go (next M w scratch s) e
    where
      go : (o : Option Call) → (false, t) ≡ taken M s o → (elim o [ none ↦ s | some c ↦ turns M w scratch n (call M s c) ]) ≡ t
      go none e = sym (ap (λ (r : Bool × State). r.1) e)
      go (some c) e = absurd (clash refl (ap (λ (r : Bool × State). r.0) (sym e)))

  pub turns_more : (n : ℕ) (s t : State) → s.void ≡ false → (true, t) ≡ taken M s (next M w scratch s) → turns M w scratch (suc n) s ≡ turns M w scratch n t
  turns_more n s t v e = turn_one n s v ∙ go (next M w scratch s) e
    where
      go : (o : Option Call) → (true, t) ≡ taken M s o → (elim o [ none ↦ s | some c ↦ turns M w scratch n (call M s c) ]) ≡ turns M w scratch n t
      go none e = absurd (clash refl (ap (λ (r : Bool × State). r.0) e))
      go (some c) e = ap (turns M w scratch n) (sym (ap (λ (r : Bool × State). r.1) e))

module _ (M : Meaning) where
  settle_kept : (s t : State) (r : Refusal) → (Err r, t) ≡ settle M s s.number → t ≡ s
  settle_kept s t r e = go (settle M s s.number) e ((refusals_keep M s).settle_kept s.number)
    where
      go : (x : Result (Unit {0}) Refusal × State) → (Err r, t) ≡ x → Kept s x → t ≡ s
      go (Ok a, u) e k = not_ok r a (ap (λ (x : Result (Unit {0}) Refusal × State). x.0) e)
      go (Err f, u) e k = ap (λ (x : Result (Unit {0}) Refusal × State). x.1) e ∙ k

  -- a settle that is refused is refused again
  pub settles_refused : (n : ℕ) (s t : State) (r : Refusal) → (Err r, t) ≡ settle M s s.number → settles M n s ≡ t
  settles_refused zero s t r e = sym (settle_kept s t r e)
  settles_refused (suc n) s t r e =
      ap (settles M n) (sym (ap (λ (x : Result (Unit {0}) Refusal × State). x.1) e) ∙ settle_kept s t r e) ∙ settles_refused n s t r e

  pub settles_end : (n : ℕ) (s t : State) (r : Result (Unit {0}) Refusal) → is_err r ≡ true → (r, t) ≡ settle M s s.number → settles M n s ≡ t
  settles_end n s t (Ok a) h e = absurd (clash h refl)
  settles_end n s t (Err r) h e = settles_refused n s t r e

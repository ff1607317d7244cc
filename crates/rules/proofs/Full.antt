-- A run with all stages on, with at most 256 lost qubits, leaves nothing erased or shelved unless the trial is void.
use Rattle.std.proofs.Common.{◌≡◌, ℕ, ◌≤◌, Bool, true, false, cond, List, [], sym, refl, ap, ◌∙◌, inl, inr, arith, le-ltb}
use Rattle.std.proofs.lemmas.Bool.{cases_Bool, false_from_ne_true, or_left}
use mathlib.Core.Option.{none, some}
use Rattle.sets.specs.Sets.{has, any, size}
use Rattle.sets.proofs.Bits.{clash}
use Rattle.sets.proofs.Sets.{any_some}
use Rattle.meaning.specs.Meaning.{Meaning, Sound}
use Rattle.rules.specs.Reports.{Report, For}
use Rattle.rules.specs.States.{State, opening}
use Rattle.rules.specs.CallLists.{Sweep, after}
use Rattle.rules.specs.Run.{or_else, on, only_if, peelable, prunable, solvable, can_sweep, sweepable, next, run}
use Rattle.rules.specs.Companions.{RunsEmpty, FullRunEmpties}
use Rattle.rules.proofs.Openings.{always}
use Rattle.rules.proofs.Shelf.{shelved_by, Inv}
use Rattle.rules.proofs.Law.{live, after_truth}
use Rattle.sets.proofs.Sizes.{size_within}
use Rattle.rules.proofs.Firsts.{never, or_none_else}
use Rattle.rules.proofs.Fewer.{sweep_passes}
use Rattle.rules.proofs.Turns.{run_ends_with}

-- with nothing to do, there is nothing to sweep
no_sweep : (M : Meaning) (scratch : List ℕ) (s : State) → next M 15 scratch s ≡ none → can_sweep M s ≡ false
no_sweep M scratch s e = go (can_sweep M s) swept
  where
    swept : cond (can_sweep M s) (some (Sweep s.number)) none ≡ none
    swept =
        or_none_else (only_if (on 15 4) (solvable M scratch s)) (only_if (on 15 8) (sweepable M s))
        (or_none_else (only_if (on 15 2) (prunable M s)) (or_else (only_if (on 15 4) (solvable M scratch s)) (only_if (on 15 8) (sweepable M s)))
        (or_none_else (only_if (on 15 1) (peelable M s)) (or_else (only_if (on 15 2) (prunable M s)) (or_else (only_if (on 15 4) (solvable M scratch s)) (only_if (on 15 8) (sweepable M s)))) e))

    go : (b : Bool) → cond b (some (Sweep s.number)) none ≡ none → b ≡ false
    go true q = never (Sweep s.number) (sym q)
    go false q = refl

module _ (M : Meaning) (sound : Sound M) (R : Report) (for : For M R) (few : size R.lost ≤ 256) (s : State) (v : s.void ≡ false) (h : Inv M sound R for s) where
  at_most_256 : size s.erased ≤ 256
  at_most_256 =
      let k : size s.erased ≤ size R.lost = size_within s.erased R.lost (h.erased_long ∙ sym for.lost_range) (λ i e. h.core.still i (or_left (has s.erased i) (has s.shelved i) e)) in
      omega arith

  none_erased : can_sweep M s ≡ false → any s.erased ≡ false
  none_erased idle = false_from_ne_true (any s.erased) (λ e. clash (sweep_passes M s v e (le-ltb 256 (size s.erased) at_most_256)) idle)

  none_shelved : s.shelf ≡ [] → any s.shelved ≡ false
  none_shelved e = false_from_ne_true (any s.shelved) (λ x. let i = any_some s.shelved x in clash i.1 (h.shelved_is i.0 ∙ ap (λ l. shelved_by l i.0) e))

pub full_run : FullRunEmpties
full_run = always RunsEmpty (λ M sound R for number calls few slip scratch e q.
    let s : State = after M (opening M R number) calls in
    let t : State = (run M s slip 15 scratch).1 in
    let r = run_ends_with M sound R for s (after_truth M sound R for number calls) slip 15 scratch e q in
    elim (cases_Bool t.void) [
      | inl v ↦ inl v
      | inr v ↦ elim r.1 [
        | inl w ↦ absurd (clash w v)
        | inr w ↦
            let h : Inv M sound R for t = live M sound R for t v r.0 in
            let off : any t.erased ≡ false = none_erased M sound R for few t v h (no_sweep M scratch t w.0) in
            inr (off, none_shelved M sound R for few t v h (w.1 off))
      ]
    ])

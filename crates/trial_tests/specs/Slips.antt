-- Slips that are out: as many as the tallies count, and each has the number of its trial.
use Rattle.std.specs.Prelude.{◌≡◌, ℕ, ◌+◌, ◌-◌, List, map, sum_by, Some, None, Ok, Err, Option, Result, slice_index, slice_index_or}
use Rattle.terms.specs.declared.refusal.Refusal.{Refusal}
use Rattle.trial.specs.declared.slip.Slip.{Slip}
use Rattle.trial.specs.declared.tally.Tally.{Tally}
use Rattle.trial.specs.declared.trial.Trial.{Trial}
use Rattle.trial.specs.declared.trial.opening.Opened.{Opened}

-- how many slips a tally counts out, and how many all do
abbrev pub out : Tally → ℕ
out t = t.counts.opened - (t.counts.solved + t.counts.nothing + t.counts.unfinished)

abbrev pub outs : List Tally → ℕ
outs l = sum_by out l

-- how many slips a place holds, and how many all do
abbrev pub held_by : Option Slip → ℕ
held_by None = 0
held_by (Some s) = 1

abbrev pub held : List (Option Slip) → ℕ
held l = sum_by held_by l

abbrev pub trial_numbers : List Trial → List ℕ
trial_numbers l = map (λ t. t.state.number) l

-- each slip has the number at its place
abbrev pub Own : List (Option Slip) → List ℕ → Type 0
Own slips numbers = (k : ℕ) (s : Slip) → slice_index_or slips k None ≡ Some s → s.number ≡ slice_index numbers k

-- an opening counts one more slip out, which has the number of its trial
abbrev pub OpensOne : Result Opened Refusal → ℕ → ℕ → Type 0
OpensOne (Ok o) before after = (after ≡ before + 1) × (o.slip.number ≡ o.trial.state.number)
OpensOne (Err e) before after = after ≡ before

use Rattle.std.proofs.Common.{◌≡◌, ◌-◌, None, vec_items}
use Rattle.trialfile.specs.Reading.{each}
use Rattle.trialfile.specs.Sections.{listed}
use Rattle.trialfile.proofs.Each.{after_these}
use Rattle.trialfile.proofs.reading.lists.numbers.Given as goal

abbrev pub invariant-loop-read : goal.invariant-loop-read
invariant-loop-read l = each l.count (listed l.kind l.limit) None l.initial.tokens ≡ after_these (vec_items l.numbers) (each (l.count - l._read) (listed l.kind l.limit) l.last l.tokens)

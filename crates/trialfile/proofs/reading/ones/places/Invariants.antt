use Rattle.std.proofs.Common.{◌≡◌, ◌-◌, None, vec_items}
use Rattle.trialfile.specs.Reading.{each}
use Rattle.trialfile.specs.Sections.{place}
use Rattle.trialfile.proofs.Each.{after_these}
use Rattle.trialfile.proofs.reading.ones.places.Given as goal

abbrev pub invariant-loop-read : goal.invariant-loop-read
invariant-loop-read l = each l.count (place l.sizes.rows l.sizes.columns) None l.initial.tokens ≡ after_these (vec_items l.places) (each (l.count - l._read) (place l.sizes.rows l.sizes.columns) l.last l.tokens)

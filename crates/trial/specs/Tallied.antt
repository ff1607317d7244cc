-- A tally as the rules have it, and what is true of every tally.
use Rattle.std.specs.Prelude.{◌≡◌, ◌+◌, ◌≤◌, List, length}
use Rattle.rules.specs.Books.{new_books, Event, kept}
use Rattle.rules.specs.Tallies as rules
use Rattle.trial.specs.declared.tally.Counts.{Counts}

abbrev pub counts_of : Counts → rules.Tally
counts_of c = record { opened = c.opened; solved = c.solved; nothing = c.nothing; unfinished = c.unfinished }

-- a tally as its callers see it: its counts, of which at most 1,000,000 were opened, and no more were closed
pub record Tallied : Type 0 where
  pub counts : rules.Tally
  pub few : counts.opened ≤ 1000000
  pub balanced : rules.closings counts ≤ counts.opened

-- whatever openings and closes led from a new tally to this one: what was opened is what was closed and the slips that are out
abbrev pub Balances : rules.Tally → Type 0
Balances t = (events : List Event) → (kept events new_books).tally ≡ t → t.opened ≡ rules.closings t + length (kept events new_books).out

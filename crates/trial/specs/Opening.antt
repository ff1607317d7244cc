-- What an opening answers, as the rules have it.
use Rattle.std.specs.Prelude.{◌≡◌, ℕ, List, Ok, Err, Result}
use Rattle.terms.specs.declared.refusal.Refusal.{Refusal}
use Rattle.terms.specs.declared.refusal.Refusal.TheVariants.{NoMemory}
use Rattle.rules.specs.Reports.{report}
use Rattle.rules.specs.States.{opening}
use Rattle.rules.specs.Tallies as rules
use Rattle.table.specs.OfTable.{meaning_of}
use Rattle.table.specs.declared.Table.{Table}
use Rattle.trial.specs.Standing.{Standing}
use Rattle.trial.specs.declared.trial.opening.Opened.{Opened}

abbrev pub opened_of : Opened → rules.Opened
opened_of o = record { trial = o.trial.state; slip = o.slip.number }

-- the answer and the later tally are the rule's, `told` and `later`; or memory was wanting where the rule opens a trial, and then the tally stays as it was
abbrev pub OpensAs : Result Opened Refusal → rules.Tally → rules.Tally → Result rules.Opened Refusal → rules.Tally → Type 0
OpensAs (Ok o) before after told later = (Ok (opened_of o) ≡ told) × (after ≡ later)
OpensAs (Err e) before after (Err f) later = (e ≡ f) × (after ≡ later)
OpensAs (Err e) before after (Ok o) later = (e ≡ NoMemory) × (after ≡ before)

abbrev pub Opens : Result Opened Refusal → rules.Tally → rules.Tally → Result rules.Opened Refusal × rules.Tally → Type 0
Opens r before after rule = OpensAs r before after rule.0 rule.1

-- the trial that is opened is on the table
abbrev pub OpenedOn : Table → Result Opened Refusal → Type 0
OpenedOn t (Ok o) = o.trial.table ≡ t
OpenedOn t (Err e) = Unit {0}

-- a trial as it is begun on a table, with its number
pub record BegunOn (t : Table) (lost odds : List ℕ) (number : ℕ) (b : Standing) : Type 0 where
  pub on_table : b.table ≡ t
  pub begins : b.state ≡ opening (meaning_of t) (report (meaning_of t) lost odds) number

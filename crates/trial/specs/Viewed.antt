-- What is seen of a trial, as the rules have it.
use Rattle.rules.specs.States.{State}
use Rattle.trial.specs.Standing.{state_of, shelf_of}
use Rattle.trial.specs.declared.trial.viewing.View.{View}

abbrev pub viewed : View → State
viewed v = state_of v.status.now v.flipped.now v.closed.now v.odd.now (shelf_of v.shelf.now) v.void v.number v.peeled v.pruned v.chosen

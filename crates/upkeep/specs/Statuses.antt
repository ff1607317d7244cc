-- The sets that the statuses of the qubits make.
use Rattle.std.specs.Prelude.{Bool, true, false, List, map}
use Rattle.rules.specs.declared.answers.Status.{Status}
use Rattle.rules.specs.declared.answers.Status.TheVariants.{Erased, Shelved, Done}

abbrev pub is_erased : Status → Bool
is_erased Erased = true
is_erased Shelved = false
is_erased Done = false

abbrev pub is_shelved : Status → Bool
is_shelved Erased = false
is_shelved Shelved = true
is_shelved Done = false

abbrev pub erased_of : List Status → List Bool
erased_of l = map is_erased l

abbrev pub shelved_of : List Status → List Bool
shelved_of l = map is_shelved l

use mathlib.Core.Path.{refl}
use Rattle.linear.proofs.three_values_are_a_field_too.Goals as goal

pub returns : goal.returns
returns c = refl

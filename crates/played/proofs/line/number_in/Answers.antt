use Rattle.std.proofs.Common.{refl, arith}
use Rattle.std.specs.Str.Parse.{without_leading_plus}
use Rattle.played.proofs.Words.{number_written, none_written}
use Rattle.played.proofs.line.number_in.Goals as goal

pub returns-in-Ok : goal.returns-in-Ok
returns-in-Ok c =
    let (is, value) = c.in-Ok.ensures.value.0 in
    let written = number_written c.args.largest (without_leading_plus c.args.token.now) is.0 (rw (← value) c.if-number-largest.true) in
    rw (written, value) refl

pub returns-in_default-2 : goal.returns-in_default-2
returns-in_default-2 c =
    let none = none_written c.args.largest (without_leading_plus c.args.token.now) (λ is. c.in_default.ensures.value.0 (is.0, omega (arith, is.1, c.ranges.largest.fits))) in
    rw none refl

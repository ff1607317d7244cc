-- The table is made of what the code told, so that it holds the code.
use Rattle.table.specs.OfTable.{meaning_of, told_of}
use Rattle.table.proofs.Held.{code_is, told_is, held_sound, held_tells, check_columns, generator_columns}
use Rattle.table.proofs.Table.of.Goals as goal

pub invariant_of-result : goal.invariant_of-result
invariant_of-result g c =
    let M = g.C.Code.meaning c.args.code.now in
    let told = g.C.Code.told c.args.code.now in
    let s = g.C.Code.sound c.args.code.now in
    let t = g.C.Code.tells c.args.code.now in
    let checks = c.in_ok-checks.ensures in
    let generators = c.in_ok-generators.ensures in
    let sides = c.in_ok-sides.ensures in
    record {
      sound = ∣ held_sound M told s t _ _ _ checks.0 generators.0 sides ∣₁;
      tells = ∣ held_tells M told s t _ _ _ checks.0 generators.0 sides ∣₁;
      check_columns = check_columns M told s t _ _ _ checks.0 generators.0 sides _ checks.1;
      generator_columns = generator_columns M told s t _ _ _ checks.0 generators.0 sides _ generators.1;
    }

pub returns : goal.returns
unfolding meaning_of told_of
returns g c =
    let M = g.C.Code.meaning c.args.code.now in
    let told = g.C.Code.told c.args.code.now in
    let s = g.C.Code.sound c.args.code.now in
    let t = g.C.Code.tells c.args.code.now in
    let checks = c.in_ok-checks.ensures.0 in
    let generators = c.in_ok-generators.ensures.0 in
    let sides = c.in_ok-sides.ensures in
    (code_is M told s t _ _ _ checks generators sides, told_is M told s t _ _ _ checks generators sides)

use Rattle.std.proofs.Common.{[], length, take, ap, arith}
use Rattle.std.proofs.lemmas.List.{length-take-le}
use Rattle.shelf.specs.Shelving.{Shelving}
use Rattle.shelf.proofs.Stacks.{length_on}
use Rattle.shelf.proofs.Shelf.len.Goals as goal

pub returns : goal.returns
returns c =
    let s = c.self.inside in
    omega (arith, length-take-le s.height s.records.items c.self.invariant.records_held, length_on [] (take s.height s.records.items) (take s.filled s.members.items), ap (λ (v : Shelving). length v.entries) c.self.view_is)

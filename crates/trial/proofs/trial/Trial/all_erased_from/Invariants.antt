use Rattle.std.proofs.Common.{◌≡◌, length, drop}
use Rattle.std.specs.List.{find}
use Rattle.rules.specs.Run.{all_erased}
use Rattle.table.specs.OfTable.{meaning_of}
use Rattle.upkeep.specs.Rows.{all_in}
use Rattle.running.specs.Finding.{numbers_from}
use Rattle.trial.proofs.trial.Trial.all_erased_from.Given as goal

-- the qubits looked at are erased
abbrev pub invariant-loop-q : goal.invariant-loop-q
invariant-loop-q l = all_in l.self.state.erased (drop l.q-index l.row) ≡ all_in l.self.state.erased l.row

-- none of the generators looked at is wanted
abbrev pub invariant-generators : goal.invariant-generators
invariant-generators l =
    let p = all_erased (meaning_of l.self.table) l.self.state in
    let n = length (meaning_of l.self.table).generators in
    find p (numbers_from l.g n) ≡ find p (numbers_from l.generator n)

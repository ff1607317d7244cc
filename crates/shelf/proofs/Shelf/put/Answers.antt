use Rattle.std.proofs.Common.{◌≡◌, ℕ, ◌+◌, ◌<◌, ◌≤◌, true, false, ltb, is_ok, List, [], ◌∷◌, ◌++◌, length, take, sym, refl, ap, ◌∙◌, rules, arith}
use Rattle.std.proofs.lemmas.Bool.{ltb-true, ltb-false}
use Rattle.std.proofs.lemmas.List.{with_items_is}
use Rattle.std.proofs.Math.Seq.{take-length}
use Rattle.std.specs.Vec.{with_items}
use Rattle.shelf.specs.Shelving.{Shelving, with_entry}
use Rattle.shelf.specs.Stacked.{seen}
use Rattle.shelf.specs.declared.Record.{Record}
use Rattle.shelf.proofs.Stacks.{too_many, no_record, room, on_top}
use Rattle.shelf.proofs.Shelf.put.Goals as goal

pub returns-in_err-or-clause-test : goal.returns-in_err-or-clause-test
returns-in_err-or-clause-test c =
    let s = c.self.inside in
    let refused : is_ok c.from_residual.result ≡ false = search rules in
    let test : ltb c.loop-q.filled (length c.deref_mut.result.now) ≡ false = search rules in
    let past : length s.members.items < s.filled + length c.args.members.now = omega (arith, ltb-false c.loop-q.filled (length c.deref_mut.result.now) test, ap (length {A = ℕ}) c.deref_mut.ensures.value) in
    rw (← c.self.view_is) (refused ∙ sym (too_many s.records.items s.height s.members.items s.filled c.self.invariant c.args.members.now past))

pub returns-in_err-or-2-clause-test : goal.returns-in_err-or-2-clause-test
returns-in_err-or-2-clause-test c =
    let s = c.self.inside in
    let refused : is_ok c.from_residual-in_err-or-2.result ≡ false = search rules in
    let test : ltb c.loop-q.self-inside.height (length c.deref_mut-2.result.now) ≡ false = search rules in
    let past : length s.records.items ≤ s.height = omega (arith, ltb-false c.loop-q.self-inside.height (length c.deref_mut-2.result.now) test, ap (length {A = Record}) (rw c.loop-q.invariant.records at c.deref_mut-2.ensures.value)) in
    rw (← c.self.view_is) (refused ∙ sym (no_record s.records.items s.height s.members.items s.filled c.self.invariant c.args.members.now past))

pub returns-clause-test : goal.returns-clause-test
returns-clause-test c =
    let s = c.self.inside in
    let test : ltb c.loop-q.self-inside.height (length c.deref_mut-2.result.now) ≡ true = search rules in
    let place : s.height < length s.records.items = omega (arith, ltb-true c.loop-q.self-inside.height (length c.deref_mut-2.result.now) test, ap (length {A = Record}) (rw c.loop-q.invariant.records at c.deref_mut-2.ensures.value)) in
    let places : s.filled + length c.args.members.now ≤ length s.members.items = omega arith in
    rw (← c.self.view_is) (sym (room s.records.items s.height s.members.items s.filled c.self.invariant c.args.members.now place places))

pub returns-clause-entries : goal.returns-clause-entries
returns-clause-entries c =
    let s = c.self.inside in
    let r : Record = record { count = length c.args.members.now; check = c.args.check } in
    let put : is_ok c.push-2.result ≡ true = search rules in
    let same : c.deref_mut-2.result.now ≡ s.records.items = rw c.loop-q.invariant.records at c.deref_mut-2.ensures.value in
    let top : take c.push-2.new.len c.push-2.new.slots ≡ take s.height s.records.items ++ r ∷ [] = rw (put, same, c.loop-q.invariant.height) at c.push-2.ensures.held in
    let all : c.loop-q.q-index ≡ length c.args.members.now = omega arith in
    let held : take c.loop-q.filled c.loop-q.self-inside.members.items ≡ take s.filled s.members.items ++ c.args.members.now = rw (all, take-length) at c.loop-q.invariant.put in
    let long : length c.push-2.new.slots ≡ length s.records.items = omega (arith, ap (length {A = Record}) same) in
    let back : (with_items c.loop-q.self-inside.records c.push-2.new.slots).items ≡ c.push-2.new.slots = with_items_is c.loop-q.self-inside.records c.push-2.new.slots (omega arith) in
    ap (λ (rs : List Record). seen rs c.push-2.new.len c.loop-q.self-inside.members.items c.loop-q.filled) back
    ∙ on_top s.records.items s.height s.members.items s.filled c.self.invariant c.push-2.new.slots c.push-2.new.len c.loop-q.self-inside.members.items c.loop-q.filled r c.args.members.now refl top held c.loop-q.invariant.room long
    ∙ ap (λ (v : Shelving). with_entry v c.args.members.now c.args.check) c.self.view_is

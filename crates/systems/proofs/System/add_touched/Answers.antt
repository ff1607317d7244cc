use Rattle.std.proofs.Common.{◌≡◌, ℕ, ◌<◌, Bool, false, List, length, get_or, take, sym, refl, ap, ◌∙◌, subst, arith}
use lib.ListN.{length-replicate, length-take}
use Rattle.std.proofs.lemmas.List.{get_or-take, get_or_default, take_all, with_items_is}
use Rattle.sets.specs.Lists.{In}
use Rattle.sets.proofs.Bits.{clash}
use Rattle.sets.specs.Sets.{has, join, less, holders}
use Rattle.sets.proofs.Numbers.{element_has}
use Rattle.sets.proofs.Sets.{has_below, has_empty}
use Rattle.table.specs.OfTable.{meaning_of}
use Rattle.systems.specs.Stated.{Stated, unknowns_of}
use Rattle.systems.specs.Told.{holding, AllIn}
use Rattle.systems.proofs.Begun.{still}
use Rattle.systems.proofs.Touched.{with_held, held_none, held_more, held_all}
use Rattle.systems.proofs.System.add_touched.Goals as goal

pub loop-place-init : goal.loop-place-init
loop-place-init c =
    record {
      unknowns = refl;
      added = λ k a e s.
          let M = meaning_of c.args.table.now in
          let none = held_none M.checks a c.args.closed.now (e ∙ sym s.among_range) (sym s.among_range) (length k) in
          rw none (
            still c.args.self.now _ M k a c.args.odd.now s refl s.held,
            λ d t. absurd (clash t
                (ap (λ m. has m d) (with_items_is c.args.self.now.met c.clear.new.row (ap length c.clear.ensures ∙ length-replicate (length c.as_mut_slice.result.now) false ∙ c.as_mut_slice.ensures.len) ∙ c.clear.ensures)
                ∙ has_empty (length c.as_mut_slice.result.now) d)),
          );
    }

pub loop-place-preserved : goal.loop-place-preserved
loop-place-preserved c =
    record {
      unknowns = c.add_at.ensures.unknowns ∙ c.loop-place.invariant.unknowns;
      added = λ k a e s.
          let M = meaning_of c.args.table.now in
          let us = unknowns_of c.args.self.now in
          let i : ℕ = c.loop-place.place in
          let before = c.loop-place.invariant.added k a e s in
          let inside : i < length us = omega (arith, c.loop-place-test.true, length-take c.args.self.now.count c.args.self.now.unknowns.items, c.args.self.now.few, c.args.self.now.room, c.args.self.now.unknowns.ok.0) in
          let y = c.loop-place.self in
          let inside' : i < length (take y.count y.unknowns.items) = omega (arith, inside, ap length c.loop-place.invariant.unknowns) in
          let low_ : i < y.count = omega (arith, inside', length-take y.count y.unknowns.items) in
          let there : i < length y.unknowns.items = omega (arith, inside', length-take y.count y.unknowns.items) in
          let q : get_or us i 0 ≡ c.index-qubit.result.now =
          ap (λ l. get_or l i 0) (sym c.loop-place.invariant.unknowns) ∙ get_or-take y.count y.unknowns.items i 0 low_ ∙ get_or_default y.unknowns.items i 0 c.index-qubit.result.now there ∙ sym c.index-qubit.ensures in
          let low : (x : ℕ) → In x us → x < length k = λ x m. has_below k x (element_has k x (subst (λ (l : List ℕ). In x l) (sym s.unknowns) m)) in
          let next =
          ap (λ x. join (with_held M.checks a c.args.closed.now (length k) (take i us)) (less (holding M.checks x) c.args.closed.now)) (sym q)
          ∙ held_more M.checks a c.args.closed.now (e ∙ sym s.among_range) (sym s.among_range) (length k) us low i inside in
          let now = c.add_at.ensures.added k (with_held M.checks a c.args.closed.now (length k) (take i us)) e before.1 before.0 in
          (subst (λ (m : List Bool). Stated c.add_at.new.self M k m c.args.odd.now) next now.0, subst (λ (m : List Bool). AllIn c.add_at.new.self.met.items m) next now.1);
    }

pub returns : goal.returns
returns c k a e s =
    let M = meaning_of c.args.table.now in
    let us = unknowns_of c.args.self.now in
    let last = c.loop-place.invariant.added k a e s in
    let whole : with_held M.checks a c.args.closed.now (length k) (take c.loop-place.place us) ≡ join a (less (holders M.checks k) c.args.closed.now) =
    ap (with_held M.checks a c.args.closed.now (length k)) (take_all c.loop-place.place us (omega (arith, c.loop-place-test.false, length-take c.args.self.now.count c.args.self.now.unknowns.items)) ∙ sym s.unknowns) ∙ held_all M.checks a c.args.closed.now (e ∙ sym s.among_range) (sym s.among_range) k in
    subst (λ (m : List Bool). Stated c.loop-place.self M k m c.args.odd.now) whole last.0

use Rattle.std.proofs.Common.{Vec, ◌≡◌, ℕ, ◌-◌, ◌<◌, ◌≤◌, Option, None, true, false, ltb, true≢false, List, [], ◌++◌, length, take, drop, replicate, sym, refl, ap, ap₂, ◌∙◌, subst, arith, lt-ltb}
use Rattle.std.specs.Vec.{with_items}
use Rattle.std.proofs.lemmas.List.{take_at, with_items_is}
use Rattle.terms.specs.Answering.{Answers}
use Rattle.sets.specs.Sets.{size}
use Rattle.sets.proofs.Numbers.{length_elements}
use Rattle.upkeep.specs.Changed.{changed}
use Rattle.upkeep.proofs.Changed.{length_changed}
use Rattle.rules.specs.Reports.{rises}
use Rattle.linear.specs.Field.{bits}
use Rattle.elimination.specs.Holds.{Holds}
use Rattle.elimination.specs.Calls.{too_many}
use Rattle.elimination.proofs.Lists.{put_back}
use Rattle.systems.proofs.Rising.{rises_elements}
use Rattle.systems.specs.Stated.{unknowns_of}
use Rattle.systems.specs.Places.{Placed}
use Rattle.systems.proofs.Standing.{Nowhere, none_left}
use Rattle.systems.proofs.Begun.{answers_more, begun}
use Rattle.systems.proofs.System.begin.Goals as goal

pub returns-then-not-is_rising-clause-begun : goal.returns-then-not-is_rising-clause-begun
returns-then-not-is_rising-clause-begun c k e = absurd (true≢false (sym (rises_elements k) ∙ ap rises e ∙ sym c.is_rising.ensures ∙ c.if-not-is_rising.true))

pub returns-then-count-gt-MOST-clause-begun : goal.returns-then-count-gt-MOST-clause-begun
returns-then-count-gt-MOST-clause-begun c k e =
    let many : 256 < size k = omega (arith, c.if-count-gt-MOST.true, ap length e, length_elements 0 k) in
    let q : ltb 256 (size k) ≡ true = lt-ltb 256 (size k) many in
    rw q refl

-- what then stands in the vector of the unknowns, and in that of the places
unknowns_are : {Z : Type 0} (v : Vec ℕ Z) (l S D : List ℕ) → length S ≡ length (take (length l - 0) D) → S ≡ l → length D ≡ v.len → length l ≤ v.len
    → take (length l) (with_items v (S ++ drop (length l - 0) D)).items ≡ l
unknowns_are v l S D e is d room =
    let kept = put_back v (length l - 0) D S e d in
    ap (take (length l)) kept ∙ take_at S (drop (length l - 0) D) (length l) (ap length is) ∙ is

module _ {Z : Type 0} (v : Vec (Option ℕ) Z) (l : List ℕ) (p : Placed v.items l) where
  abbrev cleared : List (Option ℕ)
  cleared = changed None (λ _. None) l v.items

  long : length cleared ≡ v.len
  long = length_changed None (λ _. None) l v.items ∙ sym v.ok.0

  -- all were taken out
  none_stand : (list now : List (Option ℕ)) → list ≡ cleared → now ≡ (with_items v list).items → Nowhere now
  none_stand list now e w =
      subst Nowhere (sym (w ∙ with_items_is v list (ap length e ∙ long) ∙ e)) (none_left v.items l p)

  -- and the new ones written
  all_stand : (list now : List (Option ℕ)) → list ≡ cleared → now ≡ (with_items v list).items → (q : List ℕ) (places : List (Option ℕ)) → Placed places q → length places ≡ length now
      → (u : List ℕ) → q ≡ u → Placed (with_items (with_items v list) places).items u
  all_stand list now e w q places stand same u is =
      let as_long : length places ≡ v.len = same ∙ ap length (w ∙ with_items_is v list (ap length e ∙ long)) ∙ ap length e ∙ long in
      subst (Placed (with_items (with_items v list) places).items) is (subst (λ (m : List (Option ℕ)). Placed m q) (sym (with_items_is (with_items v list) places as_long)) stand)

pub place_each-requires-clause-none : goal.place_each-requires-clause-none
place_each-requires-clause-none c =
    let zero : c.args.self.now.count - 0 ≡ c.args.self.now.count = omega arith in
    none_stand c.args.self.now.places (unknowns_of c.args.self.now) c.args.self.now.placed c.take_out.new.list c.as_mut_slice-2.result.now
    (c.take_out.ensures ∙ ap₂ (changed None (λ _. None)) (ap₂ take zero c.deref.ensures.value) c.as_mut_slice.ensures.value) c.as_mut_slice-2.ensures.value

pub invariant_of-self-clause-placed : goal.invariant_of-self-clause-placed
invariant_of-self-clause-placed c =
    let zero : c.args.self.now.count - 0 ≡ c.args.self.now.count = omega arith in
    all_stand c.args.self.now.places (unknowns_of c.args.self.now) c.args.self.now.placed c.take_out.new.list c.as_mut_slice-2.result.now
    (c.take_out.ensures ∙ ap₂ (changed None (λ _. None)) (ap₂ take zero c.deref.ensures.value) c.as_mut_slice.ensures.value) c.as_mut_slice-2.ensures.value
    c.args.qubits.now c.place_each.new.places c.place_each.ensures.placed c.place_each.ensures.same _
    (sym (unknowns_are c.args.self.now.unknowns c.args.qubits.now c.copy_from_slice.new.self c.deref_mut.result.now c.copy_from_slice.ensures.len c.copy_from_slice.ensures.after c.deref_mut.ensures.len
    (omega (arith, c.if-count-gt-MOST.false, c.args.self.now.room))))

pub returns-clause-begun : goal.returns-clause-begun
returns-clause-begun c k e =
    let l = c.args.qubits.now in
    let n : ℕ = length l in
    let D = c.deref_mut.result.now in
    let S = c.copy_from_slice.new.self in
    let lent = unknowns_are c.args.self.now.unknowns l S D c.copy_from_slice.ensures.len c.copy_from_slice.ensures.after c.deref_mut.ensures.len (omega (arith, c.if-count-gt-MOST.false, c.args.self.now.room)) in
    let many : n ≡ size k = ap length (sym e) ∙ length_elements 0 k in
    answers_more c.begin.result _ _ _
    (λ x h M odds o. begun _ M k odds n (e ∙ sym lent) (sym many) o h)
    (subst (λ (m : ℕ). Answers c.begin.result (too_many m) (λ x. Holds bits c.begin.new.self n [] (replicate n false))) many c.begin.ensures.begun)

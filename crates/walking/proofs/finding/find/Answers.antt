use Rattle.std.proofs.Common.{◌≡◌, false, length, vec_items, ap, ◌∙◌, arith}
use Rattle.std.specs.Vec.{with_items}
use Rattle.std.proofs.lemmas.List.{with_items_is}
use Rattle.std.proofs.lemmas.List.Sorted.{IsNonDecreasingBy-from_sort}
use Rattle.sets.specs.Sets.{has}
use Rattle.rules.specs.Clusters.{cluster, connecting, internal}
use Rattle.table.specs.OfTable.{meaning_of}
use Rattle.upkeep.specs.Changed.{changed}
use Rattle.upkeep.specs.Statuses.{erased_of}
use Rattle.upkeep.proofs.Changed.{length_changed}
use Rattle.walking.specs.Found.{listed}
use Rattle.walking.specs.Seen.{seen}
use Rattle.walking.proofs.Cluster.{member_in, in_member, connecting_in, in_connecting, internal_in, in_internal, listed_told, unmarked}
use Rattle.walking.proofs.Sorting.{sorted_elements}
use Rattle.walking.proofs.finding.find.Goals as goal

pub walk-requires-clause-rested : goal.walk-requires-clause-rested
walk-requires-clause-rested c =
    let r = c.requires.rested in
    record {
      pending = r.pending;
      members = omega (arith, r.members, c.clear.ensures.capacity);
      internal = omega (arith, r.internal, c.clear-2.ensures.capacity);
      connecting = omega (arith, r.connecting, c.clear-3.ensures.capacity);
      met = r.met;
      unmet = r.unmet;
      empty = r.empty;
    }

pub walk-requires-clause-bare : goal.walk-requires-clause-bare
walk-requires-clause-bare c = record { members = c.clear.ensures.items; internal = c.clear-2.ensures.items; connecting = c.clear-3.ensures.items }

pub returns-clause-rested : goal.returns-clause-rested
returns-clause-rested c =
    let g = c.walk.new.ground in
    let w = c.walk.ensures.over.walk in
    let r = w.roomy in
    let I = vec_items g.internal in
    let C = vec_items g.connecting in
    let f = changed false (λ _. false) in
    let a = c.unmark.new.marks in
    let b = c.unmark-2.new.marks in
    let first : a ≡ f I (vec_items g.met) = c.unmark.ensures ∙ ap (λ l. f l c.as_mut_slice.result.now) c.deref.ensures.value ∙ ap (f I) c.as_mut_slice.ensures.value in
    let long : length a ≡ g.met.len = omega (arith, ap length first, length_changed false (λ _. false) I (vec_items g.met), g.met.ok.0) in
    let kept : vec_items (with_items g.met a) ≡ a = with_items_is g.met a long in
    let second : b ≡ f C (f I (vec_items g.met)) = c.unmark-2.ensures ∙ ap (λ l. f l c.as_mut_slice-2.result.now) c.deref-2.ensures.value ∙ ap (f C) (c.as_mut_slice-2.ensures.value ∙ kept ∙ first) in
    let long2 : length b ≡ g.met.len = omega (arith, ap length second, length_changed false (λ _. false) C (f I (vec_items g.met)), length_changed false (λ _. false) I (vec_items g.met), g.met.ok.0) in
    let last : vec_items (with_items (with_items g.met a) b) ≡ f C (f I (vec_items g.met)) = with_items_is (with_items g.met a) b long2 ∙ second in
    record {
      pending = r.pending ∙ r.all;
      members = omega (arith, r.members, r.all, c.sort_unstable.ensures.capacity);
      internal = omega (arith, r.internal, c.sort_unstable-2.ensures.capacity);
      connecting = r.connecting;
      met = ap length last ∙ length_changed false (λ _. false) C (f I (vec_items g.met)) ∙ length_changed false (λ _. false) I (vec_items g.met) ∙ r.met;
      unmet = λ d. ap (λ x. has x d) last ∙ unmarked (vec_items g.met) I C w.checks.internal_once w.checks.connecting_once w.checks.listed d;
      empty = c.walk.ensures.over.empty;
    }

pub returns-clause-members : goal.returns-clause-members
returns-clause-members c =
    let v = c.args.scene.now in
    let M = meaning_of v.table.now in
    let s = seen (erased_of v.status.now) v.closed.now in
    let k = c.walk.new.marks in
    let g = c.walk.new.ground in
    let o = c.walk.ensures.over in
    let did = c.sort_unstable.ensures in
    let l = vec_items c.sort_unstable.new.self in
    sorted_elements (cluster M s v.start) (vec_items g.members) l did.permutation (IsNonDecreasingBy-from_sort (λ x. x) l did.sorted) o.walk.qubits.members_once
    (member_in v k g o)
    (in_member v k g o)

pub returns-clause-internal : goal.returns-clause-internal
returns-clause-internal c =
    let v = c.args.scene.now in
    let M = meaning_of v.table.now in
    let s = seen (erased_of v.status.now) v.closed.now in
    let k = c.walk.new.marks in
    let g = c.walk.new.ground in
    let o = c.walk.ensures.over in
    let did = c.sort_unstable-2.ensures in
    let l = vec_items c.sort_unstable-2.new.self in
    sorted_elements (internal M s v.start (cluster M s v.start)) (vec_items g.internal) l did.permutation (IsNonDecreasingBy-from_sort (λ x. x) l did.sorted) o.walk.checks.internal_once
    (internal_in v k g o)
    (in_internal v k g o)

pub returns-clause-connecting : goal.returns-clause-connecting
returns-clause-connecting c =
    let v = c.args.scene.now in
    let M = meaning_of v.table.now in
    let s = seen (erased_of v.status.now) v.closed.now in
    let k = c.walk.new.marks in
    let g = c.walk.new.ground in
    let o = c.walk.ensures.over in
    c.tell.ensures
    ∙ ap listed c.deref-3.ensures.value
    ∙ listed_told (connecting M s v.start (cluster M s v.start)) (vec_items g.connecting) o.walk.checks.connecting_once
    (connecting_in v k g o)
    (in_connecting v k g o)

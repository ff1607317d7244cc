use Rattle.std.proofs.Common.{◌≡◌, ℕ, ◌+◌, ◌<◌, Bool, true, false, ◌||◌, eqb, List, length, get_or, set, take, sym, refl, ap, ◌∙◌, subst, inl, inr, ◌⊎◌, arith, eqb-true, length-set, get_or-set_same, get_or-set_other}
use lib.ListN.{length-map}
use borrow.Author.Tests.{eqb-false}
use Rattle.std.proofs.lemmas.List.{take_all, with_items_is}
use Rattle.sets.specs.Lists.{In}
use Rattle.sets.specs.Sets.{has, join, less, elements}
use Rattle.sets.proofs.Bits.{clash}
use Rattle.sets.proofs.Lists.{in_get_or}
use Rattle.sets.proofs.Numbers.{element_has}
use Rattle.sets.proofs.Sets.{has_below}
use Rattle.table.specs.OfTable.{meaning_of}
use Rattle.systems.specs.declared.System.{System}
use Rattle.systems.specs.Stated.{Stated, unknowns_of}
use Rattle.systems.specs.Told.{holding, AllIn}
use Rattle.systems.proofs.Begun.{still}
use Rattle.systems.proofs.Touched.{with_open, open_none, open_skip, open_add, open_all, long_open}
use Rattle.systems.proofs.System.add_at.Goals as goal
use Rattle.systems.proofs.System.add_at.Goals.{then-is_marked, else-is_marked, then-not-passed_over, else-not-passed_over}

-- the numbers of the checks that hold a qubit are below the number of checks
lower : (sets : List (List Bool)) (q n : ℕ) (l : List ℕ) → l ≡ elements (holding sets q) → n ≡ length sets → (c : ℕ) → In c l → c < n
lower sets q n l e m c i =
    let at : In c (elements (holding sets q)) = subst (λ (t : List ℕ). In c t) e i in
    omega (arith, has_below (holding sets q) c (element_has (holding sets q) c at), length-map sets (λ s. has s q), m)

-- what was met, and the check that is met now, is all added
met_all : (m a : List Bool) (c : ℕ) → AllIn m a → c < length a → AllIn (set m c true) (set a c true)
met_all m a c all low d t = go (eqb d c) refl
  where
    go : (b : Bool) → eqb d c ≡ b → has (set a c true) d ≡ true
    go true e = ap (has (set a c true)) (eqb-true d c e) ∙ get_or-set_same a c true false low
    go false e = get_or-set_other a c d true false (eqb-false d c e) ∙ all d (sym (get_or-set_other m c d true false (eqb-false d c e)) ∙ t)

either : (a b : Bool) → (a || b) ≡ true → (a ≡ true) ⊎ (b ≡ true)
either true b t = inl refl
either false b t = inr t

neither : (a b : Bool) → (a || b) ≡ false → (a ≡ false) × (b ≡ false)
neither true b t = absurd (clash refl t)
neither false b t = (refl, t)

pub loop-check-init : goal.loop-check-init
loop-check-init c =
    record {
      unknowns = refl;
      added = λ k a e all s.
          let M = meaning_of c.args.table.now in
          let long : length c.args.closed.now ≡ length a = e ∙ sym s.among_range in
          let none = open_none a c.args.closed.now long c.checks_at-check-items.result.now (lower M.checks c.args.qubit (length a) _ c.checks_at-check-items.ensures s.among_range) in (
            subst (λ (m : List Bool). Stated c.args.self.now M k m c.args.odd.now) (sym none) s,
            subst (λ (m : List Bool). AllIn c.args.self.now.met.items m) (sym none) all,
          );
    }

pub loop-check-preserved : goal.loop-check-preserved
loop-check-preserved c =
    let M = meaning_of c.args.table.now in
    let cs = c.checks_at-check-items.result.now in
    let j : ℕ = c.loop-check.check-index in
    let d : ℕ = get_or cs j 0 in
    let y = c.loop-check.self in
    let passed : c.if-is_marked.passed_over ≡ (has c.args.closed.now d || has y.met.items d) =
    elim c.if-is_marked.branch [
      | then-is_marked w ↦ w.passed_over-is ∙ w.if-is_marked.true ∙ ap (λ b. b || has y.met.items d) (sym w.if-is_marked.true ∙ c.is_marked.ensures)
      | else-is_marked w ↦
          w.passed_over-is ∙ w.is_marked-passed_over.ensures ∙ ap (λ m. has m d) w.as_slice.ensures.value
          ∙ ap (λ b. b || has y.met.items d) (sym w.if-is_marked.false ∙ c.is_marked.ensures)
    ] in
    elim c.if-not-passed_over.branch [
      | then-not-passed_over w ↦
          let no = neither (has c.args.closed.now d) (has y.met.items d) (sym passed ∙ w.if-not-passed_over.true) in
          record {
            unknowns = ap unknowns_of w.self-is ∙ w.state.ensures.unknowns ∙ c.loop-check.invariant.unknowns;
            added = λ k a e all s.
                let long : length c.args.closed.now ≡ length a = e ∙ sym s.among_range in
                let low = lower M.checks c.args.qubit (length a) _ c.checks_at-check-items.ensures s.among_range in
                let before = c.loop-check.invariant.added k a e all s in
                let A : List Bool = with_open a c.args.closed.now (take j cs) in
                let next = open_add a c.args.closed.now long cs low j c.loop-check-test.true no.0 in
                let now : Stated w.state.new.self M k (set A d true) c.args.odd.now = w.state.ensures.stated k A c.args.odd.now w.is_marked-then-not-passed_over.ensures before.0 in (
                  subst (λ (m : List Bool). Stated c.if-not-passed_over.self M k m c.args.odd.now) next
                      (subst (λ (t : System). Stated t M k (set A d true) c.args.odd.now) (sym w.self-is) (still w.state.new.self _ M k (set A d true) c.args.odd.now now refl now.held)),
                  subst (λ (t : System). AllIn t.met.items (with_open a c.args.closed.now (take (j + 1) cs))) (sym w.self-is)
                      (subst (λ (m : List Bool). AllIn m (with_open a c.args.closed.now (take (j + 1) cs))) (sym (with_items_is w.state.new.self.met w.mark.new.marks (ap length w.mark.ensures ∙ length-set w.as_mut_slice.result.now d true ∙ w.as_mut_slice.ensures.len) ∙ w.mark.ensures ∙ ap (λ m. set m d true) (w.as_mut_slice.ensures.value ∙ w.state.ensures.met)))
                      (subst (λ (m : List Bool). AllIn (set y.met.items d true) m) next (met_all y.met.items A d before.1 (omega (arith, low d (in_get_or cs j 0 c.loop-check-test.true), long_open a c.args.closed.now long cs low (take j cs)))))),
                );
          }
      | else-not-passed_over w ↦
          let yes = either (has c.args.closed.now d) (has y.met.items d) (sym passed ∙ w.if-not-passed_over.false) in
          record {
            unknowns = ap unknowns_of w.self-is ∙ c.loop-check.invariant.unknowns;
            added = λ k a e all s.
                let long : length c.args.closed.now ≡ length a = e ∙ sym s.among_range in
                let low = lower M.checks c.args.qubit (length a) _ c.checks_at-check-items.ensures s.among_range in
                let before = c.loop-check.invariant.added k a e all s in
                let next = open_skip a c.args.closed.now long cs low j c.loop-check-test.true (elim yes [ inl shut ↦ inl shut | inr met ↦ inr (before.1 d met) ]) in (
                  subst (λ (t : System). Stated t M k (with_open a c.args.closed.now (take (j + 1) cs)) c.args.odd.now) (sym w.self-is)
                      (subst (λ (m : List Bool). Stated y M k m c.args.odd.now) next before.0),
                  subst (λ (t : System). AllIn t.met.items (with_open a c.args.closed.now (take (j + 1) cs))) (sym w.self-is)
                      (subst (λ (m : List Bool). AllIn y.met.items m) next before.1),
                );
          }
    ]

pub returns-clause-added : goal.returns-clause-added
returns-clause-added c k a e all s =
    let M = meaning_of c.args.table.now in
    let cs = c.checks_at-check-items.result.now in
    let last = c.loop-check.invariant.added k a e all s in
    let whole : with_open a c.args.closed.now (take c.loop-check.check-index cs) ≡ join a (less (holding M.checks c.args.qubit) c.args.closed.now) =
    ap (with_open a c.args.closed.now) (take_all c.loop-check.check-index cs c.loop-check-test.false ∙ c.checks_at-check-items.ensures) ∙ open_all a c.args.closed.now M.checks c.args.qubit (sym s.among_range) in
    (subst (λ (m : List Bool). Stated c.loop-check.self M k m c.args.odd.now) whole last.0, subst (λ (m : List Bool). AllIn c.loop-check.self.met.items m) whole last.1)

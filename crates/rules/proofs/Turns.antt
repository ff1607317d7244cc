-- A run goes on until nothing more can be done.
use Rattle.std.proofs.Common.{◌≡◌, ℕ, zero, suc, ◌≤◌, Bool, true, false, not, eqb, ◌⊎◌, List, [], ◌∷◌, length, Ok, Result, sym, refl, ap, ◌∙◌, subst, inl, inr, arith, ne_eqb}
use Rattle.std.proofs.lemmas.Bool.{cases_Bool, false_from_ne_true, and_parts}
use mathlib.Core.Option.{Option, none, some}
use Rattle.terms.specs.declared.refusal.Refusal.{Refusal}
use Rattle.terms.specs.declared.refusal.Refusal.TheVariants.{StillErased, ShelfEmpty}
use Rattle.sets.specs.Lists.{In}
use Rattle.sets.specs.Sets.{has, less, any, size}
use Rattle.sets.proofs.Bits.{clash}
use Rattle.sets.proofs.Sets.{has_less, any_none, any_some}
use Rattle.sets.proofs.Numbers.{eqb_same}
use Rattle.meaning.specs.Meaning.{Meaning, Sound, qubits}
use Rattle.rules.specs.declared.answers.Ending.{Ending}
use Rattle.rules.specs.Reports.{Report, For}
use Rattle.rules.specs.States.{Entry, State, opening, reopen}
use Rattle.rules.specs.Refusing.{bar, is_void, wrong_slip}
use Rattle.rules.specs.Calls.{settle_bars, settle_found, settle_newest, settle}
use Rattle.rules.specs.CallLists.{Call, call, after}
use Rattle.rules.specs.Moves.{settle_from}
use Rattle.rules.specs.Run.{next, turns, settles, ran, ending, run_bars, run}
use Rattle.rules.specs.Companions.{CanSettle, Settles, RunsOut, RunEnds}
use Rattle.rules.proofs.Bars.{Clear, passed, accepted, allowed, stopped}
use Rattle.rules.proofs.Calls.{call_move, settle_move}
use Rattle.rules.proofs.Openings.{always}
use Rattle.rules.proofs.Shelf.{Inv}
use Rattle.rules.proofs.Settle.{settle_some}
use Rattle.rules.proofs.Law.{Truth, live, move_truth, after_truth}
use Rattle.sets.proofs.Sizes.{size_length, size_zero}
use Rattle.rules.proofs.Fewer.{Clean, next_fewer}

some_entry : (l : List Entry) (e : Entry) (m : List Entry) → l ≡ e ∷ m → eqb (length l) 0 ≡ false
some_entry l e m q = ne_eqb (length l) 0 (λ z. omega (arith, ap length q))

module _ (M : Meaning) (sound : Sound M) (R : Report) (for : For M R) where
  -- Settle: no bar holds
  clear : (s : State) → s.void ≡ false → any s.erased ≡ false → (e : Entry) (l : List Entry) → s.shelf ≡ e ∷ l → Clear (settle_bars s s.number)
  clear s v off e l newest = (v, (off, (some_entry s.shelf e l newest, (ap not (eqb_same s.number), tt))))

  settled : (s : State) → Inv M sound R for s → s.void ≡ false → any s.erased ≡ false → (e : Entry) (l : List Entry) → s.shelf ≡ e ∷ l
      → ((z : List Bool) × In z (settle_from M s e l)) × ((settle M s s.number).0 ≡ Ok tt)
  settled s h v off e l newest = (
    settle_some M sound R for s h off e l newest,
    ap (λ (r : Result (Unit {0}) Refusal × State). r.0) (passed (settle_bars s s.number) s (settle_newest M s s.shelf) (clear s v off e l newest))
        ∙ ap (λ x. (settle_newest M s x).0) newest
        ∙ go (settle_from M s e l) (settle_some M sound R for s h off e l newest).1,
  )
    where
      go : (found : List (List Bool)) → In (settle_some M sound R for s h off e l newest).0 found → (settle_found M s (reopen e.check l s) e.members found).0 ≡ Ok tt
      go [] m = absurd m
      go (z ∷ found) m = refl

  settled_one : (s : State) → Inv M sound R for s → s.void ≡ false → any s.erased ≡ false → (e : Entry) (l : List Entry) → s.shelf ≡ e ∷ l
      → let t : State = (settle M s s.number).1 in (t.void ≡ false) × (any t.erased ≡ false) × (t.shelf ≡ l)
  settled_one s h v off e l newest =
      allowed (settle_bars s s.number) s (settle_newest M s s.shelf) (λ t. (t.void ≡ false) × (any t.erased ≡ false) × (t.shelf ≡ l)) (clear s v off e l newest)
      (subst (λ x. let t : State = (settle_newest M s x).1 in (t.void ≡ false) × (any t.erased ≡ false) × (t.shelf ≡ l)) (sym newest) (go (settle_from M s e l) (settle_some M sound R for s h off e l newest).1))
    where
      none_less : any (less s.erased e.members) ≡ false
      none_less = false_from_ne_true (any (less s.erased e.members)) (λ x. let i = any_some (less s.erased e.members) x in
          clash (and_parts (has s.erased i.0) (not (has e.members i.0)) (sym (has_less s.erased e.members i.0) ∙ i.1)).0 (any_none s.erased off i.0))

      go : (found : List (List Bool)) → In (settle_some M sound R for s h off e l newest).0 found
          → let t : State = (settle_found M s (reopen e.check l s) e.members found).1 in (t.void ≡ false) × (any t.erased ≡ false) × (t.shelf ≡ l)
      go [] m = absurd m
      go (z ∷ found) m = (v, none_less, refl)

  -- a settle that is refused changes nothing
  abbrev Refused : State → Type 0
  Refused s = (s.void ≡ true) ⊎ ((s.void ≡ false) × (any s.erased ≡ true))

  refused_settle : (s : State) → Refused s → (settle M s s.number).1 ≡ s
  refused_settle s (inl v) =
      ap (λ (r : Result (Unit {0}) Refusal × State). r.1) (stopped [] (is_void s) (bar (any s.erased) StillErased ∷ bar (eqb (length s.shelf) 0) ShelfEmpty ∷ wrong_slip s s.number ∷ []) s (settle_newest M s s.shelf) tt v)
  refused_settle s (inr x) =
      ap (λ (r : Result (Unit {0}) Refusal × State). r.1) (stopped (is_void s ∷ []) (bar (any s.erased) StillErased) (bar (eqb (length s.shelf) 0) ShelfEmpty ∷ wrong_slip s s.number ∷ []) s (settle_newest M s s.shelf) (x.0, tt) x.1)

  refused_settles : (n : ℕ) (s : State) → Refused s → settles M n s ≡ s
  refused_settles zero s h = refl
  refused_settles (suc n) s h = ap (settles M n) (refused_settle s h) ∙ refused_settles n s h

  record Empty (s : State) : Type 0 where
    alive : s.void ≡ false
    none_erased : any s.erased ≡ false
    no_shelf : s.shelf ≡ []

  settles_end : (n : ℕ) (s : State) → Truth M sound R for s → s.void ≡ false → any s.erased ≡ false → (l : List Entry) → s.shelf ≡ l → length l ≡ n → Truth M sound R for (settles M n s) × Empty (settles M n s)
  settles_end zero s h v off [] e k = (h, record { alive = v; none_erased = off; no_shelf = e })
  settles_end zero s h v off (x ∷ l) e k = absurd (omega arith)
  settles_end (suc n) s h v off [] e k = absurd (omega arith)
  settles_end (suc n) s h v off (x ∷ l) e k =
      let r = settled_one s (live M sound R for s v h) v off x l e in
      settles_end n (settle M s s.number).1 (move_truth M sound R for s (settle M s s.number).1 (settle_move M s s.number) h) r.0 r.1 l r.2 (omega arith)

  module _ (w : ℕ) (scratch : List ℕ) (clean : Clean M scratch) where
    abbrev Stuck : State → Type 0
    Stuck t = (t.void ≡ true) ⊎ (next M w scratch t ≡ none)

    idle : (s : State) → Truth M sound R for s → s.void ≡ false → size s.erased ≤ 0 → next M w scratch s ≡ none
    idle s h v e = go (next M w scratch s) refl
      where
        go : (o : Option Call) → next M w scratch s ≡ o → o ≡ none
        go none q = refl
        go (some c) q = elim (next_fewer M s v w scratch clean c (live M sound R for s v h).erased_long q) [ inl x ↦ absurd (omega (arith, x.1)) | inr x ↦ absurd (omega arith) ]

    turns_end : (n : ℕ) (s : State) → Truth M sound R for s → (s.void ≡ false → size s.erased ≤ n) → Truth M sound R for (turns M w scratch n s) × Stuck (turns M w scratch n s)
    turns_end zero s h e = (h, elim (cases_Bool s.void) [ inl v ↦ inl v | inr v ↦ inr (idle s h v (e v)) ])
    turns_end (suc n) s h e = go s.void refl (next M w scratch s) refl (λ c f. turns_end n (call M s c) (move_truth M sound R for s (call M s c) (call_move M s c) h) f)
      where
        go : (b : Bool) → s.void ≡ b → (o : Option Call) → next M w scratch s ≡ o
            → ((c : Call) → ((call M s c).void ≡ false → size (call M s c).erased ≤ n) → Truth M sound R for (turns M w scratch n (call M s c)) × Stuck (turns M w scratch n (call M s c)))
            → let t : State = elim b [ true ↦ s | false ↦ elim o [ none ↦ s | some c ↦ turns M w scratch n (call M s c) ] ] in Truth M sound R for t × Stuck t
        go true v o q ih = (h, inl v)
        go false v none q ih = (h, inr q)
        go false v (some c) q ih = ih c (λ v'. elim (next_fewer M s v w scratch clean c (live M sound R for s v h).erased_long q) [ inl x ↦ absurd (clash x.0 v') | inr x ↦ let k : size s.erased ≤ suc n = e v in omega arith ])

    -- void, or nothing more can be done
    abbrev pub Ended : State → Type 0
    Ended t = (t.void ≡ true) ⊎ ((next M w scratch t ≡ none) × (any t.erased ≡ false → t.shelf ≡ []))

    settled_end : (t : State) → Truth M sound R for t → Stuck t → Truth M sound R for (settles M (length t.shelf) t) × Ended (settles M (length t.shelf) t)
    settled_end t g x = cases (cases_Bool t.void) (cases_Bool (any t.erased)) x
      where
        same : Refused t → settles M (length t.shelf) t ≡ t
        same = refused_settles (length t.shelf) t

        cases : (t.void ≡ true) ⊎ (t.void ≡ false) → (any t.erased ≡ true) ⊎ (any t.erased ≡ false) → Stuck t → Truth M sound R for (settles M (length t.shelf) t) × Ended (settles M (length t.shelf) t)
        cases (inl v) y x = (subst (Truth M sound R for) (sym (same (inl v))) g, inl (ap (λ (u : State). u.void) (same (inl v)) ∙ v))
        cases (inr v) y (inl v') = absurd (clash v' v)
        cases (inr v) (inl y) (inr n) =
            let e = same (inr (v, y)) in
            (subst (Truth M sound R for) (sym e) g, inr (ap (next M w scratch) e ∙ n, λ z. absurd (clash (ap (λ (u : State). any u.erased) e ∙ y) z)))
        cases (inr v) (inr y) (inr n) =
            let r = settles_end (length t.shelf) t g v y t.shelf refl refl in
            (r.0, inr (idle (settles M (length t.shelf) t) r.0 r.1.alive (size_zero (settles M (length t.shelf) t).erased r.1.none_erased), λ z. r.1.no_shelf))

    ran_ends : (s : State) → Truth M sound R for s → Truth M sound R for (ran M w scratch s) × Ended (ran M w scratch s)
    ran_ends s h =
        let a = turns_end (qubits M) s h (λ v. omega (arith, size_length s.erased, (live M sound R for s v h).erased_long)) in
        settled_end (turns M w scratch (qubits M) s) a.0 a.1

  -- an accepted run
  pub run_ends_with : (s : State) → Truth M sound R for s → (slip w : ℕ) (scratch : List ℕ) (e : Ending) → (run M s slip w scratch).0 ≡ Ok e
      → let t : State = (run M s slip w scratch).1 in Truth M sound R for t × ((t.void ≡ true) ⊎ ((next M w scratch t ≡ none) × (any t.erased ≡ false → t.shelf ≡ [])))
  run_ends_with s h slip w scratch e q =
      let c = accepted (run_bars M s slip w scratch) s (Ok (ending (ran M w scratch s)), ran M w scratch s) e q in
      allowed (run_bars M s slip w scratch) s (Ok (ending (ran M w scratch s)), ran M w scratch s) (λ t. Truth M sound R for t × ((t.void ≡ true) ⊎ ((next M w scratch t ≡ none) × (any t.erased ≡ false → t.shelf ≡ [])))) c
      (ran_ends w scratch (c.0, c.1.1.0) s h)

pub settle_done : Settles
settle_done = always CanSettle (λ M sound R for number calls v off e l newest.
    let s : State = after M (opening M R number) calls in
    settled M sound R for s (live M sound R for s v (after_truth M sound R for number calls)) v off e l newest)

pub run_ends : RunEnds
run_ends = always RunsOut (λ M sound R for number calls slip w scratch e q.
    (run_ends_with M sound R for (after M (opening M R number) calls) (after_truth M sound R for number calls) slip w scratch e q).1)

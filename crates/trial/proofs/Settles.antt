-- A settle, by the way it goes.
use Rattle.std.proofs.Common.{◌≡◌, ℕ, suc, ◌+◌, ◌<◌, ◌≤◌, Bool, true, false, not, eqb, List, [], ◌∷◌, length, drop, set, Option, Some, None, Ok, Err, Result, vec_items, sym, refl, ap, ap₂, ◌∙◌, subst, inl, inr, arith, ltb-true, eqb-true, length-set}
use Rattle.std.proofs.lemmas.Bool.{false_from_ne_true}
use Rattle.std.proofs.lemmas.List.{set-get_or}
use Rattle.std.proofs.lemmas.List.Sums.{sum_by-cons}
use Rattle.std.specs.Prelude.{slice_get, vec_capacity}
use Rattle.terms.specs.Answering.{Answers}
use Rattle.terms.specs.declared.refusal.Refusal.{Refusal}
use Rattle.terms.specs.declared.refusal.Refusal.TheVariants.{NoSolution, StillErased, ShelfEmpty, WrongSlip}
use Rattle.sets.specs.Lists.{In}
use Rattle.sets.specs.Sets.{has, any, size, elements, less, holders}
use Rattle.sets.proofs.Marks.{length_marks}
use Rattle.meaning.specs.Meaning.{Meaning, qubits}
use Rattle.rules.specs.States.{Entry, State, reopen}
use Rattle.rules.specs.Systems.{solutions}
use Rattle.elimination.specs.Calls.{too_many}
use Rattle.systems.specs.declared.System.{System}
use Rattle.systems.specs.Stated.{least_of}
use Rattle.systems.specs.Told.{Found, spread}
use Rattle.shelf.specs.Shelving.{ToldEntry, Shelving, without_newest, entry_of, entries_of}
use Rattle.shelf.proofs.Room.{size_off}
use Rattle.table.specs.declared.Table.{Table}
use Rattle.upkeep.specs.Counts.{shelf_size}
use Rattle.trial.specs.Standing.{Equipped}
use Rattle.trial.specs.Seen.{standing_of}
use Rattle.trial.specs.declared.trial.Trial.TheInside.{Inside}
use Rattle.trial.proofs.Done.{code_of, still_equipped}
use Rattle.trial.specs.Solving.{SolvedOver}
use Rattle.trial.proofs.Sweeps.{taken, refused}
use Rattle.rules.specs.Moves.{settle_from}
use Rattle.rules.specs.Refusing.{bar}
use Rattle.rules.specs.Calls.{settle_bars, settle_found, settle_newest, settle, choose}
use Rattle.rules.proofs.Bars.{passed}
use Rattle.upkeep.specs.Fault.{fault}
use Rattle.upkeep.proofs.Faults.{fault_some, fault_at, not_some, not_none}

module _ (M : Meaning) (s : State) (slip : ℕ) where
  abbrev Answer : Type 0
  Answer = Result (Unit {0}) Refusal × State

  barred : (f : Refusal) → Some f ≡ fault (settle_bars s slip) → ◌≡◌ {A = Answer} (Err f, s) (settle M s slip)
  barred f e = sym (fault_some s (settle_newest M s s.shelf) (settle_bars s slip) f e)

  pub of_void : s.void ≡ true → ◌≡◌ {A = Answer} (Err NoSolution, s) (settle M s slip)
  of_void v = barred NoSolution (fault_at 0 (settle_bars s slip) (bar true NoSolution) (omega arith) tt v)

  module _ (live : s.void ≡ false) where
    pub of_erased : any s.erased ≡ true → ◌≡◌ {A = Answer} (Err StillErased, s) (settle M s slip)
    of_erased e = barred StillErased (fault_at 1 (settle_bars s slip) (bar true NoSolution) (omega arith) (live, tt) e)

    module _ (none : any s.erased ≡ false) where
      pub of_empty : eqb (length s.shelf) 0 ≡ true → ◌≡◌ {A = Answer} (Err ShelfEmpty, s) (settle M s slip)
      of_empty e = barred ShelfEmpty (fault_at 2 (settle_bars s slip) (bar true NoSolution) (omega arith) (live, (none, tt)) e)

      module _ (some : eqb (length s.shelf) 0 ≡ false) where
        pub of_wrong : eqb slip s.number ≡ false → ◌≡◌ {A = Answer} (Err WrongSlip, s) (settle M s slip)
        of_wrong e = barred WrongSlip (fault_at 3 (settle_bars s slip) (bar true NoSolution) (omega arith) (live, (none, (some, tt))) (ap not e))

        module _ (shown : eqb slip s.number ≡ true) (e : Entry) (l : List Entry) (top : s.shelf ≡ e ∷ l) where
          through : settle_found M s (reopen e.check l s) e.members (settle_from M s e l) ≡ settle M s slip
          through = ap (settle_newest M s) (sym top) ∙ sym (passed (settle_bars s slip) s (settle_newest M s s.shelf) (live, (none, (some, (ap not shown, tt)))))

          pub of_none : settle_from M s e l ≡ [] → ◌≡◌ {A = Answer} (Err NoSolution, s) (settle M s slip)
          of_none n = sym (ap (settle_found M s (reopen e.check l s) e.members) n) ∙ through

          pub of_right : (z : List Bool) (others : List (List Bool)) → settle_from M s e l ≡ z ∷ others
              → ◌≡◌ {A = Answer} (Ok tt, choose M e.members z (settle_from M s e l) (reopen e.check l s)) (settle M s slip)
          of_right z others found = ap (λ f. (Ok tt, choose M e.members z f (reopen e.check l s))) found ∙ sym (ap (settle_found M s (reopen e.check l s) e.members) found) ∙ through

-- the newest of a shelf
top_of : (l : List ToldEntry) (e : ToldEntry) → Some e ≡ slice_get l 0 → l ≡ e ∷ drop 1 l
top_of [] e h = not_some e h
top_of (x ∷ l) e h = let same : e ≡ x = cc in ap (λ t. t ∷ l) (sym same)

pub no_top : (l : List ToldEntry) → None ≡ slice_get l 0 → l ≡ []
no_top [] h = refl
no_top (x ∷ l) h = not_none x h

in_rest : (l : List ToldEntry) (e : ToldEntry) → In e (drop 1 l) → In e l
in_rest [] e m = m
in_rest (x ∷ l) e m = inr m

not_bare : {X : Type 0} (l : List X) (e : X) (t : List X) → l ≡ e ∷ t → eqb (length l) 0 ≡ false
not_bare l e t h = false_from_ne_true (eqb (length l) 0) (λ b. absurd (omega (arith, eqb-true (length l) 0 b, ap length h)))

-- one check less is closed, or as many
one_opened : (m : List Bool) (c : ℕ) → size m ≤ suc (size (set m c false))
one_opened m c = go (has m c) refl
  where
    go : (b : Bool) → has m c ≡ b → size m ≤ suc (size (set m c false))
    go true e = omega (arith, size_off m c e)
    go false e = omega (arith, ap size (ap (set m c) (sym e) ∙ set-get_or m c false))

-- the newest entry of a trial's shelf as the rules have it, and those that are left once it is taken off
abbrev pub entry : Inside → ToldEntry → Entry
entry t e = entry_of t.shelf.qubits e

abbrev pub others : Inside → List Entry
others t = entries_of t.shelf.qubits (drop 1 t.shelf.entries)

-- what is known of them
pub record Newest (t : Inside) (e : ToldEntry) : Type 0 where
  pub on_top : (standing_of t).state.shelf ≡ entry t e ∷ others t
  pub some : eqb (length (standing_of t).state.shelf) 0 ≡ false
  pub left : shelf_size (standing_of t).state.shelf ≡ size (entry t e).members + shelf_size (others t)
  pub rising : elements (entry t e).members ≡ e.members
  pub few : length e.members ≤ 256
  pub low : e.check < length (vec_items t.closed)
  pub long : length (entry t e).members ≡ qubits (code_of t.board)
  pub waiting : length (others t) ≤ size (set (vec_items t.closed) e.check false)

pub newest : (t : Inside) (e : ToldEntry) → Some e ≡ slice_get t.shelf.entries 0 → Newest t e
newest t e h =
    let v = t.shelf in
    let top : v.entries ≡ e ∷ drop 1 v.entries = top_of v.entries e h in
    let told = t.equipped.told e (subst (λ (l : List ToldEntry). In e l) (sym top) (inl refl)) in
    let on_top : (standing_of t).state.shelf ≡ entry t e ∷ others t = ap (entries_of v.qubits) top in
    record {
      on_top = on_top;
      some = not_bare (standing_of t).state.shelf (entry t e) (others t) on_top;
      left = ap shelf_size on_top ∙ sum_by-cons (λ (d : Entry). size d.members) (entry t e) (others t);
      rising = told.0;
      few = told.1;
      low = omega (arith, told.2, t.sized.closed);
      long = length_marks v.qubits e.members ∙ t.equipped.members;
      waiting = omega (arith, t.sized.waiting, ap length on_top, one_opened (vec_items t.closed) e.check);
    }

-- the shelf without it is still of the trial
pub still_told : (t : Inside) (v : Shelving) → v ≡ without_newest t.shelf → (u : Table) (n : ℕ) → u ≡ t.board.erasures.table.now → n ≡ vec_capacity t.listed → Equipped u n v t.walker.table
still_told t v is u n same room =
    let q = t.equipped in
    let left : Equipped t.board.erasures.table.now (vec_capacity t.listed) (without_newest t.shelf) t.walker.table =
    record { list = q.list; members = q.members; entries = q.entries; told = λ e m. q.told e (in_rest t.shelf.entries e m); walks = q.walks } in
    still_equipped _ u _ n v _ _ same room refl (subst (λ (x : Shelving). Equipped t.board.erasures.table.now (vec_capacity t.listed) x t.walker.table) (sym is) left)

-- what is known of a system that was solved for an entry
module _ (M : Meaning) (s : State) (e : Entry) (l : List Entry) (list : List ℕ) (closed odd : List Bool) (is : elements e.members ≡ list) (closed_is : closed ≡ set s.closed e.check false) (odd_is : odd ≡ s.odds) (lc : length s.closed ≡ length M.checks) (lo : length s.odds ≡ length M.checks) (sys : System) where
  lc' : length closed ≡ length M.checks
  lc' = ap length closed_is ∙ length-set s.closed e.check false ∙ lc

  abbrev Says : Result (Option ℕ) Refusal → Type 0
  Says r = (k : List Bool) → elements k ≡ list → length closed ≡ length M.checks → length odd ≡ length M.checks
      → Answers r (too_many (length list)) (λ o. SolvedOver sys k (solutions M.checks k (less (holders M.checks k) closed) odd) o)

  pub solved : (o : Option ℕ) → Says (Ok o) → SolvedOver sys e.members (settle_from M s e l) o
  solved o says =
      let t = taken (length list) o _ (says e.members is lc' (ap length odd_is ∙ lo)) in
      (t.1.0, subst (λ (f : List (List Bool)). Found f o (spread e.members (least_of sys))) (ap₂ (λ x y. solutions M.checks e.members (less (holders M.checks e.members) x) y) closed_is odd_is) t.1.1)

  pub never_many : (f : Refusal) → Says (Err f) → length list ≤ 256 → ⊥
  never_many f says few = let r = refused (length list) f _ (says e.members is lc' (ap length odd_is ∙ lo)) in absurd (omega (arith, ltb-true 256 (length list) r.0, few))

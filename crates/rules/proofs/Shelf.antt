-- The shelf: what its entries keep true, how they adjust the closed checks, and what stays true of a whole trial.
use Rattle.std.proofs.Common.{◌≡◌, ℕ, ◌+◌, Bool, true, false, not, ◌&&◌, ◌||◌, eqb, ◌⊎◌, List, [], ◌∷◌, length, sym, refl, ap, ◌∙◌, subst, inl, inr, eqb-true}
use Rattle.std.proofs.lemmas.Bool.{cases_Bool, and_parts, and_from, or_left, or_right, or_from, false_from_ne_true, not_from_false}
use mathlib.Core.Bool.{false≢true}
use lib.ListN.{length-replicate}
use Rattle.sets.specs.Bits.{flip}
use Rattle.sets.specs.Sets.{odd, has, row, plus, empty, less}
use Rattle.sets.proofs.Bits.{clash, flip_false}
use Rattle.sets.proofs.Sets.{has_plus, has_less, has_empty, length_over, odd_plus, odd_empty, odd_apart}
use Rattle.sets.proofs.Numbers.{eqb_same}
use Rattle.meaning.specs.Meaning.{Meaning, Sound, qubits}
use Rattle.rules.specs.Reports.{Report, For, syndrome}
use Rattle.rules.specs.States.{Entry, State, opening, finish, count}
use Rattle.rules.proofs.Split.{Under, rest, turned, under_plus, under_more}
use Rattle.rules.proofs.Core.{Core, core_cong, has_syndrome}
use Rattle.rules.proofs.Prune.{core_open}

-- the checks of the entries, and their members
abbrev pub closed_by : List Entry → ℕ → Bool
closed_by [] d = false
closed_by (e ∷ l) d = eqb e.check d || closed_by l d

abbrev pub shelved_by : List Entry → ℕ → Bool
shelved_by [] i = false
shelved_by (e ∷ l) i = has e.members i || shelved_by l i

module _ (M : Meaning) where
  -- of an entry, and of those before it on the shelf
  pub record Firm (e : Entry) (l : List Entry) : Type 0 where
    pub long : length e.members ≡ qubits M
    -- a subset that is odd on the entry's check and even on each other check that was open
    pub adjuster : List Bool
    pub adjusts : Under (qubits M) (has e.members) adjuster
    pub turns : odd (row M.checks e.check) adjuster ≡ true
    pub keeps : (d : ℕ) → (e.check ≡ d → ⊥) → closed_by l d ≡ false → odd (row M.checks d) adjuster ≡ false
    -- a check that was open holds no member, or nothing of the entries before
    pub parts : (d : ℕ) → closed_by l d ≡ false → (i j : ℕ) → has (row M.checks d) i ≡ true → has e.members i ≡ true → has (row M.checks d) j ≡ true → shelved_by l j ≡ true → ⊥
    pub apart : (i : ℕ) → has e.members i ≡ true → shelved_by l i ≡ false
    pub fresh : closed_by l e.check ≡ false

  abbrev pub Good : List Entry → Type 0
  Good [] = Unit {0}
  Good (e ∷ l) = Firm e l × Good l

  -- any marks of the closed checks are those of some shelved qubits
  pub adjust : (l : List Entry) → Good l → (t : ℕ → Bool) → ((d : ℕ) → closed_by l d ≡ false → t d ≡ false)
      → (w : List Bool) × Under (qubits M) (shelved_by l) w × ((d : ℕ) → odd (row M.checks d) w ≡ t d)
  adjust [] g t h = (empty (qubits M), record { long = length-replicate (qubits M) false; inside = λ i e. absurd (clash e (has_empty (qubits M) i)) }, λ d. odd_empty (row M.checks d) (qubits M) ∙ sym (h d refl))
  adjust (e ∷ l) g t h = go (cases_Bool (t e.check)) (λ u k. adjust l g.1 u k)
    where
      f : Firm e l
      f = g.0

      by_check : (d : ℕ) → closed_by l d ≡ false → (e.check ≡ d) ⊎ ((e.check ≡ d → ⊥) × (t d ≡ false))
      by_check d o = elim (cases_Bool (eqb e.check d)) [ inl p ↦ inl (eqb-true e.check d p) | inr p ↦ inr (λ q. clash (ap (eqb e.check) (sym q) ∙ eqb_same e.check) p, h d (or_from (eqb e.check d) (closed_by l d) p o)) ]

      go : (t e.check ≡ true) ⊎ (t e.check ≡ false)
          → ((u : ℕ → Bool) → ((d : ℕ) → closed_by l d ≡ false → u d ≡ false) → (w : List Bool) × Under (qubits M) (shelved_by l) w × ((d : ℕ) → odd (row M.checks d) w ≡ u d))
          → (w : List Bool) × Under (qubits M) (shelved_by (e ∷ l)) w × ((d : ℕ) → odd (row M.checks d) w ≡ t d)
      go (inr off) ih =
          let r = ih t (λ d o. elim (by_check d o) [ inl q ↦ ap t (sym q) ∙ off | inr q ↦ q.1 ]) in
          (r.0, under_more (qubits M) M.checks (λ i q. or_right (has e.members i) (shelved_by l i) q) r.1, r.2)
      go (inl on) ih =
          let r = ih (λ d. flip (t d) (odd (row M.checks d) f.adjuster)) (λ d o. elim (by_check d o) [
            | inl q ↦ subst (λ (x : ℕ). flip (t x) (odd (row M.checks x) f.adjuster) ≡ false) q (ap (λ b. flip b (odd (row M.checks e.check) f.adjuster)) on ∙ ap not f.turns)
            | inr q ↦ ap (λ b. flip b (odd (row M.checks d) f.adjuster)) q.1 ∙ f.keeps d q.0 o
          ]) in (
            plus f.adjuster r.0,
            under_plus (qubits M) M.checks f.adjuster r.0
                (under_more (qubits M) M.checks (λ i q. or_left (has e.members i) (shelved_by l i) q) f.adjusts)
                (under_more (qubits M) M.checks (λ i q. or_right (has e.members i) (shelved_by l i) q) r.1),
            λ d. odd_plus (row M.checks d) f.adjuster r.0 ∙ ap (flip (odd (row M.checks d) f.adjuster)) (r.2 d) ∙ back (odd (row M.checks d) f.adjuster) (t d),
          )
        where
          back : (a b : Bool) → flip a (flip b a) ≡ b
          back true true = refl
          back true false = refl
          back false b = flip_false b

  -- with the checks cl closed: on the open checks that hold one of its members, each entry can still explain what is odd
  abbrev pub Kept : (ℕ → Bool) → (ℕ → Bool) → List Entry → Type 0
  Kept cl odds [] = Unit {0}
  Kept cl odds (e ∷ l) =
      ((z : List Bool) × Under (qubits M) (has e.members) z × ((d : ℕ) → cl d ≡ false → (i : ℕ) → has (row M.checks d) i ≡ true → has e.members i ≡ true → odd (row M.checks d) z ≡ odds d))
      × Kept cl odds l

  -- what is closed may grow; and what is odd may change on checks that hold nothing shelved, or are closed
  pub kept_cong : (cl cl' odds odds' : ℕ → Bool) (l : List Entry) → ((d i : ℕ) → cl' d ≡ false → has (row M.checks d) i ≡ true → shelved_by l i ≡ true → (cl d ≡ false) × (odds d ≡ odds' d)) → Kept cl odds l → Kept cl' odds' l
  kept_cong cl cl' odds odds' [] f k = tt
  kept_cong cl cl' odds odds' (e ∷ l) f k = (
    (k.0.0, k.0.1, λ d o i p m. let r = f d i o p (or_left (has e.members i) (shelved_by l i) m) in k.0.2 d r.0 i p m ∙ r.1),
    kept_cong cl cl' odds odds' l (λ d i o p m. f d i o p (or_right (has e.members i) (shelved_by l i) m)) k.1,
  )

-- what is erased or shelved
abbrev pub left_of : State → ℕ → Bool
left_of s i = has s.erased i || has s.shelved i

module _ (M : Meaning) (sound : Sound M) (R : Report) (for : For M R) where
  pub record Inv (s : State) : Type 0 where
    pub erased_long : length s.erased ≡ qubits M
    pub shelved_long : length s.shelved ≡ qubits M
    pub closed_long : length s.closed ≡ length M.checks
    pub odds_long : length s.odds ≡ length M.checks
    pub core : Core M sound R for (left_of s) s.flipped (has s.odds) s.pruned s.chosen
    pub good : Good M s.shelf
    pub kept : Kept M (closed_by s.shelf) (has s.odds) s.shelf
    pub closed_is : (d : ℕ) → has s.closed d ≡ closed_by s.shelf d
    pub shelved_is : (i : ℕ) → has s.shelved i ≡ shelved_by s.shelf i
    pub apart : (i : ℕ) → has s.erased i ≡ true → shelved_by s.shelf i ≡ false
    -- an open check holds no erased qubit, or no shelved one
    pub parts : (d : ℕ) → closed_by s.shelf d ≡ false → (i j : ℕ) → has (row M.checks d) i ≡ true → has s.erased i ≡ true → has (row M.checks d) j ≡ true → shelved_by s.shelf j ≡ true → ⊥

  pub inv_open : (number : ℕ) → Inv (opening M R number)
  inv_open number =
      record {
        erased_long = for.lost_range;
        shelved_long = length-replicate (qubits M) false;
        closed_long = length-replicate (length M.checks) false;
        odds_long = for.odds_range;
        core = core_open M sound R for;
        good = tt;
        kept = tt;
        closed_is = λ d. has_empty (length M.checks) d;
        shelved_is = λ i. has_empty (qubits M) i;
        apart = λ i e. refl;
        parts = λ d o i j a b c e. false≢true e;
      }

  -- erased qubits k are done, with z flipped
  pub bits : (e s k : Bool) → ((e || s) && not k) ≡ ((e && not k) || (s && not k))
  bits true true true = refl
  bits true true false = refl
  bits true false true = refl
  bits true false false = refl
  bits false s k = refl

  and_not : (a k : Bool) → (a ≡ true → k ≡ false) → (a && not k) ≡ a
  and_not true k h = ap not (h refl)
  and_not false k h = refl

  pub inv_finish : (s : State) (k z : List Bool) (a b c : ℕ) → Inv s → length k ≡ qubits M → ((i : ℕ) → has k i ≡ true → has s.erased i ≡ true) → ((i : ℕ) → has z i ≡ true → has k i ≡ true)
      → Core M sound R for (rest (left_of s) (has k)) (plus s.flipped z) (turned (qubits M) M.checks (has s.odds) z) (s.pruned + b) (s.chosen + c)
      → Inv (count a b c (finish M k z s))
  inv_finish s k z a b c h l sub inside core =
      record {
        erased_long = length_over (λ x y. x && not y) s.erased k (qubits M) h.erased_long l;
        shelved_long = length_over (λ x y. x && not y) s.shelved k (qubits M) h.shelved_long l;
        closed_long = h.closed_long;
        odds_long = length_over flip s.odds (syndrome M z) (length M.checks) h.odds_long (lib.ListN.length-map M.checks (λ c. odd c z));
        core = core_cong M sound R for
            (λ i. bits (has s.erased i) (has s.shelved i) (has k i) ∙ sym (ap (λ t. t || has (less s.shelved k) i) (has_less s.erased k i) ∙ ap (λ t. (has s.erased i && not (has k i)) || t) (has_less s.shelved k i)))
            (λ d. sym (has_plus s.odds (syndrome M z) d ∙ ap (flip (has s.odds d)) (has_syndrome M z d)))
            core;
        good = h.good;
        kept = kept_cong M (closed_by s.shelf) (closed_by s.shelf) (has s.odds) (has (plus s.odds (syndrome M z))) s.shelf
            (λ d i o p m. (o, sym (has_plus s.odds (syndrome M z) d ∙ ap (flip (has s.odds d)) (has_syndrome M z d ∙ odd_apart (row M.checks d) z (λ j p' q. h.parts d o j i p' (sub j (inside j q)) p m)) ∙ flip_false (has s.odds d))))
            h.kept;
        closed_is = h.closed_is;
        shelved_is = λ i. has_less s.shelved k i ∙ and_not (has s.shelved i) (has k i) (λ t. false_from_ne_true (has k i) (λ q. clash (sym (h.shelved_is i) ∙ t) (h.apart i (sub i q)))) ∙ h.shelved_is i;
        apart = λ i e. h.apart i (was i e);
        parts = λ d o i j p e q t. h.parts d o i j p (was i e) q t;
      }
    where
      was : (i : ℕ) → has (less s.erased k) i ≡ true → has s.erased i ≡ true
      was i e = (and_parts (has s.erased i) (not (has k i)) (sym (has_less s.erased k i) ∙ e)).0

  -- what is even on every open check is made up for by shelved qubits
  pub inv_fill : (s : State) (K : ℕ → Bool) → Inv s → ((i : ℕ) → K i ≡ true → has s.erased i ≡ true) → (x : List Bool) → ((d : ℕ) → closed_by s.shelf d ≡ false → odd (row M.checks d) x ≡ false)
      → (w : List Bool) × Under (qubits M) (rest (left_of s) K) w × ((d : ℕ) → odd (row M.checks d) w ≡ odd (row M.checks d) x)
  inv_fill s K h sub x even =
      let r = adjust M s.shelf h.good (λ d. odd (row M.checks d) x) even in (
        r.0,
        under_more (qubits M) M.checks (λ i q. and_from _ _ (or_right (has s.erased i) (has s.shelved i) (h.shelved_is i ∙ q)) (not_from_false (K i) (false_from_ne_true (K i) (λ k. clash q (h.apart i (sub i k)))))) r.1,
        r.2,
      )

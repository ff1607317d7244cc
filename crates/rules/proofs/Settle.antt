-- The newest shelf entry is settled.
use Rattle.std.proofs.Common.{◌≡◌, ℕ, zero, suc, Bool, true, false, not, ◌&&◌, ◌||◌, eqb, ◌⊎◌, List, [], ◌∷◌, length, set, sym, refl, ap, ◌∙◌, subst, inl, inr, length-set, get_or-set_other, eqb-true}
use Rattle.std.proofs.lemmas.Bool.{cases_Bool, and_parts, and_from, or_cases, or_left, or_right, or_from, not-true, not_from_false, false_from_ne_true}
use mathlib.Core.Bool.{false≢true}
use lib.ListN.{length-map}
use Rattle.sets.specs.Bits.{flip}
use Rattle.sets.specs.Sets.{odd, has, row, less, plus, any}
use Rattle.sets.specs.Lists.{In}
use Rattle.sets.proofs.Bits.{clash, flip_cases, flip_false, flip_same}
use Rattle.sets.proofs.Sets.{has_plus, has_less, any_none, length_over, odd_nil, odd_apart, odd_plus}
use Rattle.sets.proofs.Numbers.{eqb_same}
use Rattle.meaning.specs.Meaning.{Meaning, Sound, qubits}
use Rattle.rules.specs.Reports.{Report, For, syndrome}
use Rattle.rules.specs.States.{Entry, State, finish, count, reopen}
use Rattle.rules.specs.Systems.{slack}
use Rattle.rules.specs.Clusters.{touched}
use Rattle.rules.specs.Moves.{settle_from}
use Rattle.rules.proofs.Split.{Under, Sys, rest, under_plus, under_more}
use Rattle.rules.proofs.Solutions.{of_solutions, in_solutions}
use Rattle.rules.proofs.Core.{core_cong, core_flip, has_syndrome}
use Rattle.rules.proofs.Shelf.{closed_by, shelved_by, Firm, Good, adjust, left_of, Kept, kept_cong, Inv, bits}
use Rattle.rules.proofs.Cluster.{of_touched}
use Rattle.rules.proofs.Steps.{many, touched_long, even_open}

off_set : (m : List Bool) (c : ℕ) → has (set m c false) c ≡ false
off_set [] c = refl
off_set (x ∷ m) zero = refl
off_set (x ∷ m) (suc c) = off_set m c

odd_some : (c x : List Bool) → odd c x ≡ true → (i : ℕ) × (has c i ≡ true) × (has x i ≡ true)
odd_some [] x e = absurd (clash e (odd_nil x))
odd_some (b ∷ c) [] e = absurd (false≢true e)
odd_some (b ∷ c) (x ∷ xs) e = go (flip_cases (b && x) (odd c xs) e) (odd_some c xs)
  where
    go : ((b && x) ≡ true) ⊎ (odd c xs ≡ true) → (odd c xs ≡ true → (i : ℕ) × (has c i ≡ true) × (has xs i ≡ true)) → (i : ℕ) × (has (b ∷ c) i ≡ true) × (has (x ∷ xs) i ≡ true)
    go (inl p) ih = let r = and_parts b x p in (0, r.0, r.1)
    go (inr p) ih = let r = ih p in (suc r.0, r.1, r.2)

module _ (M : Meaning) (sound : Sound M) (R : Report) (for : For M R) (s : State) (h : Inv M sound R for s) (none : any s.erased ≡ false)
    (e : Entry) (l : List Entry) (newest : s.shelf ≡ e ∷ l) where
  good : Good M (e ∷ l)
  good = subst (Good M) newest h.good

  firm : Firm M e l
  firm = good.0

  abbrev t : State
  t = reopen e.check l s

  not_erased : (i : ℕ) → has s.erased i ≡ false
  not_erased = any_none s.erased none

  shelved_is : (i : ℕ) → has s.shelved i ≡ (has e.members i || shelved_by l i)
  shelved_is i = h.shelved_is i ∙ ap (λ x. shelved_by x i) newest

  -- the check is open again
  pub reopened : (d : ℕ) → has (set s.closed e.check false) d ≡ closed_by l d
  reopened d = go (cases_Bool (eqb e.check d))
    where
      go : (eqb e.check d ≡ true) ⊎ (eqb e.check d ≡ false) → has (set s.closed e.check false) d ≡ closed_by l d
      go (inl q) = subst (λ (x : ℕ). has (set s.closed e.check false) x ≡ closed_by l x) (eqb-true e.check d q) (off_set s.closed e.check ∙ sym firm.fresh)
      go (inr q) = get_or-set_other s.closed e.check d false false (λ g. clash (ap (eqb e.check) g ∙ eqb_same e.check) q) ∙ h.closed_is d ∙ ap (λ x. closed_by x d) newest ∙ ap (λ b. b || closed_by l d) q

  kept : Kept M (closed_by (e ∷ l)) (has s.odds) (e ∷ l)
  kept = subst (λ x. Kept M (closed_by x) (has s.odds) x) newest h.kept

  -- the entry's check holds a member, and so nothing of the entries before
  own : (i : ℕ) × (has (row M.checks e.check) i ≡ true) × (has e.members i ≡ true)
  own = let r = odd_some (row M.checks e.check) firm.adjuster firm.turns in (r.0, r.1, firm.adjusts.inside r.0 r.2)

  still_open : (d i : ℕ) → closed_by l d ≡ false → has (row M.checks d) i ≡ true → shelved_by l i ≡ true → closed_by (e ∷ l) d ≡ false
  still_open d i o p x = or_from (eqb e.check d) (closed_by l d) (false_from_ne_true (eqb e.check d) (λ q.
      let g : e.check ≡ d = eqb-true e.check d q in
      firm.parts e.check firm.fresh own.0 i own.1 own.2 (ap (λ (x : ℕ). has (row M.checks x) i) g ∙ p) x)) o

  t_long : length t.closed ≡ length M.checks
  t_long = length-set s.closed e.check false ∙ h.closed_long

  left_is : (i : ℕ) → left_of s i ≡ true → (has e.members i || shelved_by l i) ≡ true
  left_is i q = elim (or_cases (has s.erased i) (has s.shelved i) q) [ inl a ↦ absurd (clash a (not_erased i)) | inr a ↦ sym (shelved_is i) ∙ a ]

  shelved_left : (i : ℕ) → (has e.members i || shelved_by l i) ≡ true → left_of s i ≡ true
  shelved_left i q = or_right (has s.erased i) (has s.shelved i) (shelved_is i ∙ q)

  pub settle_sub : (i : ℕ) → has e.members i ≡ true → left_of s i ≡ true
  settle_sub i q = shelved_left i (or_left (has e.members i) (shelved_by l i) q)

  settle_apart : (d : ℕ) → has (touched M t e.members) d ≡ true → (i : ℕ) → has (row M.checks d) i ≡ true → rest (left_of s) (has e.members) i ≡ true → ⊥
  settle_apart d x i p q =
      let b = and_parts (left_of s i) (not (has e.members i)) q in
      let r = of_touched M sound t h.erased_long e.members d x in
      elim (or_cases (has e.members i) (shelved_by l i) (left_is i b.0)) [
        | inl a ↦ clash a (not-true (has e.members i) b.1)
        | inr a ↦ firm.parts d (sym (reopened d) ∙ r.0) r.1 i r.2 r.3 p a
      ]

  settle_fill : (x : List Bool) → Under (qubits M) (has e.members) x → ((d : ℕ) → has (touched M t e.members) d ≡ true → odd (row M.checks d) x ≡ false)
      → (w : List Bool) × Under (qubits M) (rest (left_of s) (has e.members)) w × ((d : ℕ) → odd (row M.checks d) w ≡ odd (row M.checks d) x)
  settle_fill x u even =
      let r = adjust M l good.1 (λ d. odd (row M.checks d) x) (λ d o. even_open M sound R for t e.members x h.erased_long u d (reopened d ∙ o) (even d)) in (
        r.0,
        under_more (qubits M) M.checks (λ i q. and_from _ _ (shelved_left i (or_right (has e.members i) (shelved_by l i) q)) (not_from_false (has e.members i) (false_from_ne_true (has e.members i) (λ k. clash q (firm.apart i k))))) r.1,
        r.2,
      )

  touched_is_long : length (touched M t e.members) ≡ length M.checks
  touched_is_long = touched_long M sound R for t e.members t_long

  or_less : (k b : Bool) → (k ≡ true → b ≡ false) → ((k || b) && not k) ≡ b
  or_less true b f = sym (f refl)
  or_less false true f = refl
  or_less false false f = refl

  pub settle_inv : (z : List Bool) → In z (settle_from M s e l) → Inv M sound R for (count 0 0 (slack (settle_from M s e l)) (finish M e.members z (reopen e.check l s)))
  settle_inv z m =
      record {
        erased_long = length_over (λ x y. x && not y) s.erased e.members (qubits M) h.erased_long firm.long;
        shelved_long = length_over (λ x y. x && not y) s.shelved e.members (qubits M) h.shelved_long firm.long;
        closed_long = t_long;
        odds_long = length_over flip s.odds (syndrome M z) (length M.checks) h.odds_long (length-map M.checks (λ c. odd c z));
        core = core_cong M sound R for
            (λ i. bits M sound R for (has s.erased i) (has s.shelved i) (has e.members i) ∙ sym (ap (λ b. b || has (less s.shelved e.members) i) (has_less s.erased e.members i) ∙ ap (λ b. (has s.erased i && not (has e.members i)) || b) (has_less s.shelved e.members i)))
            (λ d. sym (has_plus s.odds (syndrome M z) d ∙ ap (flip (has s.odds d)) (has_syndrome M z d)))
            (core_flip M sound R for h.core (has e.members) (has (touched M t e.members)) settle_sub settle_apart settle_fill z
            (of_solutions (qubits M) M.checks e.members (touched M t e.members) s.odds firm.long touched_is_long z m)
            (slack (settle_from M s e l))
            (many (qubits M) M.checks e.members (touched M t e.members) s.odds firm.long touched_is_long sound.checks_range z m)
            );
        good = good.1;
        kept = kept_cong M (closed_by (e ∷ l)) (closed_by l) (has s.odds) (has (plus s.odds (syndrome M z))) l (λ d i o p x. (still_open d i o p x, unturned d i o p x)) kept.1;
        closed_is = reopened;
        shelved_is = λ i. has_less s.shelved e.members i ∙ ap (λ b. b && not (has e.members i)) (shelved_is i) ∙ or_less (has e.members i) (shelved_by l i) (firm.apart i);
        apart = λ i q. absurd (clash (was i q) (not_erased i));
        parts = λ d o i j p q p' x. clash (was i q) (not_erased i);
      }
    where
      S : Sys (qubits M) M.checks (has e.members) (has (touched M t e.members)) (has s.odds) z
      S = of_solutions (qubits M) M.checks e.members (touched M t e.members) s.odds firm.long touched_is_long z m

      unturned : (d i : ℕ) → closed_by l d ≡ false → has (row M.checks d) i ≡ true → shelved_by l i ≡ true → has s.odds d ≡ has (plus s.odds (syndrome M z)) d
      unturned d i o p x = sym (has_plus s.odds (syndrome M z) d ∙ ap (flip (has s.odds d)) (has_syndrome M z d ∙ odd_apart (row M.checks d) z (λ j p' q. firm.parts d o j i p' (S.under.inside j q) p x)) ∙ flip_false (has s.odds d))

      was : (i : ℕ) → has (less s.erased e.members) i ≡ true → has s.erased i ≡ true
      was i q = (and_parts (has s.erased i) (not (has e.members i)) (sym (has_less s.erased e.members i) ∙ q)).0

  -- its system has a solution: what explained the internal checks, and the adjuster too if the entry's own check is not explained
  pub settle_some : (z : List Bool) × In z (settle_from M s e l)
  settle_some = go (cases_Bool (flip (odd (row M.checks e.check) kept.0.0) (has s.odds e.check)))
    where
      z₀ : List Bool
      z₀ = kept.0.0

      found : (z : List Bool) → Under (qubits M) (has e.members) z → odd (row M.checks e.check) z ≡ has s.odds e.check
          → ((d i : ℕ) → (e.check ≡ d → ⊥) → closed_by l d ≡ false → has (row M.checks d) i ≡ true → has e.members i ≡ true → odd (row M.checks d) z ≡ has s.odds d) → (z : List Bool) × In z (settle_from M s e l)
      found z u here others = (
        z,
        in_solutions (qubits M) M.checks e.members (touched M t e.members) s.odds firm.long touched_is_long z
            (record { under = u; told = λ d x. let r = of_touched M sound t h.erased_long e.members d x in told d r.1 (sym (reopened d) ∙ r.0) r.2 r.3 (cases_Bool (eqb e.check d)) }),
      )
        where
          told : (d i : ℕ) → closed_by l d ≡ false → has (row M.checks d) i ≡ true → has e.members i ≡ true → (eqb e.check d ≡ true) ⊎ (eqb e.check d ≡ false) → odd (row M.checks d) z ≡ has s.odds d
          told d i o p k (inl q) = subst (λ (x : ℕ). odd (row M.checks x) z ≡ has s.odds x) (eqb-true e.check d q) here
          told d i o p k (inr q) = others d i (λ g. clash (ap (eqb e.check) (sym g) ∙ eqb_same e.check) q) o p k

      old : (d i : ℕ) → (e.check ≡ d → ⊥) → closed_by l d ≡ false → has (row M.checks d) i ≡ true → has e.members i ≡ true → odd (row M.checks d) kept.0.0 ≡ has s.odds d
      old d i n o p k = kept.0.2 d (or_from (eqb e.check d) (closed_by l d) (false_from_ne_true (eqb e.check d) (λ q. n (eqb-true e.check d q))) o) i p k

      go : (flip (odd (row M.checks e.check) kept.0.0) (has s.odds e.check) ≡ true) ⊎ (flip (odd (row M.checks e.check) kept.0.0) (has s.odds e.check) ≡ false) → (z : List Bool) × In z (settle_from M s e l)
      go (inr q) = found kept.0.0 kept.0.1 (flip_same (odd (row M.checks e.check) kept.0.0) (has s.odds e.check) q) old
      go (inl q) =
          found (plus kept.0.0 firm.adjuster) (under_plus (qubits M) M.checks kept.0.0 firm.adjuster kept.0.1 firm.adjusts)
          (odd_plus (row M.checks e.check) kept.0.0 firm.adjuster ∙ ap (flip (odd (row M.checks e.check) kept.0.0)) firm.turns ∙ turn (odd (row M.checks e.check) kept.0.0) (has s.odds e.check) q)
          (λ d i n o p k. odd_plus (row M.checks d) kept.0.0 firm.adjuster ∙ ap (flip (odd (row M.checks d) kept.0.0)) (firm.keeps d n o) ∙ flip_false (odd (row M.checks d) kept.0.0) ∙ old d i n o p k)
        where
          turn : (a b : Bool) → flip a b ≡ true → flip a true ≡ b
          turn true true x = absurd (false≢true x)
          turn true false x = refl
          turn false b x = sym x

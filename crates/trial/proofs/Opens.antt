-- A trial as it is opened.
use Rattle.std.proofs.Common.{◌≡◌, ℕ, ◌+◌, ◌≤◌, Bool, true, false, List, [], length, replicate, vec_items, Some, None, Ok, Err, Result, sym, refl, ap, ◌∙◌, subst, arith}
use lib.ListN.{length-replicate}
use Rattle.std.proofs.lemmas.List.{length-map}
use Rattle.terms.specs.declared.refusal.Refusal.{Refusal}
use Rattle.sets.specs.Sets.{size}
use Rattle.sets.proofs.Sizes.{size_length}
use Rattle.meaning.specs.Meaning.{Meaning, qubits}
use Rattle.rules.specs.declared.answers.Status.{Status}
use Rattle.rules.specs.declared.answers.Status.TheVariants.{Erased, Done}
use Rattle.rules.specs.Reports.{report, some_past}
use Rattle.rules.specs.States.{Entry, State, opening}
use Rattle.rules.specs.Tallies as rules
use Rattle.table.specs.OfTable.{meaning_of}
use Rattle.table.specs.declared.Table.{Table}
use Rattle.upkeep.specs.Changed.{changed, marked}
use Rattle.upkeep.specs.Counts.{shelf_size}
use Rattle.upkeep.specs.Fault.{fault}
use Rattle.upkeep.specs.Statuses.{is_erased, is_shelved, erased_of}
use Rattle.upkeep.proofs.Changed.{length_changed}
use Rattle.upkeep.proofs.Faults.{fault_some, fault_none}
use Rattle.upkeep.proofs.Opened.{is_opening}
use Rattle.trial.specs.Standing.{Sized, Equipped, state_of}
use Rattle.shelf.specs.Shelving.{Shelving}
use Rattle.trial.specs.Opening.{Opens}
use Rattle.trial.specs.declared.trial.erasing.Erasures.{Erasures}

-- the statuses fit, and there is room to count each erased qubit
module _ (n : ℕ) (lost : List ℕ) (status : List Status) (e : status ≡ changed Done (λ _. Erased) lost (replicate n Done)) where
  pub statuses_fit : length status ≡ n
  statuses_fit = ap length e ∙ length_changed Done (λ _. Erased) lost (replicate n Done) ∙ length-replicate n Done

  pub statuses_few : 0 + 0 + 0 + size (erased_of status) + 0 ≤ n
  statuses_few = omega (arith, size_length (erased_of status), length-map status is_erased, statuses_fit)

module _ (M : Meaning) (t : rules.Tally) (lost odds : List ℕ) where
  -- what the rule does with a report that it takes
  abbrev pub takes : Result rules.Opened Refusal × rules.Tally
  takes = (Ok (record { trial = opening M (report M lost odds) (t.opened + 1); slip = t.opened + 1 }), rules.one_more t)

  pub refuses : (f : Refusal) → Some f ≡ fault (rules.open_bars M t lost odds) → Opens (Err f) t t (rules.open_trial M t lost odds)
  refuses f e = subst (λ (r : Result rules.Opened Refusal × rules.Tally). Opens (Err f) t t r) (sym (fault_some t takes (rules.open_bars M t lost odds) f e)) (refl, refl)

  pub opens : (o : rules.Opened) (u : rules.Tally) → None ≡ fault (rules.open_bars M t lost odds)
      → o ≡ record { trial = opening M (report M lost odds) (t.opened + 1); slip = t.opened + 1 } → u ≡ rules.one_more t
      → (Ok o ≡ (rules.open_trial M t lost odds).0) × (u ≡ (rules.open_trial M t lost odds).1)
  opens o u e eo eu =
      let r = sym (fault_none t takes (rules.open_bars M t lost odds) e) in
      (ap Ok eo ∙ ap (λ (x : Result rules.Opened Refusal × rules.Tally). x.0) r, eu ∙ ap (λ (x : Result rules.Opened Refusal × rules.Tally). x.1) r)

  -- a trial that was begun with the next number is the one that the rule opens
  pub numbered : (s : State) (number slip : ℕ) → s ≡ opening M (report M lost odds) number → number ≡ t.opened + 1 → slip ≡ number
      → ◌≡◌ {A = rules.Opened} (record { trial = s; slip = slip }) (record { trial = opening M (report M lost odds) (t.opened + 1); slip = t.opened + 1 })
  numbered s number slip es en el =
      let a = es ∙ ap (opening M (report M lost odds)) en in
      let b = el ∙ en in
      λ i. record { trial = a i; slip = b i }

-- a trial as it is begun
module _ (t : Table) (lost odds : List ℕ) (number : ℕ) (e : Erasures) (flipped closed odd : List Bool) (same : e.table.now ≡ t)
    (is_lost : vec_items e.status ≡ changed Done (λ _. Erased) lost (replicate (qubits (meaning_of t)) Done))
    (is-flipped : flipped ≡ replicate (qubits (meaning_of t)) false)
    (is-closed : closed ≡ replicate (length (meaning_of t).checks) false)
    (is_odd : odd ≡ marked odds (replicate (length (meaning_of t).checks) false))
    (shelf : List Entry) (is-none : shelf ≡ []) where
  abbrev state : State
  state = state_of (vec_items e.status) flipped closed odd shelf false number 0 0 0

  pub begins : some_past (qubits (meaning_of t)) lost ≡ false → some_past (length (meaning_of t).checks) odds ≡ false → state ≡ opening (meaning_of t) (report (meaning_of t) lost odds) number
  begins low-lost low-odds =
      let none : ◌≡◌ {A = State} _ _ = λ i. state_of (vec_items e.status) (is-flipped i) (is-closed i) (is_odd i) (is-none i) false number 0 0 0 in
      none ∙ is_opening (meaning_of t) lost odds number low-lost low-odds (vec_items e.status) is_lost

  pub is_sized : Sized (meaning_of e.table.now) state
  is_sized =
      let n = qubits (meaning_of t) in
      let m = length (meaning_of t).checks in
      let fit = statuses_fit n lost (vec_items e.status) is_lost in
      let all : Sized (meaning_of t) state =
      record {
        erased = length-map (vec_items e.status) is_erased ∙ fit;
        shelved = length-map (vec_items e.status) is_shelved ∙ fit;
        flipped = ap length is-flipped ∙ length-replicate n false;
        closed = ap length is-closed ∙ length-replicate m false;
        odds = ap length is_odd ∙ length_changed false (λ _. true) odds (replicate m false) ∙ length-replicate m false;
        few = omega (arith, statuses_few n lost (vec_items e.status) is_lost, ap shelf_size is-none);
        waiting = omega (arith, ap length is-none);
      } in
      subst (λ (x : Table). Sized (meaning_of x) state) (sym same) all

-- and its memory
abbrev pub empty_shelf : Table → Shelving
empty_shelf t = record { entries = []; qubits = qubits (meaning_of t); checks = length (meaning_of t).checks }

pub is_equipped : (t : Table) (n : ℕ) (v : Shelving) (w : Table) → qubits (meaning_of t) ≤ n → v ≡ empty_shelf t → w ≡ t → Equipped t n v w
is_equipped t n v w room none walks =
    subst (λ (x : Shelving). Equipped t n x w) (sym none)
    (record { list = room; members = refl; entries = refl; told = λ e m. absurd m; walks = walks })

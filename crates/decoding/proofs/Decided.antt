-- A trial that was opened, peeled and closed.
use Rattle.std.proofs.Common.{◌≡◌, ℕ, ◌+◌, ◌≤◌, true, false, not, eqb, List, [], ◌∷◌, Ok, Err, Result, sym, refl, ap, ◌∙◌, subst, inl, inr, arith}
use Rattle.std.proofs.lemmas.Bool.{ne_eqb, eq-eqb}
use Rattle.terms.specs.declared.refusal.Refusal.{Refusal}
use Rattle.meaning.specs.Meaning.{Meaning}
use Rattle.rules.specs.declared.answers.Verdict.{Verdict}
use Rattle.rules.specs.Reports.{report}
use Rattle.rules.specs.States.{State, opening}
use Rattle.rules.specs.Calls.{peel_bars, peel}
use Rattle.rules.specs.CallLists.{after}
use Rattle.rules.specs.Tallies.{Tally, Opened, one_more, open_bars, open_trial, closings, outcome, verdict, counted, close_bars, close}
use Rattle.rules.proofs.Bars.{guarded, accepted, passed}
use Rattle.trial.specs.Opening.{OpensAs, Opens}
use Rattle.decoding.specs.Peeling.{peels, decided_from, decided, DecidesAs, Decides}

pub pair : {X Y : Type 0} {r : X × Y} {x : X} {y : Y} → (x ≡ r.0) × (y ≡ r.1) → r ≡ (x, y)
pair h = let p = sym h.0 in let q = sym h.1 in λ i. (p i, q i)

-- peels leave the trial's number
peel_number : (M : Meaning) (s : State) (slip c : ℕ) → (peel M s slip c).1.number ≡ s.number
peel_number M s slip c = guarded (peel_bars M s slip c) s _ (λ (x : State). x.number ≡ s.number) refl (λ _. refl)

peels_number : (M : Meaning) (s : State) (slip : ℕ) (checks : List ℕ) → (after M s (peels slip checks)).number ≡ s.number
peels_number M s slip [] = refl
peels_number M s slip (c ∷ checks) = peels_number M (peel M s slip c).1 slip checks ∙ peel_number M s slip c

abbrev opened_or : Opened → Result Opened Refusal → Opened
opened_or d (Ok x) = x
opened_or d (Err f) = d

module _ (M : Meaning) (t : Tally) (lost odds checks : List ℕ) (balanced : closings t ≤ t.opened) (o : Opened) (later : Tally) (e : open_trial M t lost odds ≡ (Ok o, later)) where
  abbrev pub given : Opened
  given = record { trial = opening M (report M lost odds) (t.opened + 1); slip = t.opened + 1 }

  same : ◌≡◌ {A = Result Opened Refusal × Tally} (Ok o, later) (Ok given, one_more t)
  same = sym e ∙ passed (open_bars M t lost odds) t (Ok given, one_more t) (accepted (open_bars M t lost odds) t (Ok given, one_more t) o (ap (λ (r : Result Opened Refusal × Tally). r.0) e))

  pub is_given : o ≡ given
  is_given = ap (opened_or o) (ap (λ (r : Result Opened Refusal × Tally). r.0) same)

  abbrev end : State
  end = after M o.trial (peels o.slip checks)

  shown : eqb o.slip end.number ≡ true
  shown = eq-eqb o.slip end.number (ap (λ (x : Opened). x.slip) is_given ∙ sym (peels_number M o.trial o.slip checks ∙ ap (λ (x : Opened). x.trial.number) is_given))

  pub out : eqb later.opened (closings later) ≡ false
  out = ap (λ (r : Result Opened Refusal × Tally). eqb r.1.opened (closings r.1)) same ∙ ne_eqb (t.opened + 1) (closings t) (λ h. absurd (omega arith))

  -- the close is accepted
  pub is_closed : ((close end o.slip later).answer ≡ Ok (verdict end)) × ((close end o.slip later).tally ≡ counted (outcome end) later)
  is_closed =
      let u : Result Verdict Refusal × Tally = (Ok (verdict end), counted (outcome end) later) in
      let p = passed (close_bars end o.slip later) later u (ap not shown, (out, tt)) in
      (ap (λ (r : Result Verdict Refusal × Tally). r.0) p, ap (λ (r : Result Verdict Refusal × Tally). r.1) p)

-- an opening that failed decides the whole
pub failed : (M : Meaning) (t : Tally) (lost odds checks : List ℕ) (f : Refusal) (u : Tally) → Opens (Err f) t u (open_trial M t lost odds) → Decides (Err f) t u (decided M t lost odds checks)
failed M t lost odds checks f u = go (open_trial M t lost odds).0 (open_trial M t lost odds).1
  where
    go : (told : Result Opened Refusal) (later : Tally) → OpensAs (Err f) t u told later → DecidesAs (Err f) t u (decided_from M checks told later).0 (decided_from M checks told later).1
    go (Err g) later h = inr (ap Err h.0, h.1)
    go (Ok o) later h = inl h

-- and one that is closed is what the rule says
pub finished : (M : Meaning) (t : Tally) (lost odds checks : List ℕ) (o : Opened) (later : Tally) → open_trial M t lost odds ≡ (Ok o, later) → (v : Verdict) (u : Tally)
    → (Ok v ≡ (close (after M o.trial (peels o.slip checks)) o.slip later).answer) → (u ≡ (close (after M o.trial (peels o.slip checks)) o.slip later).tally) → Decides (Ok v) t u (decided M t lost odds checks)
finished M t lost odds checks o later e v u ev eu = subst (λ (r : Result Opened Refusal × Tally). Decides (Ok v) t u (decided_from M checks r.0 r.1)) (sym e) (ev, eu)

-- an opening opens one trial
pub one_opened : (M : Meaning) (t : Tally) (lost odds : List ℕ) (o p : Opened) (u v : Tally) → open_trial M t lost odds ≡ (Ok o, u) → open_trial M t lost odds ≡ (Ok p, v) → o ≡ p
one_opened M t lost odds o p u v e f = ap (opened_or o) (ap (λ (r : Result Opened Refusal × Tally). r.0) (sym e ∙ f))

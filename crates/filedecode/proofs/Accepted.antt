-- Of an accepted file nothing is refused: its trial is opened, run and closed.
use Rattle.std.proofs.Common.{◌≡◌, ℕ, false, not, ◌||◌, ltb, List, [], ◌∷◌, ◌++◌, map, length, drop, replicate, Ok, Err, Result, sym, refl, ap, ◌∙◌, subst, inl, inr, arith, le-ltb}
use Rattle.std.proofs.lemmas.Bool.{eq-eqb}
use Rattle.std.proofs.lemmas.List.{append-nil, drop_all}
use Rattle.terms.specs.declared.refusal.Refusal.{Refusal}
use Rattle.terms.specs.declared.refusal.Refusal.TheVariants.{NoMemory}
use Rattle.meaning.specs.Meaning.{Meaning, qubits}
use Rattle.rules.specs.declared.answers.Verdict.{Verdict}
use Rattle.rules.specs.Refusing.{too_short}
use Rattle.rules.specs.States.{State, opening}
use Rattle.rules.specs.Tallies.{Tally, Opened, new_tally, one_more, open_bars, open_trial, outcome, verdict, counted, close_bars, close, byte, copy_out}
use Rattle.rules.specs.Law.{TrueOf}
use Rattle.rules.proofs.Bars.{passed, not_ok}
use Rattle.running.proofs.Numbered.{run_number}
use Rattle.trialfile.specs.Contents.{Contents, code_of, WithinLimits}
use Rattle.decoding.specs.Running.{decode_bars, decoded_from, decoded, Decodes, TrueRun}
use Rattle.filedecode.specs.Printed.{report_of, end_of}

-- what a decode is given beside the buffer and the switches, and what it is to be given for a file
pub record Given : Type 0 where
  pub code : Meaning
  pub tally : Tally
  pub lost : List ℕ
  pub odds : List ℕ

abbrev pub given : Contents → Given
given c = record { code = code_of c; tally = new_tally; lost = c.lost; odds = c.odd }

abbrev pub decode_of : Given → ℕ → List ℕ → Result Verdict Refusal × (Tally × List ℕ)
decode_of g w buffer = decoded g.code g.tally g.lost g.odds w buffer

module _ (c : Contents) (w : WithinLimits c) (buffer : List ℕ) (room : length buffer ≡ qubits (code_of c)) where
  abbrev M : Meaning
  M = code_of c

  abbrev o : Opened
  o = record { trial = opening M (report_of c) 1; slip = 1 }

  abbrev later : Tally
  later = one_more new_tally

  abbrev end : State
  end = end_of c

  opens : open_trial M new_tally c.lost c.odd ≡ (Ok o, later)
  opens =
      passed (open_bars M new_tally c.lost c.odd) new_tally (Ok o, later)
      (w.lost_qubits, (w.odd_checks, ((λ i. not (w.lost_rise i) || not (w.odd_rise i)), (refl, tt))))

  closes : ((close end 1 later).answer ≡ Ok (verdict end)) × ((close end 1 later).tally ≡ counted (outcome end) later)
  closes =
      let number = run_number M o.trial 1 c.switches (replicate (qubits M) 0) in
      let u : Result Verdict Refusal × Tally = (Ok (verdict end), counted (outcome end) later) in
      let p = passed (close_bars end 1 later) later u (ap not (eq-eqb 1 end.number (sym number)), (refl, tt)) in
      (ap (λ (r : Result Verdict Refusal × Tally). r.0) p, ap (λ (r : Result Verdict Refusal × Tally). r.1) p)

  fits : ltb (length buffer) (qubits M) ≡ false
  fits = le-ltb (length buffer) (qubits M) (omega (arith, room))

  -- the buffer has a byte for each qubit and no other
  copies : (copy_out M end buffer).1 ≡ map byte end.flipped
  copies =
      ap (λ (r : Result (Unit {0}) Refusal × List ℕ). r.1) (passed (too_short M buffer ∷ []) buffer (Ok tt, map byte end.flipped ++ drop (qubits M) buffer) (fits, tt))
      ∙ ap (λ l. map byte end.flipped ++ l) (drop_all (qubits M) buffer (omega (arith, room))) ∙ append-nil (map byte end.flipped)

  decodes : decoded M new_tally c.lost c.odd c.switches buffer ≡ (Ok (verdict end), (counted (outcome end) later, map byte end.flipped))
  decodes =
      passed (decode_bars M c.lost c.odd c.switches buffer) (new_tally, buffer) (decoded_from M c.switches buffer (open_trial M new_tally c.lost c.odd).0 (open_trial M new_tally c.lost c.odd).1)
      (w.lost_qubits, (w.odd_checks, (fits, ((λ i. not (w.lost_rise i) || not (w.odd_rise i)), (w.stages, tt)))))
      ∙ ap (λ (r : Result Opened Refusal × Tally). decoded_from M c.switches buffer r.0 r.1) opens
      ∙ (λ i. (closes.0 i, (closes.1 i, copies i)))

  module _ (g : Given) (same : g ≡ given c) where
    told : decode_of g c.switches buffer ≡ (Ok (verdict end), (counted (outcome end) later, map byte end.flipped))
    told = ap (λ (x : Given). decode_of x c.switches buffer) same ∙ decodes

    -- it fails only where memory is wanting
    pub wants_memory : (e : Refusal) (u : Tally) (l : List ℕ) → Decodes (Err e) g.tally buffer u l (decode_of g c.switches buffer) → e ≡ NoMemory
    wants_memory e u l (inl h) = h.0
    wants_memory e u l (inr h) = not_ok e (verdict end) (ap (λ (r : Result Verdict Refusal × (Tally × List ℕ)). r.0) (h ∙ told))

    -- and its verdict is true of the report that the file states
    pub tells_true : (v : Verdict) → TrueRun g.code g.tally g.lost g.odds c.switches (Ok v) → TrueOf M (report_of c) end v
    tells_true v h = subst (λ (x : Given). TrueRun x.code x.tally x.lost x.odds c.switches (Ok v)) same h o later opens

    -- and what it answers and copies out is what the rules say
    abbrev verdict_in : Result Verdict Refusal → Verdict
    verdict_in (Ok v) = v
    verdict_in (Err e) = verdict end

    pub answers : (v : Verdict) (u : Tally) (l : List ℕ) → Decodes (Ok v) g.tally buffer u l (decode_of g c.switches buffer) → (v ≡ verdict end) × (l ≡ map byte end.flipped)
    answers v u l h =
        let e = h ∙ told in
        (ap (λ (r : Result Verdict Refusal × (Tally × List ℕ)). verdict_in r.0) e, ap (λ (r : Result Verdict Refusal × (Tally × List ℕ)). r.1.1) e)

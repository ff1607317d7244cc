-- With one tally, what was opened is what was closed and the slips that are out.
use Rattle.std.proofs.Common.{◌≡◌, ℕ, zero, suc, ◌+◌, ◌<◌, ◌≤◌, Bool, true, false, cond, ltb, List, [], ◌∷◌, length, get_or, Ok, Err, Result, refl, ap, ◌∙◌, arith, ltb-true, leb-false}
use Rattle.terms.specs.declared.refusal.Refusal.{Refusal}
use Rattle.rules.specs.declared.answers.Outcome.{Outcome}
use Rattle.rules.specs.declared.answers.Outcome.TheVariants.{Solved, Nothing, Unfinished}
use Rattle.rules.specs.declared.answers.Verdict.{Verdict}
use Rattle.rules.specs.States.{State}
use Rattle.rules.specs.Refusing.{Bar, unless}
use Rattle.rules.specs.Tallies.{Tally, closings, Opened, open_bars, one_more, outcome, verdict, counted, close_bars, given_back, close}
use Rattle.rules.specs.Books.{Books, new_books, Event, Opens, Closes, hand_out, without, back_to, entered, kept}
use Rattle.rules.specs.Companions.{Balance}
use Rattle.rules.proofs.Bars.{Clear}

abbrev Balanced : Books → Type 0
Balanced b = (b.tally.opened ≡ b.accepted) × (b.tally.opened ≤ 1000000) × (b.tally.opened ≡ closings b.tally + length b.out)

length_without : (k : ℕ) (l : List ℕ) → k < length l → suc (length (without k l)) ≡ length l
length_without k [] h = absurd (omega arith)
length_without zero (n ∷ l) h = refl
length_without (suc k) (n ∷ l) h = let h' : k < length l = omega arith in ap suc (length_without k l h')

closings_more : (o : Outcome) (t : Tally) → closings (counted o t) ≡ suc (closings t)
closings_more Solved t = omega arith
closings_more Nothing t = omega arith
closings_more Unfinished t = omega arith

opened_same : (o : Outcome) (t : Tally) → (counted o t).opened ≡ t.opened
opened_same Solved t = refl
opened_same Nothing t = refl
opened_same Unfinished t = refl

-- an opening: accepted, one more is opened and one slip more is out
opens_balanced : (b : Books) (o : Opened) → Balanced b → (bars : List Bar) → (Clear bars → b.tally.opened < 1000000) → Balanced (hand_out (unless bars b.tally (Ok o, one_more b.tally)) b)
opens_balanced b o h [] low = let k : b.tally.opened < 1000000 = low tt in (omega (arith, h.0), omega arith, omega (arith, h.2))
opens_balanced b o h (x ∷ bars) low = go x.holds refl (λ k. opens_balanced b o h bars k)
  where
    go : (t : Bool) → x.holds ≡ t → ((Clear bars → b.tally.opened < 1000000) → Balanced (hand_out (unless bars b.tally (Ok o, one_more b.tally)) b))
        → Balanced (hand_out (cond t (Err x.says, b.tally) (unless bars b.tally (Ok o, one_more b.tally))) b)
    go true e ih = h
    go false e ih = ih (λ c. low (e, c))

-- a close: accepted, one more is closed and one slip less is out; refused, the slip is given back
module _ (b : Books) (s : State) (k : ℕ) (below : k < length b.out) (h : Balanced b) where
  abbrev slip : ℕ
  slip = get_or b.out k 0

  abbrev booked : Result Verdict Refusal × Tally → Books
  booked r = record { tally = r.1; out = back_to (given_back r.0 slip) (without k b.out); accepted = b.accepted }

  closes_balanced : (bars : List Bar) → Balanced (booked (unless bars b.tally (Ok (verdict s), counted (outcome s) b.tally)))
  closes_balanced [] = (
    opened_same (outcome s) b.tally ∙ h.0,
    omega (arith, opened_same (outcome s) b.tally, h.1),
    omega (arith, opened_same (outcome s) b.tally, closings_more (outcome s) b.tally, length_without k b.out below, h.2),
  )
  closes_balanced (x ∷ bars) = go x.holds (closes_balanced bars)
    where
      go : (t : Bool) → Balanced (booked (unless bars b.tally (Ok (verdict s), counted (outcome s) b.tally))) → Balanced (booked (cond t (Err x.says, b.tally) (unless bars b.tally (Ok (verdict s), counted (outcome s) b.tally))))
      go true ih = (h.0, h.1, omega (arith, length_without k b.out below, h.2))
      go false ih = ih

entered_balanced : (e : Event) (b : Books) → Balanced b → Balanced (entered e b)
entered_balanced (Opens M lost odds) b h = opens_balanced b _ h (open_bars M b.tally lost odds) (λ c. leb-false 1000000 b.tally.opened c.1.1.1.0)
entered_balanced (Closes s k) b h = go (ltb k (length b.out)) refl
  where
    go : (t : Bool) → ltb k (length b.out) ≡ t
        → let c : Books = elim t [
          | true ↦ record { tally = (close s (get_or b.out k 0) b.tally).tally; out = back_to (close s (get_or b.out k 0) b.tally).slip (without k b.out); accepted = b.accepted }
          | false ↦ b
        ] in Balanced c
    go true e = closes_balanced b s k (ltb-true k (length b.out) e) h (close_bars s (get_or b.out k 0) b.tally)
    go false e = h

kept_balanced : (events : List Event) (b : Books) → Balanced b → Balanced (kept events b)
kept_balanced [] b h = h
kept_balanced (e ∷ events) b h = kept_balanced events (entered e b) (entered_balanced e b h)

pub balance : Balance
balance events = kept_balanced events new_books (refl, omega arith, refl)

use Rattle.std.proofs.Common.{◌≡◌, ℕ, suc, ◌+◌, ◌<◌, Bool, true, false, cond, not, List, [], ◌∷◌, length, Some, None, Option, nat_lt, sym, refl, ap, ◌∙◌, arith, lt-ltb, ltb-true, ltb-false}
use Rattle.std.specs.List.{position_or_len}
use Rattle.std.proofs.lemmas.List.Quantifiers.{position-Some}
use Rattle.std.proofs.lemmas.List.Sums.{sum_by-cons}
use Rattle.trial.specs.declared.tally.Tally.{Tally}
use Rattle.trial_tests.specs.Slips.{out, outs}
use Rattle.trial_tests.proofs.calling.first_out.Goals as goal

abbrev counts : Tally → Bool
counts t = nat_lt 0 (out t)

-- where slips are out, some tally counts one out
found : (l : List Tally) → 0 < outs l → position_or_len counts l < length l
found [] h = absurd (omega arith)
found (t ∷ l) h = go (counts t) refl (found l)
  where
    go : (b : Bool) → counts t ≡ b → (0 < outs l → position_or_len counts l < length l) → position_or_len counts (t ∷ l) < suc (length l)
    go true e ih = let is : position_or_len counts (t ∷ l) ≡ 0 = ap (λ b. cond (not b) (1 + position_or_len counts l) 0) e in omega (arith, is)
    go false e ih =
        let is : position_or_len counts (t ∷ l) ≡ 1 + position_or_len counts l = ap (λ b. cond (not b) (1 + position_or_len counts l) 0) e in
        let rest = ih (omega (arith, ltb-false 0 (out t) e, sum_by-cons out t l)) in
        omega (arith, rest, is)

pub unreachable-requires : goal.unreachable-requires
unreachable-requires c =
    let l = c.args.tallies.now in
    let is : ◌≡◌ {A = Option ℕ} None (Some (position_or_len counts l)) = c.in-None.ensures ∙ ap (λ b. cond b (Some (position_or_len counts l)) None) (lt-ltb (position_or_len counts l) (length l) (found l c.requires)) in
    cc

pub returns-clause-count : goal.returns-clause-count
returns-clause-count c d = ltb-true 0 _ (position-Some counts c.args.tallies.now c.in-Some.place d (sym c.in-Some.ensures)).1

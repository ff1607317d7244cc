-- Where columns start that are laid out one after another.
use Rattle.std.proofs.Common.{◌≡◌, ℕ, ◌+◌, ◌<◌, ◌≤◌, ◌≢◌, List, length, get_or, take, set, ap, ◌∙◌, arith, below_more}
use Rattle.std.specs.List.{sum}
use Rattle.std.proofs.lemmas.List.{get_or-set_same, get_or-set_other, take_all}
use Rattle.std.proofs.lemmas.List.Sums.{sum_by_more}
use Rattle.rows.specs.Laid.{Laid}

-- the first i counts have given way to where their columns start
pub record Laying (counts now : List ℕ) (i start : ℕ) : Type 0 where
  pub before : (q : ℕ) → q < i → get_or now q 0 ≡ sum (take q counts)
  pub after : (q : ℕ) → i ≤ q → get_or now q 0 ≡ get_or counts q 0
  pub so_far : start ≡ sum (take i counts)

module _ (counts now : List ℕ) (i start : ℕ) where
  pub laying_more : (next : ℕ) → length now ≡ length counts → i < length counts → next ≡ start + get_or now i 0 → Laying counts now i start → Laying counts (set now i start) (i + 1) next
  laying_more next same low step l =
      let here : i < length now = omega arith in
      record {
        before = below_more (λ q. get_or (set now i start) q 0 ≡ sum (take q counts)) i (λ q h. let ne : q ≢ i = omega arith in get_or-set_other now i q start 0 ne ∙ l.before q h) (get_or-set_same now i start 0 here ∙ l.so_far);
        after = λ q h. let ne : q ≢ i = omega arith in get_or-set_other now i q start 0 ne ∙ l.after q (omega arith);
        so_far = omega (arith, step, l.so_far, l.after i (omega arith), sum_by_more (λ x. x) counts i 0 low);
      }

  pub laying_all : length counts ≤ i → Laying counts now i start → Laid counts now start
  laying_all past l = record { each = λ q h. l.before q (omega arith); total = l.so_far ∙ ap sum (take_all i counts past) }

-- The lines of a verdict in one piece.
use Rattle.std.proofs.Common.{◌≡◌, ℕ, ◌+◌, ◌*◌, List, ◌++◌, take, codes, decimal, ap, ◌∙◌, append_assoc}
use Rattle.rules.specs.declared.answers.Verdict.{Verdict}
use Rattle.lines.specs.Lines.{outcome_word, first_line, flip_lines, shown, verdict_lines}

abbrev pub in_one : List ℕ → Verdict → List ℕ → List ℕ
in_one w v rest = w ++ (codes " peeled " ++ (decimal v.peeled ++ (codes " pruned " ++ (decimal v.pruned ++ (codes " chosen " ++ (decimal v.chosen ++ (codes "\n" ++ rest)))))))

pub in_pieces : (w : List ℕ) (v : Verdict) (r n k : ℕ) (flips : List ℕ) → w ≡ outcome_word v.outcome → take k flips ≡ take (shown v.outcome (n * n + r * r)) flips → in_one w v (flip_lines r n (take k flips)) ≡ verdict_lines r n v flips
in_pieces w v r n k flips e h =
    let pieces : in_one (outcome_word v.outcome) v (flip_lines r n (take k flips)) ≡ first_line v ++ flip_lines r n (take k flips) = simp append_assoc in
    ap (λ l. in_one l v (flip_lines r n (take k flips))) e ∙ pieces ∙ ap (λ l. first_line v ++ flip_lines r n l) h

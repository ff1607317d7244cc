-- The lines that are printed for a trial file.
use Rattle.std.specs.Prelude.{ℕ, ◌+◌, ◌-◌, ◌*◌, ◌/◌, ◌%◌, List, ◌++◌, map, take, Some, None, Option, codes, decimal, ◌==◌, nat_lt, flat_map, if◌then◌else◌}
use Rattle.terms.specs.Refusals.{number}
use Rattle.sets.specs.Sets.{elements}
use Rattle.rules.specs.declared.answers.Outcome.{Outcome}
use Rattle.rules.specs.declared.answers.Outcome.TheVariants.{Solved, Nothing, Unfinished}
use Rattle.rules.specs.declared.answers.Verdict.{Verdict}
use Rattle.tokens.specs.declared.section.Spot.{Spot}
use Rattle.tokens.specs.Tokens.{word_of}
use Rattle.trialfile.specs.declared.fault.FileFault.{FileFault}
use Rattle.trialfile.specs.Faults.{refusal_of, spot_of}
use Rattle.naming.specs.Lines.{name}

-- the outcome, and the counts
abbrev pub outcome_word : Outcome → List ℕ
outcome_word Solved = codes "solved"
outcome_word Nothing = codes "none"
outcome_word Unfinished = codes "unfinished"

abbrev pub first_line : Verdict → List ℕ
first_line v =
    outcome_word v.outcome
    ++ (codes " peeled " ++ (decimal v.peeled ++ (codes " pruned " ++ (decimal v.pruned ++ (codes " chosen " ++ (decimal v.chosen ++ codes "\n"))))))

-- a flipped qubit on a seed of r rows and n columns: b on side 0 and a on side 1, its two places, and its number
abbrev pub flip_line : ℕ → ℕ → ℕ → List ℕ
flip_line r n q =
    if nat_lt q (n * n) then name (codes "b") (q / n) (q % n) q (codes "\n")
    else name (codes "a") ((q - n * n) / r) ((q - n * n) % r) q (codes "\n")

-- of bytes that are 1 for a flipped qubit, a line for each of these
abbrev pub flip_lines : ℕ → ℕ → List ℕ → List ℕ
flip_lines r n flips = flat_map (flip_line r n) (elements (map (λ b. b == 1) flips))

-- of how many qubits the flipped ones are shown: of all where it is solved, else of none
abbrev pub shown : Outcome → ℕ → ℕ
shown Solved qubits = qubits
shown Nothing qubits = 0
shown Unfinished qubits = 0

-- the first line, and the flipped qubits; the bytes begin with one for each qubit
abbrev pub verdict_lines : ℕ → ℕ → Verdict → List ℕ → List ℕ
verdict_lines r n v flips = first_line v ++ flip_lines r n (take (shown v.outcome (n * n + r * r)) flips)

-- a refusal: its number, what was awaited, and where; want of memory has no number and no place
abbrev pub refused_at : Option ℕ → Option Spot → Option (List ℕ)
refused_at (Some n) (Some s) = Some (codes "refused " ++ (decimal n ++ (codes " " ++ (word_of s.section ++ (codes " " ++ (decimal s.place ++ codes "\n"))))))
refused_at (Some n) None = None
refused_at None s = None

abbrev pub refused_line : FileFault → Option (List ℕ)
refused_line e = refused_at (number (refusal_of e)) (spot_of e)

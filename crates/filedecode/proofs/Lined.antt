-- Each file has a line.
use Rattle.std.proofs.Common.{ℕ, ◌<◌, List, ◌++◌, length, Ok, Err, Result, arith}
use Rattle.std.proofs.lemmas.List.{length-append}
use Rattle.rules.specs.declared.answers.Outcome.{Outcome}
use Rattle.rules.specs.declared.answers.Outcome.TheVariants.{Solved, Nothing, Unfinished}
use Rattle.rules.specs.Tallies.{verdict}
use Rattle.trialfile.specs.declared.fault.SectionFault.TheVariants.{Token, NotAwaited, EndsEarly, GoesOn, OutsideLimits, QubitTooLarge, CheckTooLarge, NotRising, NoMemory}
use Rattle.trialfile.specs.declared.fault.FileFault.{FileFault}
use Rattle.trialfile.specs.declared.fault.FileFault.TheVariants.{TooLong, Section}
use Rattle.trialfile.specs.Contents.{Contents, file_says}
use Rattle.trialfile.proofs.Faulted.{SaidOfFile, files_say}
use Rattle.lines.specs.Lines.{outcome_word, first_line}
use Rattle.filedecode.specs.Printed.{end_of, printed_of, printed}

-- a text that begins with a word
begun : (word rest : List ℕ) → 0 < length word → 0 < length (word ++ rest)
begun word rest h = omega (arith, h, length-append word rest)

worded : (o : Outcome) → 0 < length (outcome_word o)
worded Solved = omega arith
worded Nothing = omega arith
worded Unfinished = omega arith

line_of : (r : Result Contents FileFault) → SaidOfFile r → 0 < length (printed_of r)
line_of (Ok c) h = let v = verdict (end_of c) in begun (first_line v) _ (begun (outcome_word v.outcome) _ (worded v.outcome))
line_of (Err TooLong) h = omega arith
line_of (Err (Section (Token e))) h = omega arith
line_of (Err (Section (NotAwaited s))) h = omega arith
line_of (Err (Section (EndsEarly s))) h = omega arith
line_of (Err (Section (GoesOn s))) h = omega arith
line_of (Err (Section (OutsideLimits s))) h = omega arith
line_of (Err (Section (QubitTooLarge s))) h = omega arith
line_of (Err (Section (CheckTooLarge s))) h = omega arith
line_of (Err (Section (NotRising s))) h = omega arith
line_of (Err (Section NoMemory)) h = absurd h

pub a_line : (file : List ℕ) → 0 < length (printed file)
a_line file = line_of (file_says file) (files_say file)

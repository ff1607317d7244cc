-- What is printed for a trial file, from its bytes to the bytes of the lines; and that it is true of the report that the file states.
use Rattle.std.specs.Prelude.{◌≡◌, ℕ, List, [], map, Some, None, Ok, Err, Option, Result}
use Rattle.rules.specs.Reports.{Report, report}
use Rattle.rules.specs.States.{State, opening}
use Rattle.rules.specs.Tallies.{verdict, byte}
use Rattle.rules.specs.Law.{TrueOf}
use Rattle.trialfile.specs.declared.fault.FileFault.{FileFault}
use Rattle.trialfile.specs.Contents.{Contents, file_says, code_of}
use Rattle.lines.specs.Lines.{verdict_lines, refused_line}
use Rattle.decoding.specs.Running.{run_from}

-- the report that a file states
abbrev pub report_of : Contents → Report
report_of c = report (code_of c) c.lost c.odd

-- the trial of that report on the product code of the file's seed, the first of its tally, as a run with the file's switches leaves it
abbrev pub end_of : Contents → State
end_of c = run_from (code_of c) c.switches (record { trial = opening (code_of c) (report_of c) 1; slip = 1 })

-- the lines of its verdict, and of its flipped qubits as the correction
abbrev pub trial_lines : Contents → List ℕ
trial_lines c = verdict_lines c.rows c.columns (verdict (end_of c)) (map byte (end_of c).flipped)

-- of a refused file the line of its first fault; want of memory, which is none, has no line
abbrev pub line_or_none : Option (List ℕ) → List ℕ
line_or_none (Some l) = l
line_or_none None = []

abbrev pub printed_of : Result Contents FileFault → List ℕ
printed_of (Ok c) = trial_lines c
printed_of (Err e) = line_or_none (refused_line e)

abbrev pub printed : List ℕ → List ℕ
printed file = printed_of (file_says file)

-- the verdict that is printed for an accepted file keeps its promise for the report that the file states, with the printed qubits as the correction
abbrev pub TrueLines : Contents → Type 0
TrueLines c = TrueOf (code_of c) (report_of c) (end_of c) (verdict (end_of c))

abbrev pub TrueOfFile : List ℕ → Type 0
TrueOfFile file = (c : Contents) → file_says file ≡ Ok c → TrueLines c

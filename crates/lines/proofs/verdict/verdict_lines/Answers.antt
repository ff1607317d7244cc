use Rattle.std.proofs.Common.{◌≡◌, ◌≤◌, ◌+◌, ◌*◌, IfOk, length, take, string_bytes, ap, ◌∙◌, arith, rules}
use Rattle.std.proofs.lemmas.Result.{IfOk-weaker}
use Rattle.std.proofs.lemmas.List.{take_min}
use Rattle.lines.specs.Lines.{flip_lines, shown, verdict_lines}
use Rattle.lines.proofs.Lengths.{verdict_short}
use Rattle.lines.proofs.Texts.{in_one, in_pieces}
use Rattle.lines.proofs.verdict.verdict_lines.Goals as goal

told : (c : goal.After-format) → IfOk c.format.result (λ t. string_bytes t ≡ verdict_lines c.args.sizes.rows c.args.sizes.columns c.args.verdict c.args.flips.now)
told c =
    let s = c.args.sizes in
    let v = c.args.verdict in
    let flips = c.args.flips.now in
    let k = c.min.result in
    let first : take k flips ≡ take (shown v.outcome (s.columns * s.columns + s.rows * s.rows)) flips =
    ap (λ j. take j flips) c.min.ensures ∙ take_min c.from-shown.result flips ∙ ap (λ j. take j flips) (c.from-shown.ensures ∙ c.shown.ensures ∙ ap (shown v.outcome) c.qubits.ensures)
    in
    IfOk-weaker c.format.result (λ t. string_bytes t ≡ in_one c.outcome_word-word.result.now v (flip_lines s.rows s.columns (take k flips))) (λ t. string_bytes t ≡ verdict_lines s.rows s.columns v flips)
    (λ t e. e ∙ in_pieces c.outcome_word-word.result.now v s.rows s.columns k flips c.outcome_word-word.ensures first)
    (search rules)

pub returns-clause-lines : goal.returns-clause-lines
returns-clause-lines c = told c

pub returns-clause-short : goal.returns-clause-short
returns-clause-short c =
    let s = c.args.sizes in
    let v = c.args.verdict in
    let flips = c.args.flips.now in
    IfOk-weaker c.format.result (λ t. string_bytes t ≡ verdict_lines s.rows s.columns v flips) (λ t. length (string_bytes t) ≤ 65536)
    (λ t e. omega (arith, ap length e, verdict_short s.rows s.columns v flips s.few_rows s.few_columns (omega arith) (omega arith) (omega arith)))
    (told c)

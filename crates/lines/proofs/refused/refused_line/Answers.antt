use Rattle.std.proofs.Common.{◌≡◌, ◌≤◌, Some, length, string_bytes, sym, ap, ◌∙◌, arith, rules}
use Rattle.std.proofs.lemmas.Result.{IfOk-weaker}
use Rattle.terms.specs.Refusals.{number}
use Rattle.lines.specs.Lines.{refused_at}
use Rattle.lines.proofs.Lengths.{refusal_short}
use Rattle.lines.proofs.refused.refused_line.Goals as goal

pub returns-clause-short : goal.returns-clause-short
returns-clause-short c =
    let n = c.in-Some-Some.number in
    let s = c.in-Some-Some.spot in
    IfOk-weaker c.format.result (λ t. Some (string_bytes t) ≡ refused_at (Some n) (Some s)) (λ t. length (string_bytes t) ≤ 65536)
    (λ t e. refusal_short c.args.fault n s (string_bytes t) (sym (ap number c.refusal.ensures) ∙ sym c.number.ensures ∙ c.in-Some-Some.is-0) (omega arith) e)
    (search rules)

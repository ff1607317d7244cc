use Rattle.std.proofs.Common.{subst}
use Rattle.meaning.specs.Meaning.{Meaning}
use Rattle.decoding.specs.Running.{decoded, Decodes, TrueRun}
use Rattle.decoding.proofs.whole.decode.Goals as goal

pub returns : goal.returns
returns g c =
    let t = c.args.tally.now.counts in
    let lost = c.args.report.lost.now in
    let odds = c.args.report.odd.now in
    let w = c.args.switches in
    let b = c.args.buffer.now in
    let M = c.in_ok-table.ensures.0 in
    record {
      does = subst (λ (m : Meaning). Decodes c.decode_on.result t b c.decode_on.new.tally.counts c.decode_on.new.buffer (decoded m t lost odds w b)) M c.decode_on.ensures.does;
      truth = subst (λ (m : Meaning). TrueRun m t lost odds w c.decode_on.result) M c.decode_on.ensures.truth;
    }

use Rattle.std.proofs.Common.{◌≡◌, rules}
use Rattle.product.specs.OfProduct.{meaning_of}
use Rattle.trialfile.specs.Contents.{contents_of}
use Rattle.filedecode.proofs.Accepted.{Given, given, wants_memory, tells_true, answers}
use Rattle.filedecode.proofs.verdict_of.Goals as goal

pub unreachable-requires : goal.unreachable-requires
unreachable-requires c =
    let k = contents_of c.args.file.now in
    let g : Given = record { code = meaning_of c.code_of-code.result; tally = c.new.result.counts; lost = c.deref.result.now; odds = c.deref-2.result.now } in
    let same : g ≡ given k = λ i. record { code = c.code_of-code.ensures i; tally = c.new.ensures i; lost = c.deref.ensures.value i; odds = c.deref-2.ensures.value i } in
    let e = wants_memory k c.requires.within c.args.flips.now c.requires.room g same c.in-Err.field-0 c.decode.new.tally.counts c.decode.new.buffer c.in-Err.ensures.does in
    search (rules, e)

pub returns-in-Ok-clause-truth : goal.returns-in-Ok-clause-truth
returns-in-Ok-clause-truth c =
    let k = contents_of c.args.file.now in
    let g : Given = record { code = meaning_of c.code_of-code.result; tally = c.new.result.counts; lost = c.deref.result.now; odds = c.deref-2.result.now } in
    let same : g ≡ given k = λ i. record { code = c.code_of-code.ensures i; tally = c.new.ensures i; lost = c.deref.ensures.value i; odds = c.deref-2.ensures.value i } in
    tells_true k c.requires.within c.args.flips.now c.requires.room g same c.in-Ok.verdict c.in-Ok.ensures.truth

pub returns-in-Ok-clause-answer : goal.returns-in-Ok-clause-answer
returns-in-Ok-clause-answer c =
    let k = contents_of c.args.file.now in
    let g : Given = record { code = meaning_of c.code_of-code.result; tally = c.new.result.counts; lost = c.deref.result.now; odds = c.deref-2.result.now } in
    let same : g ≡ given k = λ i. record { code = c.code_of-code.ensures i; tally = c.new.ensures i; lost = c.deref.ensures.value i; odds = c.deref-2.ensures.value i } in
    (answers k c.requires.within c.args.flips.now c.requires.room g same c.in-Ok.verdict c.decode.new.tally.counts c.decode.new.buffer c.in-Ok.ensures.does).0

pub returns-in-Ok-clause-correction : goal.returns-in-Ok-clause-correction
returns-in-Ok-clause-correction c =
    let k = contents_of c.args.file.now in
    let g : Given = record { code = meaning_of c.code_of-code.result; tally = c.new.result.counts; lost = c.deref.result.now; odds = c.deref-2.result.now } in
    let same : g ≡ given k = λ i. record { code = c.code_of-code.ensures i; tally = c.new.ensures i; lost = c.deref.ensures.value i; odds = c.deref-2.ensures.value i } in
    (answers k c.requires.within c.args.flips.now c.requires.room g same c.in-Ok.verdict c.decode.new.tally.counts c.decode.new.buffer c.in-Ok.ensures.does).1

use Rattle.std.proofs.Common.{◌≡◌, ℕ, List, Ok, Err, Result, replicate, ◌⊎◌, inl, inr, sym, ap, ap₂, ◌∙◌}
use Rattle.terms.proofs.Answering.{answered_ok}
use Rattle.terms.specs.declared.refusal.Refusal.{Refusal}
use Rattle.terms.specs.declared.refusal.Refusal.TheVariants.{NoMemory}
use Rattle.meaning.specs.Meaning.{Meaning, qubits}
use Rattle.meaning.specs.Product.{product_code}
use Rattle.product.specs.Seed.{seed_fault, seed_of}
use Rattle.rules.specs.declared.answers.Verdict.{Verdict}
use Rattle.rules.specs.Tallies.{Tally}
use Rattle.table.specs.OfTable.{meaning_of}
use Rattle.decoding.specs.Running.{decoded, Decodes}
use Rattle.runs_export.specs.Chosen.{verdict_on, verdict_if}
use Rattle.runs_export.proofs.decoded_times.Goals as goal

-- the answer alone
answer_of : (r : Result Verdict Refusal) (t : Tally) (b : List ℕ) (u : Tally) (later : List ℕ) (rule : Result Verdict Refusal × (Tally × List ℕ)) → Decodes r t b u later rule → (r ≡ Err NoMemory) ⊎ (r ≡ rule.0)
answer_of (Ok v) t b u later rule h = inr (ap (λ (x : Result Verdict Refusal × (Tally × List ℕ)). x.0) h)
answer_of (Err e) t b u later rule (inl h) = inl (ap (λ (f : Refusal). Err f) h.0)
answer_of (Err e) t b u later rule (inr h) = inr (ap (λ (x : Result Verdict Refusal × (Tally × List ℕ)). x.0) h)

pub loop-init : goal.loop-init
loop-init c = tt

pub loop-preserved : goal.loop-preserved
loop-preserved c = tt

pub returns : goal.returns
returns c =
    let lost = c.args.report.lost.now in
    let odds = c.args.report.odd.now in
    let w = c.args.switches in
    let M : Meaning = meaning_of c.in_ok-table.table in
    let s = c.args.seed in
    let does = answer_of c.decode_on-2.result c.new-2.result.counts c.as_mut_slice-2.result.now c.decode_on-2.new.tally.counts c.decode_on-2.new.buffer (decoded M c.new-2.result.counts lost odds w c.as_mut_slice-2.result.now) c.decode_on-2.ensures.does in
    let N = product_code s.rows s.columns (seed_of s.rows s.columns s.ones.now) in
    let zeros : c.as_mut_slice-2.result.now ≡ replicate (qubits M) 0 =
    c.as_mut_slice-2.ensures.value ∙ c.in_ok-last.ensures.items_if_clones_equal (λ y e. e) ∙ ap (λ n. replicate n 0) c.qubits-qubits.ensures in
    let told : (decoded M c.new-2.result.counts lost odds w c.as_mut_slice-2.result.now).0 ≡ verdict_on M lost odds w =
    ap₂ (λ t b. (decoded M t lost odds w b).0) c.new-2.ensures zeros in
    -- a code was made, so the seed is not refused
    let made = answered_ok c.in_ok-code.code (seed_fault s.rows s.columns s.ones.now) _ c.in_ok-code.ensures in
    elim does [
      | inl n ↦ inl n
      | inr e ↦ inr (e ∙ told ∙ ap (λ m. verdict_on m lost odds w) (c.in_ok-table.ensures.0 ∙ made.1.0) ∙ sym (ap (λ f. verdict_if f N lost odds w) made.0))
    ]

use Rattle.std.proofs.Common.{◌≡◌, ℕ, not, None, Ok, Result, length, drop, vec_items, sym, ap, ◌∙◌, rules, arith}
use Rattle.terms.specs.declared.refusal.Refusal.{Refusal}
use Rattle.rules.specs.Clusters.{cluster, connecting, internal}
use Rattle.rules.proofs.Bars.{passed}
use Rattle.table.specs.OfTable.{meaning_of}
use Rattle.upkeep.specs.Statuses.{erased_of}
use Rattle.marks.specs.Marks.{scratch_fault, is_marked, cleared}
use Rattle.marks.proofs.Restored.{restores}
use Rattle.sets.specs.Sets.{elements}
use Rattle.walking.specs.Found.{told}
use Rattle.walking.specs.Seen.{seen}
use Rattle.walking.specs.Walked.{Findings, suits, walk_bars, walked}
use Rattle.walking.specs.declared.found.Connecting.{Connecting}
use Rattle.walking.proofs.Lent.{no_fault, lent_clear, long_enough, none_marked}
use Rattle.walking.proofs.walker.Walker.walk.Goals as goal

pub find-requires-clause-unmarked : goal.find-requires-clause-unmarked
find-requires-clause-unmarked c =
    let n = c.qubits-qubits.result in
    let clean : scratch_fault n c.args.scratch.now ≡ None = no_fault _ _ c.in_ok-scratch_fault.ensures in
    let began = c.begin-marks.ensures in
    record {
      all = began.size ∙ c.qubits-qubits.ensures;
      long = omega (arith, long_enough n c.args.scratch.now clean, began.size, ap length began.bytes);
      unmarked = λ k. ap (λ x. is_marked x c.begin-marks.result.scratch.now k) began.size ∙ ap (λ x. is_marked n x k) began.bytes ∙ none_marked n c.args.scratch.now clean k;
    }

pub returns-clause-does : goal.returns-clause-does
returns-clause-does c =
    let clean : scratch_fault c.qubits-qubits.result c.args.scratch.now ≡ None = no_fault _ _ c.in_ok-scratch_fault.ensures in
    let t = c.self.inside.table in
    let M = meaning_of t.now in
    let st = c.args.status.now in
    let cl = c.args.closed.now in
    let q = c.args.start in
    let sc = c.args.scratch.now in
    let s = seen (erased_of st) cl in
    let K = cluster M s q in
    let lent = lent_clear M sc (ap (λ (n : ℕ). scratch_fault n sc) (sym c.qubits-qubits.ensures) ∙ clean) in
    let yes : not (suits M st cl q) ≡ _ = ap not (sym c.suits.ensures ∙ c.if-not-suits.false) in
    let found : Result Connecting Refusal × Findings = (Ok (told (connecting M s q K)), record { table = t.now; members = elements K; internal = elements (internal M s q K) }) in
    let view : Findings = record { table = t.now; members = vec_items c.self.inside.ground.members; internal = vec_items c.self.inside.ground.internal } in
    let same : ◌≡◌ {A = Result Connecting Refusal × Findings} (Ok c.find.result, record { table = t.now; members = vec_items c.find.new.ground.members; internal = vec_items c.find.new.ground.internal }) found =
    (λ i. (Ok (c.find.ensures.connecting i), record { table = t.now; members = c.find.ensures.members i; internal = c.find.ensures.internal i })) in
    same ∙ sym (passed (walk_bars M st cl q sc) view found (lent.0, (lent.1, (yes, tt)))) ∙ ap (walked st cl q sc) c.self.view_is

pub returns-clause-scratch : goal.returns-clause-scratch
returns-clause-scratch c =
    let n = c.qubits-qubits.result in
    let before = c.args.scratch.now in
    let clean : scratch_fault n before ≡ None = no_fault _ _ c.in_ok-scratch_fault.ensures in
    let began = c.begin-marks.ensures in
    let kept = c.find.ensures.same in
    let marked = c.find.new.marks.scratch.now in
    let size : c.find.new.marks.qubits ≡ n = kept.size ∙ began.size in
    let rest : drop n marked ≡ drop n before = ap (λ x. drop x marked) (sym size) ∙ kept.beyond ∙ ap (λ x. drop x c.begin-marks.result.scratch.now) began.size ∙ ap (drop n) began.bytes in
    let back : cleared c.find.new.marks.qubits marked ≡ before = ap (λ x. cleared x marked) size ∙ restores n before marked clean (kept.long ∙ ap length began.bytes) rest in
    let lender = c.find.ensures.lender ∙ began.lender in
    search (rules, back, lender)

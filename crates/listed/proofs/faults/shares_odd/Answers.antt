use Rattle.std.proofs.Common.{◌≡◌, eqb, ◌%◌, count_by, rules, ap, ◌∙◌}
use Rattle.std.specs.List.{list_any}
use Rattle.std.proofs.iter.runs.Made.{chains}
use Rattle.listed.proofs.Shares.{odd_count}
use Rattle.listed.proofs.faults.shares_odd.Goals as goal

pub returns : goal.returns
returns c =
    let told : c.count.result ≡ count_by (λ q. list_any (λ p. eqb p q) c.args.generator.now) c.args.check.now = search (rules, chains) in
    ap (λ n. eqb (n % 2) 1) told ∙ odd_count c.args.generator.now c.args.check.now

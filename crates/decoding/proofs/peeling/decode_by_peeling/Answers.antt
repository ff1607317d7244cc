use Rattle.std.proofs.Common.{◌≡◌, ℕ, ◌+◌, get_or, drop, Ok, Err, Result, sym, refl, ap, ◌∙◌, subst, inl, arith}
use Rattle.std.proofs.lemmas.List.{at_drop_more, at_drop_all}
use Rattle.std.proofs.lemmas.Result.{err_from_is_err_and}
use Rattle.terms.specs.declared.refusal.Refusal.{Refusal}
use Rattle.meaning.specs.Meaning.{Meaning}
use Rattle.rules.specs.declared.answers.Verdict.{Verdict}
use Rattle.rules.specs.Calls.{peel}
use Rattle.rules.specs.CallLists.{after}
use Rattle.rules.specs.Law.{TrueOf}
use Rattle.rules.specs.Reports.{report}
use Rattle.rules.specs.States.{State}
use Rattle.rules.specs.Tallies.{Closed, Opened, open_trial, close}
use Rattle.rules.proofs.Bars.{not_ok}
use Rattle.table.specs.OfTable.{meaning_of}
use Rattle.table.specs.declared.Table.{Table}
use Rattle.trial.specs.Closing.{TellsTruth}
use Rattle.trial.specs.Opening.{Opens, opened_of}
use Rattle.decoding.specs.Peeling.{peels, decided, Decides, TrueAfter}
use Rattle.decoding.proofs.Decided.{pair, failed, finished, is_closed, one_opened}
use Rattle.decoding.proofs.peeling.decode_by_peeling.Goals as goal

pub returns-in_err-table : goal.returns-in_err-table
returns-in_err-table g c =
    let M = g.C.Code.meaning c.args.code.now in
    let t = c.args.tally.now.counts in
    let lost = c.args.report.lost.now in
    let odds = c.args.report.odd.now in
    let checks = c.args.checks.now in
    let p = err_from_is_err_and c.from_residual.result c.from_residual.ensures.1 in
    record {
      does = subst (λ (r : Result Verdict Refusal). Decides r t t (decided M t lost odds checks)) (sym p.1) (inl (p.2 ∙ c.in_err-table.ensures, refl));
      truth = subst (λ (r : Result Verdict Refusal). TrueAfter M t lost odds checks r) (sym p.1) tt;
    }

pub returns-in_err-trial : goal.returns-in_err-trial
returns-in_err-trial g c =
    let M = g.C.Code.meaning c.args.code.now in
    let t = c.args.tally.now.counts in
    let u = c.open.new.tally.counts in
    let lost = c.args.report.lost.now in
    let odds = c.args.report.odd.now in
    let checks = c.args.checks.now in
    let p = err_from_is_err_and c.from_residual-in_err-trial.result c.from_residual-in_err-trial.ensures.1 in
    let refused = subst (λ (m : Meaning). Opens (Err c.in_err-trial.field-0.0) t u (open_trial m t lost odds)) c.in_ok-table.ensures.0 c.in_err-trial.ensures.does in
    record {
      does = subst (λ (r : Result Verdict Refusal). Decides r t u (decided M t lost odds checks)) (sym p.1)
          (subst (λ (f : Refusal). Decides (Err f) t u (decided M t lost odds checks)) (sym p.2) (failed M t lost odds checks c.in_err-trial.field-0.0 u refused));
      truth = subst (λ (r : Result Verdict Refusal). TrueAfter M t lost odds checks r) (sym p.1) tt;
    }

pub loop-c-init : goal.loop-c-init
loop-c-init g c = record { leads = refl; same = ap (λ (t : Table). meaning_of t) c.in_ok-trial.ensures.table ∙ c.in_ok-table.ensures.0 }

pub loop-c-preserved : goal.loop-c-preserved
loop-c-preserved g c =
    let M = g.C.Code.meaning c.args.code.now in
    let s = c.loop-c.trial.state in
    let n = c.in_ok-trial.field-0.slip.number in
    let checks = c.args.checks.now in
    let i = c.loop-c.c-index in
    let does = ap (λ (r : Result ℕ Refusal × State). r.1) c.peel.ensures.does ∙ ap (λ (m : Meaning). (peel m s n (get_or checks i 0)).1) c.loop-c.invariant.same in
    record {
      leads = ap (λ (x : State). after M x (peels n (drop (i + 1) checks))) does ∙ sym (at_drop_more (λ l. after M s (peels n l)) checks i 0 c.loop-c-test.true) ∙ c.loop-c.invariant.leads;
      same = ap (λ (t : Table). meaning_of t) c.peel.ensures.table ∙ c.loop-c.invariant.same;
    }

pub unreachable-requires : goal.unreachable-requires
unreachable-requires g c =
    let M = g.C.Code.meaning c.args.code.now in
    let t = c.args.tally.now.counts in
    let u = c.open.new.tally.counts in
    let lost = c.args.report.lost.now in
    let odds = c.args.report.odd.now in
    let checks = c.args.checks.now in
    let o = opened_of c.in_ok-trial.field-0 in
    let e = subst (λ (m : Meaning). open_trial m t lost odds ≡ (Ok o, u)) c.in_ok-table.ensures.0 (pair c.in_ok-trial.ensures.does) in
    let end = sym (at_drop_all (λ l. after M c.loop-c.trial.state (peels o.slip l)) checks c.loop-c.c-index (omega arith)) ∙ c.loop-c.invariant.leads in
    let answer = ap (λ (x : Closed). x.answer) c.in-Err.ensures.does ∙ ap (λ (s : State). (close s o.slip u).answer) end in
    not_ok _ _ (answer ∙ (is_closed M t lost odds checks c.args.tally.now.balanced o u e).0)

pub returns : goal.returns
returns g c =
    let M = g.C.Code.meaning c.args.code.now in
    let t = c.args.tally.now.counts in
    let u = c.open.new.tally.counts in
    let lost = c.args.report.lost.now in
    let odds = c.args.report.odd.now in
    let checks = c.args.checks.now in
    let o = opened_of c.in_ok-trial.field-0 in
    let e = subst (λ (m : Meaning). open_trial m t lost odds ≡ (Ok o, u)) c.in_ok-table.ensures.0 (pair c.in_ok-trial.ensures.does) in
    let end = sym (at_drop_all (λ l. after M c.loop-c.trial.state (peels o.slip l)) checks c.loop-c.c-index (omega arith)) ∙ c.loop-c.invariant.leads in
    let v = c.in-Ok.verdict in
    let closed = c.in-Ok.ensures.does in
    let told = subst (λ (m : Meaning). TellsTruth m c.loop-c.trial.state (Ok v)) c.loop-c.invariant.same c.in-Ok.ensures.truth in
    let true-here = told t u lost odds o e (peels o.slip checks) (sym end) in
    record {
      does = finished M t lost odds checks o u e v c.close.new.tally.counts
          (ap (λ (x : Closed). x.answer) closed ∙ ap (λ (s : State). (close s o.slip u).answer) end)
          (ap (λ (x : Closed). x.tally) closed ∙ ap (λ (s : State). (close s o.slip u).tally) end);
      truth = λ p w f. subst (λ (x : Opened). TrueOf M (report M lost odds) (after M x.trial (peels x.slip checks)) v) (one_opened M t lost odds o p u w e f)
          (subst (λ (s : State). TrueOf M (report M lost odds) s v) end true-here);
    }

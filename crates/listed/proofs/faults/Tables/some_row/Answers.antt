use Rattle.std.proofs.Common.{rules, tests, of_calls, ◌≡◌, List, ℕ, Bor, refl}
use Rattle.std.proofs.lemmas.Iterator.Consumers.{YieldsList-from_chain, YieldsList-from_first}
use Rattle.std.proofs.lemmas.Iterator.Search.{any_from_yields_List}
use Rattle.listed.proofs.faults.Tables.some_row.Goals as goal

pub returns : goal.returns
returns g c p h =
    any_from_yields_List {v = λ (x : Bor (List ℕ)). x.now} p _ _ c.any.result c.any.ensures.ran
    (YieldsList-from_chain (YieldsList-from_first (λ (x : Bor (List ℕ)). x.now) (λ (rows : List (List ℕ)). rows) c.args.self.now.checks.now cc) (YieldsList-from_first (λ (x : Bor (List ℕ)). x.now) (λ (rows : List (List ℕ)). rows) c.args.self.now.generators.now cc) c.chain.ensures.first_done c.chain.ensures.second_done)
    (λ x b q k. let e : b ≡ p x.now = h x.now b record { shown = x; shows = refl; says = search (rules, tests, of_calls) } in search (rules, tests, of_calls))

use Rattle.std.proofs.Common.{◌≡◌, ℕ, Option, Some, None, Ok, Err, Bool, not, ◌&&◌, List, length, ap, ◌∙◌, sym, subst}
use Rattle.std.proofs.lemmas.Result.{err_from_is_err_and}
use Rattle.terms.specs.Answering.{Answers}
use Rattle.terms.specs.declared.refusal.Refusal.{Refusal}
use Rattle.sets.specs.Sets.{elements, empty, size, join, less, meets, holders}
use lib.ListN.{length-map}
use Rattle.sets.proofs.Numbers.{length_elements}
use Rattle.sets.proofs.Sets.{length_over}
use Rattle.meaning.specs.Meaning.{Meaning}
use Rattle.rules.specs.Systems.{solutions}
use Rattle.elimination.specs.Calls.{too_many}
use Rattle.table.specs.OfTable.{meaning_of}
use Rattle.systems.specs.Stated.{Stated}
use Rattle.systems.proofs.Touched.{join_empty}
use Rattle.trial.specs.Solving.{SolvedOver}
use Rattle.trial.proofs.trial.solving.solve_touched.Goals as goal

answered : {X Y : Type 0} (x : X) (y : Y) (f : Option Refusal) (P : X → Type 0) (Q : Y → Type 0) → Answers (Ok x) f P → (P x → Q y) → Answers (Ok y) f Q
answered x y None P Q a h = h a
answered x y (Some f) P Q a h = a

refused : {X Y : Type 0} (e : Refusal) (f : Option Refusal) (P : X → Type 0) (Q : Y → Type 0) → Answers {X = X} (Err e) f P → Answers {X = Y} (Err e) f Q
refused e None P Q a = a
refused e (Some f) P Q a = a

many : (k : List Bool) (l : List ℕ) → elements k ≡ l → too_many (size k) ≡ too_many (length l)
many k l e = ap too_many (sym (length_elements 0 k) ∙ ap length e)

pub returns-in_err-begin : goal.returns-in_err-begin
returns-in_err-begin c k e closed odds =
    let p = err_from_is_err_and c.from_residual.result c.from_residual.ensures.1 in
    let P : Unit {0} → Type 0 = λ _. (M : Meaning) (odds : List Bool) → length odds ≡ length M.checks → Stated c.begin.new.self M k (empty (length M.checks)) odds in
    rw (p.1, p.2) (refused {X = Unit {0}} {Y = Option ℕ} _ _ P _ (subst (λ (f : Option Refusal). Answers {X = Unit {0}} (Err c.in_err-begin.field-0.0) f P) (many k _ e) (c.in_err-begin.ensures.begun k e)))

pub returns : goal.returns
returns c k e closed odds =
    let M = meaning_of c.args.table.now in
    let P : Unit {0} → Type 0 = λ _. (M : Meaning) (odds : List Bool) → length odds ≡ length M.checks → Stated c.begin.new.self M k (empty (length M.checks)) odds in
    answered {X = Unit {0}} {Y = Option ℕ} tt c.solve.result (too_many (length c.args.qubits.now)) P (λ o. SolvedOver c.solve.new.self k (solutions M.checks k (less (holders M.checks k) c.args.closed.now) c.args.odd.now) o)
    (subst (λ (f : Option Refusal). Answers {X = Unit {0}} (Ok tt) f P) (many k _ e) (c.in_ok-begin.ensures.begun k e))
    (λ (p : P tt).
    let T = less (holders M.checks k) c.args.closed.now in
    let all : join (empty (length M.checks)) T ≡ T =
    join_empty (length M.checks) T (length_over (λ x y. x && not y) (holders M.checks k) c.args.closed.now (length M.checks) (length-map M.checks (λ c. meets c k)) closed) in
    let added = subst (λ (m : List Bool). Stated c.add_touched.new.self M k m c.args.odd.now) all (c.add_touched.ensures k (empty (length M.checks)) closed (p M c.args.odd.now odds)) in
    let solved = c.solve.ensures.found M k _ _ added in
    (solved.0.unknowns, solved.1))

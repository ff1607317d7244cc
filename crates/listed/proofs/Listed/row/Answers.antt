use Rattle.std.proofs.Common.{◌≡◌, ℕ, ◌<◌, ◌≤◌, true, false, ltb, List, [], length, get_or, vec_items, Some, None, Option, MatchOption, Bor, arith, lt-ltb, le-ltb}
use lib.ListN.{length-map}
use Rattle.std.specs.List.{HoldsAt}
use Rattle.sets.specs.Sets.{marks}
use Rattle.listed.specs.OfListed.{sides_of, meaning_of, told_of}
use Rattle.listed.proofs.Listed.row.Goals as goal

-- a row that is there, of as many as the code has
found : (rows : List (List ℕ)) (k n : ℕ) (o : Option (Bor (List ℕ))) → n ≡ length rows → MatchOption o (length rows ≤ k) (λ r. (k < length rows) × HoldsAt (λ row. r.now ≡ row) rows k)
    → MatchOption o (ltb k n ≡ false) (λ r. (ltb k n ≡ true) × (r.now ≡ get_or rows k []))
found rows k n (Some r) e h = (lt-ltb k n (omega (arith, e, h.0)), h.1 [])
found rows k n None e h = le-ltb k n (omega (arith, e, h))

pub returns-in-Check : goal.returns-in-Check
unfolding meaning_of told_of
returns-in-Check c =
    let code = c.args.self.now in
    rw c.in-Check.is (found code.checks c.in-Check.k _ c.get.result (length-map code.checks (marks (length (sides_of (vec_items code.sides))))) c.get.ensures.3)

pub returns-in-Generator : goal.returns-in-Generator
unfolding meaning_of told_of
returns-in-Generator c =
    let code = c.args.self.now in
    rw c.in-Generator.is (found code.generators c.in-Generator.k _ c.get-in-Generator.result (length-map code.generators (marks (length (sides_of (vec_items code.sides))))) c.get-in-Generator.ensures.3)

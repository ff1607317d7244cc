use Rattle.std.proofs.Common.{◌≡◌, ℕ, List, ◌∙◌, ◌/◌, ◌%◌, [], ◌++◌, codes, append_assoc, rules}
use Rattle.std.specs.List.{flat_map}
use Rattle.std.proofs.Output.{has_written_append, has_written_of_eq}
use Rattle.terms.specs.declared.row.Row.{Row}
use Rattle.naming.specs.Lines.{name, word, row_of, told_qubit, row_line}
use Rattle.naming.proofs.Joins.{joined_counting_more}
use Rattle.naming.proofs.lines.RowsDisplay.fmt.Goals as goal

pub loop-k-preserved : goal.loop-k-preserved
loop-k-preserved g c p =
    let r = c.args.self.now in
    let k = c.loop-k.k in
    let told = g.C.Code.told r.code.now in
    let line : List ℕ → Row → List ℕ = λ w x. name w (k / r.line) (k % r.line) k [] ++ (codes " :" ++ (flat_map told_qubit (told x) ++ codes "\n")) in
    let is : line (word r.kind) (row_of r.kind k) ≡ row_line told r.kind r.line k = simp append_assoc in
    has_written_of_eq _ _ _ _ _ (joined_counting_more (row_line told r.kind r.line) k (line c.word.result.now c.row.result) ((λ i. line (c.word.ensures i) (c.row.ensures i)) ∙ is))
    (has_written_append _ _ _ _ (line c.word.result.now c.row.result) _ (c.loop-k.invariant p) (search rules))

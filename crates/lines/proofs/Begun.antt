-- The lines of flipped qubits, one byte after the other.
use Rattle.std.proofs.Common.{◌≡◌, ℕ, suc, ◌+◌, ◌<◌, ◌≤◌, Bool, true, false, cond, eqb, List, [], ◌∷◌, ◌++◌, map, length, get_or, drop, flat_map, sym, refl, ap, ◌∙◌, add-one, append_assoc, append-nil}
use Rattle.std.proofs.lemmas.List.{drop_all}
use Rattle.std.proofs.Math.Seq.{drop-cons}
use Rattle.sets.specs.Sets.{elements_from}
use Rattle.lines.specs.Lines.{flip_line, flip_lines}

-- the lines of the bytes from the qubit q on
abbrev pub lines_from : ℕ → ℕ → ℕ → List ℕ → List ℕ
lines_from r n q flips = flat_map (flip_line r n) (elements_from q (map (λ b. eqb b 1) flips))

-- what has been written, and that the rest is still to be written
pub record Begun (r n q : ℕ) (flips text : List ℕ) : Type 0 where
  pub rest : text ++ lines_from r n q (drop q flips) ≡ flip_lines r n flips

pub none_yet : (r n : ℕ) (flips : List ℕ) → Begun r n 0 flips []
none_yet r n flips = record { rest = refl }

line_or_not : (r n q : ℕ) (b : ℕ) (flips : List ℕ) (t : Bool) → eqb b 1 ≡ t → lines_from r n q (b ∷ flips) ≡ cond t (flip_line r n q) [] ++ lines_from r n (q + 1) flips
line_or_not r n q b flips true e = ap (λ t. flat_map (flip_line r n) (elements_from q (t ∷ map (λ b. eqb b 1) flips))) e
line_or_not r n q b flips false e = ap (λ t. flat_map (flip_line r n) (elements_from q (t ∷ map (λ b. eqb b 1) flips))) e

one_more : (r n q : ℕ) (flips : List ℕ) (t : Bool) → q < length flips → eqb (get_or flips q 0) 1 ≡ t → lines_from r n q (drop q flips) ≡ cond t (flip_line r n q) [] ++ lines_from r n (q + 1) (drop (q + 1) flips)
one_more r n q flips t h e =
    ap (lines_from r n q) (drop-cons flips q 0 h)
    ∙ line_or_not r n q (get_or flips q 0) (drop (suc q) flips) t e
    ∙ ap (λ k. cond t (flip_line r n q) [] ++ lines_from r n (q + 1) (drop k flips)) (sym (add-one q))

pub flipped_more : (r n q : ℕ) (flips text more : List ℕ) → Begun r n q flips text → q < length flips → eqb (get_or flips q 0) 1 ≡ true → more ≡ flip_line r n q → Begun r n (q + 1) flips (text ++ more)
flipped_more r n q flips text more b h e m =
    record { rest = append_assoc text more (lines_from r n (q + 1) (drop (q + 1) flips)) ∙ ap (λ l. text ++ (l ++ lines_from r n (q + 1) (drop (q + 1) flips))) m ∙ ap (λ l. text ++ l) (sym (one_more r n q flips true h e)) ∙ b.rest }

pub other_more : (r n q : ℕ) (flips text : List ℕ) → Begun r n q flips text → q < length flips → eqb (get_or flips q 0) 1 ≡ false → Begun r n (q + 1) flips text
other_more r n q flips text b h e = record { rest = ap (λ l. text ++ l) (sym (one_more r n q flips false h e)) ∙ b.rest }

pub all_written : (r n q : ℕ) (flips text : List ℕ) → Begun r n q flips text → length flips ≤ q → text ≡ flip_lines r n flips
all_written r n q flips text b h = sym (append-nil text) ∙ ap (λ l. text ++ lines_from r n q l) (sym (drop_all q flips h)) ∙ b.rest

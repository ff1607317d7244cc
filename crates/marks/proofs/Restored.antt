-- Bytes that are zero anyway.
use Rattle.std.proofs.Common.{◌≡◌, ℕ, min, false, not, eqb, ltb, List, [], ◌∷◌, ◌++◌, length, take, drop, replicate, None, sym, refl, ap, ◌∙◌, length-take, eqb-true}
use Rattle.std.proofs.lemmas.List.{take-append-drop}
use Rattle.std.proofs.lemmas.Bool.{or_parts, not-false}
use Rattle.terms.specs.declared.refusal.Refusal.TheVariants.{BufferTooShort, ScratchNotZero}
use Rattle.terms.proofs.Answering.{test_fails}
use Rattle.rules.specs.Refusing.{some_nonzero}
use Rattle.marks.specs.Marks.{scratch_fault, Restores}

-- what the absence of a fault says
clean : (n : ℕ) (bytes : List ℕ) → scratch_fault n bytes ≡ None → some_nonzero (take n bytes) ≡ false
clean n bytes h = (test_fails (some_nonzero (take n bytes)) ScratchNotZero None (test_fails (ltb (length bytes) n) BufferTooShort _ h).1).0

-- bytes of which none is not zero
zeros : (l : List ℕ) → some_nonzero l ≡ false → l ≡ replicate (length l) 0
zeros [] e = refl
zeros (x ∷ l) e =
    let o = or_parts (not (eqb x 0)) (some_nonzero l) e in
    let z : x ≡ 0 = eqb-true x 0 (not-false (eqb x 0) o.0) in
    let r : l ≡ replicate (length l) 0 = zeros l o.1 in
    cc

pub restores : Restores
restores n before marked h same rest =
    let front : take n before ≡ replicate (min n (length before)) 0 = zeros (take n before) (clean n before h) ∙ ap (λ k. replicate k 0) (length-take n before) in
    ap (λ k. replicate (min n k) 0 ++ drop n marked) same
    ∙ ap (λ l. replicate (min n (length before)) 0 ++ l) rest
    ∙ ap (λ l. l ++ drop n before) (sym front)
    ∙ take-append-drop n before

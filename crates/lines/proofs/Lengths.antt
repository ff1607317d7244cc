-- The lines fit a buffer of 65,536 bytes.
use Rattle.std.proofs.Common.{◌≡◌, ℕ, ◌+◌, ◌-◌, ◌*◌, ◌/◌, ◌%◌, ◌^◌, ◌<◌, ◌≤◌, Bool, true, false, List, [], ◌∷◌, ◌++◌, map, length, take, flat_map, Some, Option, codes, decimal, eqb, ltb, if◌then◌else◌, ap, arith, length-append, lit<}
use Rattle.std.proofs.Math.Nat.{div-le_self, mod-le}
use Rattle.std.proofs.lemmas.Fmt.{length-decimal-le}
use Rattle.std.proofs.lemmas.List.{length-map, length-take}
use Rattle.sets.specs.Sets.{elements_from}
use Rattle.rules.specs.declared.answers.Outcome.{Outcome}
use Rattle.rules.specs.declared.answers.Outcome.TheVariants.{Solved, Nothing, Unfinished}
use Rattle.rules.specs.declared.answers.Verdict.{Verdict}
use Rattle.tokens.specs.declared.section.Section as section
use Rattle.tokens.specs.declared.section.Section.TheVariants.{Seed, Ones, Erased, Odd, Stages, End, File}
use Rattle.tokens.specs.declared.section.Spot.{Spot}
use Rattle.tokens.specs.Tokens.{word_of}
use Rattle.terms.specs.Refusals.{number}
use Rattle.trialfile.specs.declared.fault.SectionFault.TheVariants.{Token, NotAwaited, EndsEarly, GoesOn, OutsideLimits, QubitTooLarge, CheckTooLarge, NotRising, NoMemory}
use Rattle.trialfile.specs.declared.fault.FileFault.{FileFault}
use Rattle.trialfile.specs.declared.fault.FileFault.TheVariants.{TooLong, Section}
use Rattle.trialfile.specs.Faults.{refusal_of}
use Rattle.naming.specs.Lines.{name}
use Rattle.lines.specs.Lines.{outcome_word, first_line, flip_line, flip_lines, shown, verdict_lines, refused_at}

word_short : (a : section.Section) → length (word_of a) ≤ 6
word_short Seed = omega arith
word_short Ones = omega arith
word_short Erased = omega arith
word_short Odd = omega arith
word_short Stages = omega arith
word_short End = omega arith
word_short File = omega arith

low : (m n : ℕ) → m < 100 → ◌≡◌ {A = Option ℕ} (Some m) (Some n) → n < 100
low m n h e = let is : m ≡ n = cc in omega arith

number_low : (e : FileFault) (n : ℕ) → number (refusal_of e) ≡ Some n → n < 100
number_low TooLong n h = low 11 n (omega arith) h
number_low (Section (Token e)) n h = low 9 n (omega arith) h
number_low (Section (NotAwaited s)) n h = low 9 n (omega arith) h
number_low (Section (EndsEarly s)) n h = low 10 n (omega arith) h
number_low (Section (GoesOn s)) n h = low 10 n (omega arith) h
number_low (Section (OutsideLimits s)) n h = low 7 n (omega arith) h
number_low (Section (QubitTooLarge s)) n h = low 1 n (omega arith) h
number_low (Section (CheckTooLarge s)) n h = low 2 n (omega arith) h
number_low (Section (NotRising s)) n h = low 6 n (omega arith) h
number_low (Section NoMemory) n h = cc

pub refusal_short : (e : FileFault) (n : ℕ) (s : Spot) (text : List ℕ) → number (refusal_of e) ≡ Some n → s.place < 2 ^ 64 → Some text ≡ refused_at (Some n) (Some s) → length text ≤ 65536
refusal_short f n s text h k e =
    let m = number_low f n h in
    let a = length-decimal-le 2 n (lit< tt) (omega arith) (omega arith) in
    let b = length-decimal-le 20 s.place (lit< tt) (omega arith) k in
    let w = word_short s.section in
    let is : text ≡ codes "refused " ++ (decimal n ++ (codes " " ++ (word_of s.section ++ (codes " " ++ (decimal s.place ++ codes "\n"))))) = cc in
    let long : length (codes "refused " ++ (decimal n ++ (codes " " ++ (word_of s.section ++ (codes " " ++ (decimal s.place ++ codes "\n")))))) ≤ 64 = simp length-append (omega arith) in
    omega (arith, ap length is, long)

name_short : (c x y q : ℕ) → x ≤ q → y ≤ q → q < 2 ^ 16 → length (name (c ∷ []) x y q (codes "\n")) ≤ 22
name_short c x y q h k l =
    let a = length-decimal-le 5 x (lit< tt) (omega arith) (omega arith) in
    let b = length-decimal-le 5 y (lit< tt) (omega arith) (omega arith) in
    let d = length-decimal-le 5 q (lit< tt) (omega arith) (omega arith) in
    simp length-append (omega arith)

either : (b : Bool) (l k : List ℕ) → length l ≤ 22 → length k ≤ 22 → length (if b then l else k) ≤ 22
either true l k h j = h
either false l k h j = j

flip_short : (r n q : ℕ) → q < 2 ^ 16 → length (flip_line r n q) ≤ 22
flip_short r n q h =
    let p = q - n * n in
    either (ltb q (n * n)) (name (codes "b") (q / n) (q % n) q (codes "\n")) (name (codes "a") (p / r) (p % r) q (codes "\n"))
    (name_short 98 (q / n) (q % n) q (div-le_self q n) (mod-le q n) h)
    (name_short 97 (p / r) (p % r) q (omega (arith, div-le_self p r)) (omega (arith, mod-le p r)) h)

flips_short : (r n q : ℕ) (m : List Bool) → q + length m ≤ 2 ^ 16 → length (flat_map (flip_line r n) (elements_from q m)) ≤ 22 * length m
flips_short r n q [] h = omega arith
flips_short r n q (true ∷ m) h =
    let one = flip_short r n q (omega arith) in
    let more = flips_short r n (q + 1) m (omega arith) in
    simp length-append (omega arith)
flips_short r n q (false ∷ m) h = omega (arith, flips_short r n (q + 1) m (omega arith))

outcome_short : (o : Outcome) → length (outcome_word o) ≤ 10
outcome_short Solved = omega arith
outcome_short Nothing = omega arith
outcome_short Unfinished = omega arith

first_short : (v : Verdict) → v.peeled < 2 ^ 16 → v.pruned < 2 ^ 16 → v.chosen < 2 ^ 16 → length (first_line v) ≤ 64
first_short v h₁ h₂ h₃ =
    let o = outcome_short v.outcome in
    let a = length-decimal-le 5 v.peeled (lit< tt) (omega arith) (omega arith) in
    let b = length-decimal-le 5 v.pruned (lit< tt) (omega arith) (omega arith) in
    let d = length-decimal-le 5 v.chosen (lit< tt) (omega arith) (omega arith) in
    simp length-append (omega arith)

shown_few : (o : Outcome) (k : ℕ) → shown o k ≤ k
shown_few Solved k = omega arith
shown_few Nothing k = omega arith
shown_few Unfinished k = omega arith

square : (k : ℕ) → k ≤ 32 → k * k ≤ 1024
square k h = grind arith

pub verdict_short : (r n : ℕ) (v : Verdict) (flips : List ℕ) → r ≤ 32 → n ≤ 32 → v.peeled < 2 ^ 16 → v.pruned < 2 ^ 16 → v.chosen < 2 ^ 16 → length (verdict_lines r n v flips) ≤ 65536
verdict_short r n v flips hr hn h₁ h₂ h₃ =
    let k = shown v.outcome (n * n + r * r) in
    let few : k ≤ 2048 = omega (arith, shown_few v.outcome (n * n + r * r), square r hr, square n hn) in
    let bits = map (λ b. eqb b 1) (take k flips) in
    let some : length bits ≤ 2048 = omega (arith, length-map (take k flips) (λ b. eqb b 1), length-take k flips) in
    let flipped : length (flip_lines r n (take k flips)) ≤ 45056 = omega (arith, flips_short r n 0 bits (omega arith)) in
    omega (arith, length-append (first_line v) (flip_lines r n (take k flips)), first_short v h₁ h₂ h₃)

-- The number and the meaning of each refusal.
use Rattle.std.specs.Prelude.{ℕ, List, ◌++◌, Some, None, codes, decimal, Option}
use Rattle.terms.specs.declared.refusal.Refusal.{Refusal}
use Rattle.terms.specs.declared.refusal.Refusal.TheVariants.{QubitTooLarge, CheckTooLarge, GeneratorTooLarge, PruneListLength, BufferTooShort, NotRising, OutsideLimits, LawFails, NotAwaited, WrongEnd, FileTooLong, ScratchNotZero, NotDangling, NothingErased, GeneratorNotErased, EvenlyNamed, SeveralConnecting, TooManyUnknowns, NoSolution, StillErased, ShelfEmpty, TallyFull, WrongSlip, NoMemory}

-- the number under which a refusal is printed and documented; want of memory has none
abbrev pub number : Refusal → Option ℕ
number QubitTooLarge = Some 1
number CheckTooLarge = Some 2
number GeneratorTooLarge = Some 3
number PruneListLength = Some 4
number BufferTooShort = Some 5
number NotRising = Some 6
number OutsideLimits = Some 7
number LawFails = Some 8
number NotAwaited = Some 9
number WrongEnd = Some 10
number FileTooLong = Some 11
number ScratchNotZero = Some 12
number NotDangling = Some 20
number NothingErased = Some 21
number GeneratorNotErased = Some 22
number EvenlyNamed = Some 23
number SeveralConnecting = Some 24
number TooManyUnknowns = Some 25
number NoSolution = Some 26
number StillErased = Some 27
number ShelfEmpty = Some 28
number TallyFull = Some 29
number WrongSlip = Some 30
number NoMemory = None

-- what is wrong, as ASCII text
abbrev pub wording : Refusal → List ℕ
wording QubitTooLarge = codes "a qubit number is too large"
wording CheckTooLarge = codes "a check number is too large"
wording GeneratorTooLarge = codes "a generator number is too large"
wording PruneListLength = codes "a prune list names no generator or more than 4"
wording BufferTooShort = codes "a buffer is too short"
wording NotRising = codes "a list does not rise strictly, or a row names a qubit twice"
wording OutsideLimits = codes "a size, side, seed place, switch sum or section count is outside its limits"
wording LawFails = codes "a check and a generator share an odd number of qubits"
wording NotAwaited = codes "something else is awaited here"
wording WrongEnd = codes "the input ends early, or goes on after its end"
wording FileTooLong = codes "the file is too long"
wording ScratchNotZero = codes "a scratch byte in use is not zero"
wording NotDangling = codes "the check is closed or does not hold exactly one erased qubit"
wording NothingErased = codes "the qubit to solve at is not erased, or nothing is erased to sweep"
wording GeneratorNotErased = codes "a qubit of a named generator is not erased"
wording EvenlyNamed = codes "the qubit lies in an even number of the listed generators"
wording SeveralConnecting = codes "the cluster has two or more connecting checks"
wording TooManyUnknowns = codes "there are more than 256 unknowns"
wording NoSolution = codes "there is no solution, or the trial is void"
wording StillErased = codes "a qubit is still erased"
wording ShelfEmpty = codes "the shelf is empty"
wording TallyFull = codes "the tally has opened 1000000 trials"
wording WrongSlip = codes "the slip is not the trial's, or the tally has no slip out"
wording NoMemory = codes "there is not enough memory"

-- the number as it is printed, after a space; nothing where there is none
abbrev pub number_text : Option ℕ → List ℕ
number_text (Some n) = codes " " ++ decimal n
number_text None = codes ""

-- how a refusal is printed: its number, where it has one, and its meaning
abbrev pub refusal_words : Refusal → List ℕ
refusal_words f = codes "refused" ++ (number_text (number f) ++ (codes ": " ++ wording f))

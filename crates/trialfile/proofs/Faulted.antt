-- Want of memory is no fault that a file has.
use Rattle.std.proofs.Common.{ℕ, zero, suc, ◌*◌, ◌+◌, ◌/◌, Bool, true, false, ltb, List, ◌∷◌, length, Some, None, Ok, Err, Option, Result}
use Rattle.std.specs.Prelude.{if◌then◌else◌, nat_lt, nat_le}
use Rattle.std.specs.Str.{bytes_eq}
use Rattle.product.specs.declared.place.Place.{Place}
use Rattle.product.specs.Seed.{size_outside, after}
use Rattle.tokens.specs.declared.fault.TokenFault.{TokenFault}
use Rattle.tokens.specs.declared.section.Section.{Section}
use Rattle.tokens.specs.declared.section.Section.TheVariants as section
use Rattle.tokens.specs.declared.section.Spot.{Spot}
use Rattle.tokens.specs.Tokens.{Rest, Said, word, number, end, word_of, next_token, after_token, all_of}
use Rattle.trialfile.specs.declared.fault.SectionFault.{SectionFault}
use Rattle.trialfile.specs.declared.fault.SectionFault.TheVariants.{NotAwaited, OutsideLimits, NotRising, NoMemory}
use Rattle.trialfile.specs.declared.fault.FileFault.{FileFault}
use Rattle.trialfile.specs.declared.fault.FileFault.TheVariants.{TooLong, Section as InSection}
use Rattle.trialfile.specs.declared.kind.Kind.{Kind}
use Rattle.trialfile.specs.declared.kind.Kind.TheVariants.{Lost, Odd}
use Rattle.trialfile.specs.declared.reading.Numeral.{Numeral}
use Rattle.trialfile.specs.Reading.{Reading, gives, fails, go_on, and_then, each, of_token, token, as_word, word_in, as_number, number_in, as_end, end_of_file}
use Rattle.trialfile.specs.Sections.{count_fits, count, size, sizes, row, column, falls, place, ones, section_of, too_large, above, listed, list, switches}
use Rattle.trialfile.specs.Contents.{Contents, contents, of_file, file_says}
use Rattle.trialfile.specs.Faults.{longest}

-- a fault that a file may have
abbrev pub OfFile : SectionFault → Type 0
OfFile NoMemory = ⊥
OfFile _ = Unit {0}

abbrev Told : {X : Type 0} → Result (X × Rest) SectionFault → Type 0
Told (Ok p) = Unit {0}
Told (Err e) = OfFile e

abbrev Always : {X : Type 0} → Reading X → Type 0
Always f = (r : Rest) → Told (f r)

joined : {X Y : Type 0} (f : Reading X) (g : X → Reading Y) → Always f → ((x : X) → Always (g x)) → Always (and_then f g)
joined {X} {Y} f g a b r = go (f r) (a r)
  where
    go : (t : Result (X × Rest) SectionFault) → Told t → Told (go_on t g)
    go (Ok p) h = b p.0 p.1
    go (Err e) h = h

chosen : {X : Type 0} (b : Bool) (f g : Reading X) → Always f → Always g → Always (if b then f else g)
chosen true f g a b = a
chosen false f g a b = b

many : {X : Type 0} (n : ℕ) (f : Option X → Reading X) (last : Option X) → ((o : Option X) → Always (f o)) → Always (each n f last)
many zero f last a = λ r. tt
many (suc n) f last a = joined (f last) (λ x. and_then (each n f (Some x)) (λ l. gives (x ∷ l))) (a last) (λ x. joined (each n f (Some x)) (λ l. gives (x ∷ l)) (many n f (Some x) a) (λ l r. tt))

tokens : (a : Section) → Always (token a)
tokens a r = go (next_token a r)
  where
    go : (t : Result (Said × Spot) TokenFault) → Told (of_token t (after_token r))
    go (Ok t) = tt
    go (Err e) = tt

words : (a : Section) (t : Said × Spot) → Always (as_word a t)
words a (word w, s) = chosen (bytes_eq w (word_of a)) (gives tt) (fails (NotAwaited s)) (λ r. tt) (λ r. tt)
words a (number n, s) = λ r. tt
words a (end, s) = λ r. tt

numbers : (t : Said × Spot) → Always (as_number t)
numbers (word w, s) = λ r. tt
numbers (number n, s) = λ r. tt
numbers (end, s) = λ r. tt

ends : (t : Said × Spot) → Always (as_end t)
ends (word w, s) = λ r. tt
ends (number n, s) = λ r. tt
ends (end, s) = λ r. tt

a_number : (a : Section) → Always (number_in a)
a_number a = joined (token a) as_number (tokens a) numbers

-- a number that is tested
tested : {X : Type 0} (a : Section) (f : Numeral → Reading X) → ((k : Numeral) → Always (f k)) → Always (and_then (number_in a) f)
tested a f h = joined (number_in a) f (a_number a) h

counts : (a : Section) → Always (count a)
counts a =
    joined (word_in a) (λ _. and_then (number_in a) (λ n. if count_fits a n.value then gives n.value else fails (OutsideLimits n.spot)))
    (joined (token a) (as_word a) (tokens a) (words a))
    (λ _. tested a _ (λ n. chosen (count_fits a n.value) (gives n.value) (fails (OutsideLimits n.spot)) (λ r. tt) (λ r. tt)))

a_size : Always size
a_size = tested section.Seed _ (λ n. chosen (size_outside n.value) (fails (OutsideLimits n.spot)) (gives n.value) (λ r. tt) (λ r. tt))

both_sizes : Always sizes
both_sizes = joined (count section.Seed) _ (counts section.Seed) (λ _. joined size _ a_size (λ r. joined size _ a_size (λ n _. tt)))

a_row : (r : ℕ) (last : Option Place) → Always (row r last)
a_row r last =
    tested section.Ones _ (λ k. chosen (nat_le r k.value) (fails (OutsideLimits k.spot)) _ (λ _. tt) (chosen (falls last k.value) (fails (NotRising k.spot)) (gives k.value) (λ _. tt) (λ _. tt)))

a_column : (n : ℕ) (last : Option Place) (a : ℕ) → Always (column n last a)
a_column n last a =
    tested section.Ones _ (λ k. chosen (nat_le n k.value) (fails (OutsideLimits k.spot)) _ (λ _. tt)
    (chosen (after last (record { row = a; column = k.value })) (gives (record { row = a; column = k.value })) (fails (NotRising k.spot)) (λ _. tt) (λ _. tt)))

all_ones : (r n : ℕ) → Always (ones r n)
all_ones r n = joined (count section.Ones) _ (counts section.Ones) (λ k. many (k / 2) (place r n) None (λ last. joined (row r last) (column n last) (a_row r last) (a_column n last)))

large : (a : Kind) (s : Spot) → OfFile (too_large a s)
large Lost s = tt
large Odd s = tt

a_list : (a : Kind) (limit : ℕ) → Always (list a limit)
a_list a limit =
    joined (count (section_of a)) _ (counts (section_of a)) (λ k. many k (listed a limit) None (λ last.
    tested (section_of a) _ (λ n. chosen (nat_le limit n.value) (fails (too_large a n.spot)) _ (λ _. large a n.spot) (chosen (above last n.value) (gives n.value) (fails (NotRising n.spot)) (λ _. tt) (λ _. tt)))))

all_switches : Always switches
all_switches = joined (count section.Stages) _ (counts section.Stages) (λ _. tested section.Stages _ (λ n. chosen (nat_lt 15 n.value) (fails (OutsideLimits n.spot)) (gives n.value) (λ _. tt) (λ _. tt)))

all_contents : Always contents
all_contents =
    joined sizes _ both_sizes (λ s. joined (ones s.0 s.1) _ (all_ones s.0 s.1) (λ o.
    joined (list Lost (s.1 * s.1 + s.0 * s.0)) _ (a_list Lost (s.1 * s.1 + s.0 * s.0)) (λ l.
    joined (list Odd (s.1 * s.0)) _ (a_list Odd (s.1 * s.0)) (λ d.
    joined switches _ all_switches (λ w. joined end_of_file _ (joined (token section.End) as_end (tokens section.End) ends) (λ _ _. tt))))))

-- what a file says, or a fault that it may have
abbrev pub SaidOfFile : Result Contents FileFault → Type 0
SaidOfFile (Ok c) = Unit {0}
SaidOfFile (Err TooLong) = Unit {0}
SaidOfFile (Err (InSection e)) = OfFile e

pub files_say : (file : List ℕ) → SaidOfFile (file_says file)
files_say file = go (ltb longest (length file)) (contents (all_of file)) (all_contents (all_of file))
  where
    go : (b : Bool) (t : Result (Contents × Rest) SectionFault) → Told t → SaidOfFile (if b then Err TooLong else of_file t)
    go true t told = tt
    go false (Ok p) told = tt
    go false (Err e) told = told

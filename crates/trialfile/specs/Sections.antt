-- The sections of a file: each its word, a count, and that many numbers.
use Rattle.std.specs.Prelude.{ℕ, ◌/◌, ◌%◌, Bool, true, false, List, Some, None, Option, ◌==◌, nat_le, nat_lt, if◌then◌else◌}
use Rattle.tokens.specs.declared.section.Section.{Section}
use Rattle.tokens.specs.declared.section.Section.TheVariants.{Seed, Ones, Erased, Odd, Stages, End, File}
use Rattle.tokens.specs.declared.section.Spot.{Spot}
use Rattle.product.specs.declared.place.Place.{Place}
use Rattle.product.specs.Seed.{size_outside, after}
use Rattle.trialfile.specs.declared.fault.SectionFault.{SectionFault}
use Rattle.trialfile.specs.declared.fault.SectionFault.TheVariants.{OutsideLimits, QubitTooLarge, CheckTooLarge, NotRising}
use Rattle.trialfile.specs.declared.kind.Kind.{Kind}
use Rattle.trialfile.specs.declared.kind.Kind.TheVariants as kind
use Rattle.trialfile.specs.Reading.{Reading, gives, fails, and_then, each, word_in, number_in}

-- the counts that a section may have: two numbers of the seed, an even number for the ones, and one for the stages
abbrev pub count_fits : Section → ℕ → Bool
count_fits Seed n = n == 2
count_fits Ones n = n % 2 == 0
count_fits Stages n = n == 1
count_fits Erased n = true
count_fits Odd n = true
count_fits End n = true
count_fits File n = true

-- the word of a section and its count
abbrev pub count : Section → Reading ℕ
count a = and_then (word_in a) (λ _. and_then (number_in a) (λ n. if count_fits a n.value then gives n.value else fails (OutsideLimits n.spot)))

-- the seed's sizes
abbrev pub size : Reading ℕ
size = and_then (number_in Seed) (λ n. if size_outside n.value then fails (OutsideLimits n.spot) else gives n.value)

abbrev pub sizes : Reading (ℕ × ℕ)
sizes = and_then (count Seed) (λ _. and_then size (λ r. and_then size (λ n. gives (r, n))))

-- the ones of a seed of r rows and n columns, rising by row and then by column; a falling row is itself at fault
abbrev pub falls : Option Place → ℕ → Bool
falls None a = false
falls (Some p) a = nat_lt a p.row

abbrev pub row : ℕ → Option Place → Reading ℕ
row r last =
    and_then (number_in Ones) (λ k.
    if nat_le r k.value then fails (OutsideLimits k.spot)
    else (if falls last k.value then fails (NotRising k.spot)
    else gives k.value))

abbrev pub column : ℕ → Option Place → ℕ → Reading Place
column n last a =
    and_then (number_in Ones) (λ k.
    if nat_le n k.value then fails (OutsideLimits k.spot)
    else (if after last (record { row = a; column = k.value }) then gives (record { row = a; column = k.value })
    else fails (NotRising k.spot)))

abbrev pub place : ℕ → ℕ → Option Place → Reading Place
place r n last = and_then (row r last) (column n last)

abbrev pub ones : ℕ → ℕ → Reading (List Place)
ones r n = and_then (count Ones) (λ k. each (k / 2) (place r n) None)

-- the two lists of the report: rising numbers below a limit
abbrev pub section_of : Kind → Section
section_of kind.Lost = Erased
section_of kind.Odd = Odd

abbrev pub too_large : Kind → Spot → SectionFault
too_large kind.Lost s = QubitTooLarge s
too_large kind.Odd s = CheckTooLarge s

abbrev pub above : Option ℕ → ℕ → Bool
above None k = true
above (Some m) k = nat_lt m k

abbrev pub listed : Kind → ℕ → Option ℕ → Reading ℕ
listed a limit last =
    and_then (number_in (section_of a)) (λ k.
    if nat_le limit k.value then fails (too_large a k.spot)
    else (if above last k.value then gives k.value
    else fails (NotRising k.spot)))

abbrev pub list : Kind → ℕ → Reading (List ℕ)
list a limit = and_then (count (section_of a)) (λ k. each k (listed a limit) None)

-- the switches of the stages, added
abbrev pub switches : Reading ℕ
switches = and_then (count Stages) (λ _. and_then (number_in Stages) (λ n. if nat_lt 15 n.value then fails (OutsideLimits n.spot) else gives n.value))

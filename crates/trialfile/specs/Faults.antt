-- The refusal that a fault is, and where it stands; want of memory stands nowhere.
use Rattle.std.specs.Prelude.{ℕ, Some, None, Option}
use Rattle.terms.specs.declared.refusal.Refusal.{Refusal}
use Rattle.terms.specs.declared.refusal.Refusal.TheVariants as refusal
use Rattle.tokens.specs.Tokens as tokens
use Rattle.tokens.specs.declared.section.Section.TheVariants.{File}
use Rattle.tokens.specs.declared.section.Spot.{Spot}
use Rattle.trialfile.specs.declared.fault.SectionFault.{SectionFault}
use Rattle.trialfile.specs.declared.fault.SectionFault.TheVariants.{Token, NotAwaited, EndsEarly, GoesOn, OutsideLimits, QubitTooLarge, CheckTooLarge, NotRising, NoMemory}
use Rattle.trialfile.specs.declared.fault.FileFault.{FileFault}
use Rattle.trialfile.specs.declared.fault.FileFault.TheVariants.{TooLong, Section}

abbrev pub spot_in : SectionFault → Option Spot
spot_in (Token e) = Some (tokens.spot_of e)
spot_in (NotAwaited s) = Some s
spot_in (EndsEarly s) = Some s
spot_in (GoesOn s) = Some s
spot_in (OutsideLimits s) = Some s
spot_in (QubitTooLarge s) = Some s
spot_in (CheckTooLarge s) = Some s
spot_in (NotRising s) = Some s
spot_in NoMemory = None

abbrev pub refusal_in : SectionFault → Refusal
refusal_in (Token e) = refusal.NotAwaited
refusal_in (NotAwaited s) = refusal.NotAwaited
refusal_in (EndsEarly s) = refusal.WrongEnd
refusal_in (GoesOn s) = refusal.WrongEnd
refusal_in (OutsideLimits s) = refusal.OutsideLimits
refusal_in (QubitTooLarge s) = refusal.QubitTooLarge
refusal_in (CheckTooLarge s) = refusal.CheckTooLarge
refusal_in (NotRising s) = refusal.NotRising
refusal_in NoMemory = refusal.NoMemory

-- the length of the longest file, in bytes; a longer one is refused where that ends
abbrev pub longest : ℕ
longest = 32768

abbrev pub spot_of : FileFault → Option Spot
spot_of TooLong = Some (record { section = File; place = longest })
spot_of (Section e) = spot_in e

abbrev pub refusal_of : FileFault → Refusal
refusal_of TooLong = refusal.FileTooLong
refusal_of (Section e) = refusal_in e

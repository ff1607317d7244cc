-- A reading that gives a value went well at each of its steps.
use Rattle.std.proofs.Common.{◌≡◌, Bool, true, false, Ok, Err, Result, if◌then◌else◌, refl}
use Rattle.tokens.specs.Tokens.{Rest}
use Rattle.trialfile.specs.declared.fault.SectionFault.{SectionFault}
use Rattle.trialfile.specs.Reading.{Reading, fails, go_on}

pub went_on : {X Y : Type 0} (told : Result (X × Rest) SectionFault) (f : X → Reading Y) (y : Y × Rest) → go_on told f ≡ Ok y → (x : X × Rest) × (told ≡ Ok x) × (f x.0 x.1 ≡ Ok y)
went_on (Ok x) f y e = (x, refl, e)
went_on (Err d) f y e = cc

module _ {X : Type 0} (d : SectionFault) (g : Reading X) (r : Rest) (p : X × Rest) where
  pub not_refused : (b : Bool) → (if b then fails d else g) r ≡ Ok p → (b ≡ false) × (g r ≡ Ok p)
  not_refused true e = cc
  not_refused false e = (refl, e)

  pub passed : (b : Bool) → (if b then g else fails d) r ≡ Ok p → (b ≡ true) × (g r ≡ Ok p)
  passed true e = (refl, e)
  passed false e = cc

pub same : {X : Type 0} (x : X) (r : Rest) (p : X × Rest) → ◌≡◌ {A = Result (X × Rest) SectionFault} (Ok (x, r)) (Ok p) → x ≡ p.0
same {X = X} x r p e = let is : ◌≡◌ {A = X × Rest} (x, r) p = cc in cc

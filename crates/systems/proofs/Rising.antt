-- The elements of a set rise.
use Rattle.std.proofs.Common.{◌≡◌, ℕ, zero, suc, ◌+◌, ◌<◌, ◌≤◌, Bool, true, false, List, [], ◌∷◌, length, get_or, refl, arith, lt-ltb}
use Rattle.std.proofs.lemmas.Bool.{and_from}
use Rattle.sets.specs.Sets.{elements, elements_from}
use Rattle.sets.proofs.Lists.{in_get_or}
use Rattle.sets.proofs.Numbers.{elements_low}
use Rattle.rules.specs.Reports.{rises, rises_from}

rising_from : (from : ℕ) (m : List Bool) (i j : ℕ) → i ≤ j → j < length (elements_from from m) → get_or (elements_from from m) i 0 ≤ get_or (elements_from from m) j 0
rising_from from [] i j h l = omega arith
rising_from from (true ∷ m) zero zero h l = omega arith
rising_from from (true ∷ m) zero (suc j) h l =
    let l' : j < length (elements_from (from + 1) m) = omega arith in
    let low : from + 1 ≤ get_or (elements_from (from + 1) m) j 0 = elements_low (from + 1) m _ (in_get_or (elements_from (from + 1) m) j 0 l') in
    omega arith
rising_from from (true ∷ m) (suc i) zero h l = absurd (omega arith)
rising_from from (true ∷ m) (suc i) (suc j) h l = let h' : i ≤ j = omega arith in let l' : j < length (elements_from (from + 1) m) = omega arith in rising_from (from + 1) m i j h' l'
rising_from from (false ∷ m) i j h l = rising_from (from + 1) m i j h l

pub rising : (k : List Bool) (i j : ℕ) → i ≤ j → j < length (elements k) → get_or (elements k) i 0 ≤ get_or (elements k) j 0
rising = rising_from 0

rises_above : (a from : ℕ) (m : List Bool) → a < from → rises_from a (elements_from from m) ≡ true
rises_above a from [] h = refl
rises_above a from (true ∷ m) h = and_from _ _ (lt-ltb a from h) (rises_above from (from + 1) m (omega arith))
rises_above a from (false ∷ m) h = rises_above a (from + 1) m (omega arith)

rises_elements_from : (from : ℕ) (m : List Bool) → rises (elements_from from m) ≡ true
rises_elements_from from [] = refl
rises_elements_from from (true ∷ m) = rises_above from (from + 1) m (omega arith)
rises_elements_from from (false ∷ m) = rises_elements_from (from + 1) m

pub rises_elements : (k : List Bool) → rises (elements k) ≡ true
rises_elements = rises_elements_from 0

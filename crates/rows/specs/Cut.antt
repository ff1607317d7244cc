-- Parts of a list, one after another, given by where each ends.
use Rattle.std.specs.Prelude.{◌≡◌, ℕ, ◌-◌, ◌≤◌, List, [], ◌∷◌, take, drop}

-- the part between two places
abbrev pub cut : List ℕ → ℕ → ℕ → List ℕ
cut places start end = take (end - start) (drop start places)

-- the parts with these ends: the first starts at `start`, and each other one where the one before it ends
abbrev pub cuts : List ℕ → ℕ → List ℕ → List (List ℕ)
cuts places start [] = []
cuts places start (end ∷ ends) = cut places start end ∷ cuts places end ends

-- from `start` on no end is below the one before it, and the last one is n
abbrev pub Rising : ℕ → List ℕ → ℕ → Type 0
Rising start [] n = start ≡ n
Rising start (end ∷ ends) n = (start ≤ end) × Rising end ends n

use Rattle.std.proofs.Common.{◌≡◌, ℕ, List, take}
use Rattle.product.specs.Seed.{marked}
use Rattle.product.specs.Words.{one_at}
use Rattle.product.specs.declared.place.Place.{Place}
use Rattle.product.proofs.product.make.words.Given as goal

-- the words have the ones of the places so far
pub record Filled (rows columns : List ℕ) (places : List Place) (i : ℕ) : Type 0 where
  pub by_row : (a b : ℕ) → one_at rows a b ≡ marked a b (take i places)
  pub by_column : (a b : ℕ) → one_at columns b a ≡ marked a b (take i places)

abbrev pub invariant-loop-p : goal.invariant-loop-p
invariant-loop-p l = Filled l.rows l.columns l.ones l.p-index

-- What comes of a row that goes into a table.
use Rattle.std.specs.Prelude.{◌≡◌, ℕ, List, drop, ◌≢◌, slice_index_or}
use Rattle.linear.specs.Field.{Field}
use Rattle.linear.specs.Basis.{Basis, Insertion, grown, known, clash, insert}
use Rattle.elimination.specs.Table.{basis_of}
use Rattle.elimination.specs.declared.echelon.Added.{Added}
use Rattle.elimination.specs.declared.echelon.Added.TheVariants.{Grown, Known, Clash}

abbrev pub outcome : {F : Type 0} → Added → Basis F → Insertion F
outcome Grown B = grown B
outcome Known B = known
outcome Clash B = clash

module _ {F : Type 0} (K : Field F) where
  -- the row r went into the table t of width w, which is t' then
  pub record Inserted (w : ℕ) (t r : List F) (o : Added) (t' : List F) : Type 0 where
    pub outcome_is : outcome o (basis_of K w t') ≡ insert K (basis_of K w t) (drop 1 r) (slice_index_or r 0 K.zer)
    pub kept : (o ≢ Grown) → t' ≡ t

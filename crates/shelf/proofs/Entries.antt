-- The shelf as the rules have it.
use Rattle.std.proofs.Common.{◌≡◌, ℕ, List, length}
use lib.ListN.{length-map}
use Rattle.shelf.specs.Shelving.{ToldEntry, entry_of, entries_of}

pub length_entries : (n : ℕ) (l : List ToldEntry) → length (entries_of n l) ≡ length l
length_entries n l = length-map l (entry_of n)

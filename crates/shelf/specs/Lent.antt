-- An entry that a shelf lends.
use Rattle.shelf.specs.Shelving.{ToldEntry}
use Rattle.shelf.specs.declared.Entry.{Entry}

abbrev pub told : Entry → ToldEntry
told e = record { members = e.members.now; check = e.check }

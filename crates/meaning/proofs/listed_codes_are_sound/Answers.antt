use Rattle.meaning.proofs.Listed.{listed_sound, listed_tells}
use Rattle.meaning.proofs.listed_codes_are_sound.Goals as goal

pub returns : goal.returns
returns c = record { sound = listed_sound; tells = listed_tells }

use Rattle.meaning.proofs.Turned.{turned_sound, turned_tells}
use Rattle.meaning.proofs.turned_codes_are_sound.Goals as goal

pub returns : goal.returns
returns c = record { sound = turned_sound; tells = turned_tells }

use Rattle.meaning.proofs.Product.{product_sound}
use Rattle.meaning.proofs.Told.{product_tells}
use Rattle.meaning.proofs.product_codes_are_sound.Goals as goal

pub returns : goal.returns
returns c = record { sound = product_sound; tells = product_tells }

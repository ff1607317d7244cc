use Rattle.table.specs.OfTable.{meaning_of}
use Rattle.systems.proofs.Begun.{added}
use Rattle.systems.proofs.System.state.Goals as goal

pub returns-clause-stated : goal.returns-clause-stated
returns-clause-stated c k among odds o s =
    added c.args.self.now _ (meaning_of c.args.table.now) k among odds s c.write.ensures.unknowns c.args.check c.args.odd o (c.add.ensures _ _ _ (c.write.ensures.written k _ s.unknowns s.held))

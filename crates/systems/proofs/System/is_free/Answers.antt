use Rattle.table.specs.OfTable.{meaning_of}
use Rattle.systems.proofs.Answers.{free_answer}
use Rattle.systems.proofs.Begun.{still}
use Rattle.systems.proofs.System.is_free.Goals as goal

pub returns : goal.returns
returns c k among odds s =
    let h = c.is_independent.ensures _ _ _ (c.write.ensures.written k _ s.unknowns s.held) in (
      still c.args.self.now _ (meaning_of c.args.table.now) k among odds s c.write.ensures.unknowns h.0,
      free_answer (meaning_of c.args.table.now) k among odds s.order s.among_range s.named c.args.check c.is_independent.result h.1,
    )

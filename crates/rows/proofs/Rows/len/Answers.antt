use Rattle.std.proofs.Common.{length, ap, arith}
use Rattle.rows.proofs.Cuts.{length_cuts}
use Rattle.rows.proofs.Rows.len.Goals as goal

pub returns : goal.returns
returns c = let r = c.self.inside in omega (arith, length_cuts r.places.items 0 r.ends.items, ap length c.self.view_is)

use Rattle.std.proofs.Common.{refl}
use Rattle.rules.proofs.ten_small_reports_come_out_as_told.Goals as goal

pub returns : goal.returns
returns c = refl

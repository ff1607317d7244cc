use Rattle.std.proofs.Common.{refl}
use Rattle.rules.proofs.refusals_stand_in_order.Goals as goal

pub returns : goal.returns
returns a M s t slip q c w l lost odds scratch k connects =
    record {
      open_order = refl;
      peel_order = refl;
      prune_order = refl;
      solve_order = refl;
      sweep_order = refl;
      sweep_void = refl;
      settle_order = refl;
      run_order = refl;
      close_order = refl;
      solve_void = λ isFree. refl;
    }

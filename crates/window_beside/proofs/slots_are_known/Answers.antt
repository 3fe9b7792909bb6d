-- The laws are proved in `Known`.
use Rattle.window_beside.proofs.Known.{slots_are_known}
use Rattle.window_beside.proofs.slots_are_known.Goals as goal

pub returns : goal.returns
returns c = slots_are_known c.first_run_goes_on.ensures c.good_run_goes_on.ensures c.slot_goes_on.ensures.begin c.own_steps_count.ensures c.tried_steps_go_on.ensures

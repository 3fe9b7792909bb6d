-- The laws are proved in `Rising`.
use Rattle.own_gradings.proofs.Rising.{own_steps_rise}
use Rattle.own_gradings.proofs.own_steps_rise.Goals as goal

pub returns : goal.returns
returns c = own_steps_rise c.good_run_goes_on.ensures

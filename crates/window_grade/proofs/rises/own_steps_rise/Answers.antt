-- The laws are proved in `OwnRises`.
use Rattle.window_grade.proofs.OwnRises.{own_steps_rise}
use Rattle.window_grade.proofs.rises.own_steps_rise.Goals as goal

pub returns : goal.returns
returns c = own_steps_rise c.own_steps_join.ensures c.slots_lie_between.ensures

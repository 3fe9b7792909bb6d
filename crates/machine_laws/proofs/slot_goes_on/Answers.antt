-- The laws are proved in `Moments`.
use Rattle.machine_laws.proofs.Moments.{slots_begin, nodes_go_on, lanes_go_on, steps_go_on, turns_go_on}
use Rattle.machine_laws.proofs.slot_goes_on.Goals as goal

pub returns-clause-begin : goal.returns-clause-begin
returns-clause-begin c = slots_begin

pub returns-clause-node : goal.returns-clause-node
returns-clause-node c = nodes_go_on c.slots.ensures

pub returns-clause-lane : goal.returns-clause-lane
returns-clause-lane c = lanes_go_on c.slots.ensures

pub returns-clause-step : goal.returns-clause-step
returns-clause-step c = steps_go_on c.slots.ensures

pub returns-clause-turn : goal.returns-clause-turn
returns-clause-turn c = turns_go_on c.slots.ensures c.nets.ensures.begin

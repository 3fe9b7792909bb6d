-- The laws.
use Rattle.own_slots.proofs.Slots as laws
use Rattle.own_slots.proofs.tried_steps_go_on.Goals as goal

pub returns : goal.returns
returns c = laws.tried_steps_go_on c.own_steps_count.ensures c.own_steps_of_slots.ensures.phases c.own_steps_of_slots.ensures.slots

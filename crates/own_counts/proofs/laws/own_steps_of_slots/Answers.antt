-- The laws.
use Rattle.own_counts.proofs.Slots as laws
use Rattle.own_counts.proofs.laws.own_steps_of_slots.Goals as goal

pub returns : goal.returns
returns c = record { phases = laws.own_steps_of_phases c.own_steps_count.ensures; slots = laws.own_steps_of_slots c.own_steps_count.ensures c.own_steps_join.ensures }

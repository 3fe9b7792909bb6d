-- The laws.
use Rattle.own_slots.proofs.Again as laws
use Rattle.own_slots.proofs.second_runs.Goals as goal

pub returns : goal.returns
returns c =
    laws.second_runs c.own_steps_count.ensures c.own_steps_of_slots.ensures.phases c.own_steps_of_slots.ensures.slots c.own_runs.ensures.steps c.own_runs.ensures.runs
    c.slot_goes_on.ensures.begin

-- The law is proved in `Left`.
use Rattle.block_states.proofs.Left.{blocks_leave}
use Rattle.block_states.proofs.blocks_leave.Goals as goal

pub returns : goal.returns
returns c = blocks_leave
    (record { grow = c.own_runs.ensures.steps; join = c.own_runs.ensures.join; runs = c.own_runs.ensures.runs; ready = c.own_runs.ensures.ready })
    c.runs_lead.ensures.slot

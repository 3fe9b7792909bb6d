-- The laws are proved in `Filled`.
use Rattle.phase_blocks.proofs.Filled.{runs_fill_blocks, lanes_fill_blocks}
use Rattle.phase_blocks.proofs.blocks_are_run.Goals as goal

pub returns-clause-runs : goal.returns-clause-runs
returns-clause-runs c = runs_fill_blocks (record { grow = c.own_runs.ensures.steps; join = c.own_runs.ensures.join; runs = c.own_runs.ensures.runs; ready = c.own_runs.ensures.ready })

pub returns-clause-lanes : goal.returns-clause-lanes
returns-clause-lanes c = lanes_fill_blocks

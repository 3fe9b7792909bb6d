-- The law is proved in `Whole`.
use Rattle.phase_blocks.proofs.Going.{RunLaws}
use Rattle.own_blocks.proofs.Whole.{run_blocks_are_whole}
use Rattle.own_blocks.proofs.run_blocks_are_whole.Goals as goal

pub returns : goal.returns
returns c =
    run_blocks_are_whole
    (record { grow = c.own_runs.ensures.steps; join = c.own_runs.ensures.join; runs = c.own_runs.ensures.runs; ready = c.own_runs.ensures.ready })

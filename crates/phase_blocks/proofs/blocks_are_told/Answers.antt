-- The laws are proved in `Told` and `Joined`.
use Rattle.phase_blocks.proofs.Joined.{blocks_join, blocks_stand, runs_of_blocks}
use Rattle.phase_blocks.proofs.Told.{blocks_begin, phases_end_between, blocks_follow}
use Rattle.phase_blocks.proofs.blocks_are_told.Goals as goal

pub returns-clause-begin : goal.returns-clause-begin
returns-clause-begin c = blocks_begin (record { grow = c.own_runs.ensures.steps; join = c.own_runs.ensures.join; runs = c.own_runs.ensures.runs; ready = c.own_runs.ensures.ready })

pub returns-clause-end : goal.returns-clause-end
returns-clause-end c = phases_end_between (record { grow = c.own_runs.ensures.steps; join = c.own_runs.ensures.join; runs = c.own_runs.ensures.runs; ready = c.own_runs.ensures.ready })

pub returns-clause-join : goal.returns-clause-join
returns-clause-join c = blocks_join (record { grow = c.own_runs.ensures.steps; join = c.own_runs.ensures.join; runs = c.own_runs.ensures.runs; ready = c.own_runs.ensures.ready })

pub returns-clause-follow : goal.returns-clause-follow
returns-clause-follow c = blocks_follow (record { grow = c.own_runs.ensures.steps; join = c.own_runs.ensures.join; runs = c.own_runs.ensures.runs; ready = c.own_runs.ensures.ready })

pub returns-clause-stand : goal.returns-clause-stand
returns-clause-stand c = blocks_stand (record { grow = c.own_runs.ensures.steps; join = c.own_runs.ensures.join; runs = c.own_runs.ensures.runs; ready = c.own_runs.ensures.ready })

pub returns-clause-runs : goal.returns-clause-runs
returns-clause-runs c = runs_of_blocks (record { grow = c.own_runs.ensures.steps; join = c.own_runs.ensures.join; runs = c.own_runs.ensures.runs; ready = c.own_runs.ensures.ready })

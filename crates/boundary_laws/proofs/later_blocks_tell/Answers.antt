-- The laws are proved in `Later`.
use Rattle.phase_blocks.proofs.Going.{RunLaws}
use Rattle.boundary_laws.proofs.Later.{ready_begin_blocks, lanes_are_taken}
use Rattle.boundary_laws.proofs.later_blocks_tell.Goals as goal

pub returns-clause-ready : goal.returns-clause-ready
returns-clause-ready c =
    let laws : RunLaws = record { grow = c.own_runs.ensures.steps; join = c.own_runs.ensures.join; runs = c.own_runs.ensures.runs; ready = c.own_runs.ensures.ready } in
    ready_begin_blocks laws

pub returns-clause-lanes : goal.returns-clause-lanes
returns-clause-lanes c = lanes_are_taken

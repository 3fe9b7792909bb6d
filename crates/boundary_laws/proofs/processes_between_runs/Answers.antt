-- The laws are proved in `Between`.
use Rattle.phase_blocks.proofs.Going.{RunLaws}
use Rattle.boundary_laws.proofs.Between.{process_at_boundary, lesser_rest}
use Rattle.boundary_laws.proofs.processes_between_runs.Goals as goal

pub returns-clause-boundary : goal.returns-clause-boundary
returns-clause-boundary c =
    let laws : RunLaws = record { grow = c.own_runs.ensures.steps; join = c.own_runs.ensures.join; runs = c.own_runs.ensures.runs; ready = c.own_runs.ensures.ready } in
    process_at_boundary laws c.runs_lead.ensures.slot

pub returns-clause-lesser : goal.returns-clause-lesser
returns-clause-lesser c =
    let laws : RunLaws = record { grow = c.own_runs.ensures.steps; join = c.own_runs.ensures.join; runs = c.own_runs.ensures.runs; ready = c.own_runs.ensures.ready } in
    lesser_rest laws

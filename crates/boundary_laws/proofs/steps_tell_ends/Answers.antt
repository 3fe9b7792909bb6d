-- The law is proved in `Ends`.
use Rattle.phase_blocks.proofs.Going.{RunLaws}
use Rattle.boundary_laws.proofs.Ends.{steps_tell_ends}
use Rattle.boundary_laws.proofs.steps_tell_ends.Goals as goal

pub returns : goal.returns
returns c =
    let laws : RunLaws = record { grow = c.own_runs.ensures.steps; join = c.own_runs.ensures.join; runs = c.own_runs.ensures.runs; ready = c.own_runs.ensures.ready } in
    steps_tell_ends laws

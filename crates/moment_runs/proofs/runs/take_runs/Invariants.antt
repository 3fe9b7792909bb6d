use Rattle.between_slots.specs.Between.{window_phases}
use Rattle.moment_runs.specs.Taken.{processes_of}
use Rattle.moment_runs.proofs.Taking.{AreTakenSoFar}
use Rattle.moment_runs.proofs.runs.take_runs.Given as goal

abbrev pub invariant-runs : goal.invariant-runs
invariant-runs g l =
    AreTakenSoFar g.N.World.design (window_phases g.N.World.design g.N.World.plan l.window.before l.window.through) l.phase l.run-index l.runs (processes_of l.fn.standing) (processes_of l.standing)
    l.fn.standing.lanes l.standing.lanes l.fn.acted.items l.acted.items

-- So far the filter was asked of the first ones.
use Rattle.lockstep_turn.specs.phase_faults.Beside.{AsksFilter}
use Rattle.lockstep_turn.proofs.phase_faults.Lists.{ChangedTo}
use Rattle.lockstep_phase.proofs.filter.ask_all.Given as goal

abbrev pub invariant-faults : goal.invariant-faults
invariant-faults g l =
    ChangedTo (AsksFilter g.N.World.design g.N.World.plan l.view.window.now.before l.view.window.now.through l.end) l.place l.initial.faults.items l.faults.items

-- So far it was looked ahead for the first ones.
use Rattle.phase_faults.specs.Beside.{LooksAhead}
use Rattle.phase_faults.proofs.Lists.{ChangedTo}
use Rattle.phase_faults.proofs.ahead.look_ahead_all.Given as goal

abbrev pub invariant-faults : goal.invariant-faults
invariant-faults g l =
    ChangedTo (LooksAhead g.N.World.design g.N.World.plan l.view.window.now.before l.view.window.now.through l.view.blocks.now.moments l.moment l.end) l.place l.initial.faults.items l.faults.items

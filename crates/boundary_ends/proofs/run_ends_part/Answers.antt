-- The laws are proved in `Parted` and `Told`.
use Rattle.boundary_ends.proofs.Parted.{ends_part_between_runs}
use Rattle.boundary_ends.proofs.Told.{phase_ends_stand, ends_tell_processes}
use Rattle.boundary_ends.proofs.run_ends_part.Goals as goal

pub returns-clause-stand : goal.returns-clause-stand
returns-clause-stand c = phase_ends_stand c.ends_go_on.ensures.part c.ends_go_on.ensures.between

pub returns-clause-part : goal.returns-clause-part
returns-clause-part c = ends_part_between_runs c.own_runs.ensures.time c.blocks_are_told.ensures.runs

pub returns-clause-tell : goal.returns-clause-tell
returns-clause-tell c = ends_tell_processes

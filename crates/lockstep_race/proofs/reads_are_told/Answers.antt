-- The law is proved in `Touched`.
use Rattle.lockstep_race.proofs.Touched.{touches_tell_reads}
use Rattle.lockstep_race.proofs.reads_are_told.Goals as goal

pub returns : goal.returns
returns c = touches_tell_reads

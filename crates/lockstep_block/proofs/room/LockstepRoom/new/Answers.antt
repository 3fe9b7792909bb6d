-- All of it is of the design.
use Rattle.lockstep_block.proofs.room.LockstepRoom.new.Goals as goal

pub returns : goal.returns
returns g c = record {
  whole = c.in_ok-runner.ensures.whole;
  design_is = c.in_ok-runner.ensures.machine;
  before_is = c.in_ok-before.ensures;
  behind_is = c.in_ok-behind.ensures;
  counts_are = c.counts_of-counts.ensures;
}

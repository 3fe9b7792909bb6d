-- The law is proved in `Walked`.
use Rattle.lockstep_laws.proofs.Walked.{lockstep_goes_on}
use Rattle.lockstep_laws.proofs.lockstep_goes_on.Goals as goal

pub returns : goal.returns
returns c = lockstep_goes_on (record {
  holds = c.lockstep_is_beside.ensures.held;
  turns = c.lockstep_turns.ensures;
  passes = c.lockstep_passes.ensures;
  rests = c.lockstep_blocks.ensures.rests;
  ends = c.lockstep_ends.ensures;
  begin = c.slot_goes_on.ensures.begin;
  stretch = c.stretches_go_on.ensures.stretch;
  turn = c.slot_goes_on.ensures.turn;
  quiet = c.slot_ends.ensures.quiet;
})

-- The law is proved in `Standing`.
use Rattle.lockstep_slots.proofs.Standing.{slots_in_lockstep}
use Rattle.lockstep_slots.proofs.slots_in_lockstep.Goals as goal

pub returns : goal.returns
returns c = slots_in_lockstep (record {
  side = c.lockstep_is_beside.ensures.beside;
  holds = c.lockstep_is_beside.ensures.held;
  goes = c.lockstep_goes_on.ensures;
  index = c.index_tells_free.ensures;
  writes = c.writes_pass.ensures;
  stretch = c.stretches_go_on.ensures.stretch;
  stay = record { fit = c.phases_fit.ensures; changes = c.moves.ensures.events };
  same = c.nothing_becomes_same.ensures;
  join = c.blocks_are_told.ensures.join;
  follow = c.blocks_are_told.ensures.follow;
  phases = c.phases_follow.ensures.phases;
  stretches = c.causes.ensures.stretches;
  blocks = c.causes.ensures.blocks;
  alike = c.blocks-2.ensures.stretch;
  more = c.blocks-2.ensures.more;
  wider = c.blocks-2.ensures.wider;
  race = c.blocks_suffice.ensures.race;
})

use Rattle.slot_steps.proofs.Slots.{so_far-begin, so_far-counted, so_far-ends, so_far-events, so_far-more, so_far-turn, so_far-within}
use Rattle.slot_steps.proofs.slot_steps_go_on.Goals as goal

pub returns : goal.returns
returns c = record {
  begins = so_far-begin;
  events = so_far-events;
  turns = so_far-turn;
  counted = so_far-counted;
  within = so_far-within;
  more = so_far-more c.stretches_go_on.ensures.event;
  ends = so_far-ends;
}

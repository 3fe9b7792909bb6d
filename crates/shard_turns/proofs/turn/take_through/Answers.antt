-- The shard went through the window.
use Rattle.shard_turns.proofs.turn.take_through.Goals as goal

pub returns-clause-behind : goal.returns-clause-behind
returns-clause-behind g c = record {
  done = record { gone = c.in_ok-advance.ensures.gone; places = c.in_ok-advance.ensures.places };
  stands = c.in_ok-advance.ensures.stands;
}

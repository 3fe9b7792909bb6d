-- The shard that was found stands beside the good first run by itself.
use Rattle.std.proofs.Common.{arith}
use Rattle.shard_turns.proofs.turn.shard_turn.Goals as goal

pub returns-in-Some-clause-behind : goal.returns-in-Some-clause-behind
returns-in-Some-clause-behind g c = record { done = c.in-Some.ensures.done; stands = c.stands.ensures.stands }

pub returns-in-Some-clause-ticks : goal.returns-in-Some-clause-ticks
returns-in-Some-clause-ticks g c tally = let most = c.found_behind.ensures tally in omega (arith, most)

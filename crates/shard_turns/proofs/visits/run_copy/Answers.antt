-- The copy went through the window, or is left as it was.
use Rattle.std.proofs.Common.{arith}
use Rattle.fault_shards.specs.Shards.{representatives_of}
use Rattle.shard_turns.proofs.Seats.{settles-none}
use Rattle.shard_turns.proofs.Steps.{copy-rises}
use Rattle.shard_turns.proofs.visits.run_copy.Goals as goal

pub returns-then-not-stands_before-clause-seat : goal.returns-then-not-stands_before-clause-seat
returns-then-not-stands_before-clause-seat g c = settles-none (representatives_of c.args.round.now.shards.now) c.args.round.now.board.now c.args.seat c.requires.seat

pub returns-then-not-stands_before-clause-ticks : goal.returns-then-not-stands_before-clause-ticks
returns-then-not-stands_before-clause-ticks g c tally = let more = c.steps_rise.ensures tally in omega (arith, more)

pub returns-clause-ticks : goal.returns-clause-ticks
returns-clause-ticks g c tally =
    copy-rises g.N.World.design g.N.World.plan tally (representatives_of c.args.round.now.shards.now) c.args.round.now.window.now.before c.args.round.now.window.now.through c.args.number
    c.args.copy c.in_ok-copy.copy c.args.steps.now c.shard_turn.new.steps (c.stands_before.ensures.0 c.if-not-stands_before.false) c.in_ok-copy.ensures.behind.done (c.in_ok-copy.ensures.ticks tally)

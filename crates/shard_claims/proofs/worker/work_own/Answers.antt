-- A worker that claimed goes on, and a new one claims.
use Rattle.std.proofs.Common.{true, refl}
use Rattle.fault_shards.specs.Shards.{representatives_of}
use Rattle.shard_claims.specs.WorkerLaws.{has-claimed, is-new}
use Rattle.shard_claims.proofs.Claiming.{has-gone, stands-claimed}
use Rattle.shard_claims.proofs.Ticks.{dry-rises, new-rises}
use Rattle.shard_claims.proofs.worker.work_own.Goals as goal

pub take_turns-requires-clause-own : goal.take_turns-requires-clause-own
take_turns-requires-clause-own g c κs within = c.requires.fresh.own

pub take_turns-requires-clause-each : goal.take_turns-requires-clause-each
take_turns-requires-clause-each g c κs within =
    (has-claimed (representatives_of c.args.round.now.shards.now) c.args.round.now.board.now c.args.round.now.window.now.before c.args.seated.worker c.if-dry.true c.requires.at).keeps.each

pub returns-then-dry-clause-through : goal.returns-then-dry-clause-through
returns-then-dry-clause-through g c =
    stands-claimed (representatives_of c.args.round.now.shards.now) c.args.round.now.board.now c.args.round.now.window.now.through _ c.if-dry.true
    (has-gone (representatives_of c.args.round.now.shards.now) c.args.round.now.board.now c.args.round.now.window.now.before c.args.round.now.window.now.through c.args.seated.worker _ c.if-dry.true
    c.requires.at c.in_ok-backup.ensures.numbers c.in_ok-backup.ensures.through)

pub claim_all-requires-clause-first : goal.claim_all-requires-clause-first
claim_all-requires-clause-first g c κs within =
    (is-new (representatives_of c.args.round.now.shards.now) c.args.round.now.board.now c.args.round.now.window.now.before c.args.seated.worker c.if-dry.false c.requires.at).1

pub claim_all-requires-clause-new : goal.claim_all-requires-clause-new
claim_all-requires-clause-new g c κs within =
    (is-new (representatives_of c.args.round.now.shards.now) c.args.round.now.board.now c.args.round.now.window.now.before c.args.seated.worker c.if-dry.false c.requires.at).0

pub returns-clause-backup : goal.returns-clause-backup
returns-clause-backup g c = record { own = c.requires.fresh.own; same = refl }

pub returns-then-dry-clause-ticks : goal.returns-then-dry-clause-ticks
returns-then-dry-clause-ticks g c tally =
    dry-rises g.N.World.design g.N.World.plan tally c.args.seated.worker (record c.args.seated.worker { shards = c.in_ok-backup.shards }) c.args.steps.now c.take_turns.new.steps c.if-dry.true c.if-dry.true
    (c.in_ok-backup.ensures.ticks tally)

pub returns-clause-ticks : goal.returns-clause-ticks
returns-clause-ticks g c tally =
    new-rises g.N.World.design g.N.World.plan tally c.args.seated.worker (record c.args.seated.worker { seat = c.in_ok-seat.seat; shards = c.in_ok-seat.shards; dry = true }) c.args.steps.now
    c.claim_all.new.steps c.if-dry.false refl (c.in_ok-seat.ensures.ticks tally)

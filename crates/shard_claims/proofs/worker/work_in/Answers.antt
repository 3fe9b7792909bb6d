-- What the worker's own shards take, and then those of the slots.
use Rattle.std.proofs.Common.{arith}
use Rattle.shard_turns.proofs.Seats.{fresh-stays, visited-on}
use Rattle.shard_claims.proofs.worker.work_in.Goals as goal

pub work_beside-requires-clause-fresh : goal.work_beside-requires-clause-fresh
work_beside-requires-clause-fresh g c κs within =
    fresh-stays c.args.round.now.backups.now c.args.seated.backup c.in_ok-own.own.backup c.requires.fresh c.in_ok-own.ensures.backup

pub returns-clause-visited : goal.returns-clause-visited
returns-clause-visited g c =
    visited-on c.args.round.now.backups.now c.args.seated.backup c.in_ok-own.own.backup c.in_ok-after.after.backup c.in_ok-own.ensures.backup c.in_ok-after.ensures.visited

pub returns-clause-ticks : goal.returns-clause-ticks
returns-clause-ticks g c tally =
    let own = c.in_ok-own.ensures.ticks tally in
    let same = c.in_ok-after.ensures.same tally in
    let visits = c.in_ok-after.ensures.ticks tally in
    omega (arith, own, same, visits)

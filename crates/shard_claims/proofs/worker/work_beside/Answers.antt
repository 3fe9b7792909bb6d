-- The worker has claimed, and its seat settles more words.
use Rattle.std.proofs.Common.{◌<◌, subst, refl, arith}
use Rattle.copy_laws.specs.Windows.{IsWindow}
use Rattle.good_trace.specs.Traces.{WindowKept}
use Rattle.fault_shards.specs.Shards.{representatives_of}
use Rattle.shard_claims.specs.WorkerLaws.{claimed-behind, dry-behind}
use Rattle.shard_claims.proofs.Claiming.{settles-on, stands-claimed}
use Rattle.shard_claims.proofs.worker.work_beside.Goals as goal

pub visit_slots-requires-clause-seat : goal.visit_slots-requires-clause-seat
visit_slots-requires-clause-seat g c κs within =
    let window = subst (λ (w : WindowKept). IsWindow g.N.World.design g.N.World.plan w.before w.through w.ending) c.window.ensures c.begins-first.ensures.window in
    let more : c.args.round.now.window.now.before < c.args.round.now.window.now.through = window.some in
    (claimed-behind (representatives_of c.args.round.now.shards.now) c.args.round.now.board.now c.args.round.now.window.now.through c.args.seated.worker (omega (arith, more)) c.requires.at).own

pub returns-clause-through : goal.returns-clause-through
returns-clause-through g c =
    let window = subst (λ (w : WindowKept). IsWindow g.N.World.design g.N.World.plan w.before w.through w.ending) c.window.ensures c.begins-first.ensures.window in
    let more : c.args.round.now.window.now.before < c.args.round.now.window.now.through = window.some in
    stands-claimed (representatives_of c.args.round.now.shards.now) c.args.round.now.board.now c.args.round.now.window.now.through _
    (dry-behind (representatives_of c.args.round.now.shards.now) c.args.round.now.board.now c.args.round.now.window.now.through c.args.seated.worker (omega (arith, more)) c.requires.at)
    (settles-on (representatives_of c.args.round.now.shards.now) c.args.round.now.board.now c.args.round.now.window.now.through c.args.seated.worker.seat c.in_ok-seat.seat
    c.args.seated.worker.shards.items
    (claimed-behind (representatives_of c.args.round.now.shards.now) c.args.round.now.board.now c.args.round.now.window.now.through c.args.seated.worker (omega (arith, more)) c.requires.at)
    c.in_ok-seat.ensures.seat)

pub returns-clause-same : goal.returns-clause-same
returns-clause-same g c tally = refl

-- All slots are visited, each once.
use Rattle.std.proofs.Common.{length, refl, ap, sym, subst, ◌∙◌, arith}
use Rattle.std.specs.List.{All}
use Rattle.fault_shards.specs.Shards.{representatives_of}
use Rattle.shard_crew.specs.Crews.{IsCrewSeat}
use Rattle.shard_crew.specs.Leaving.{AreNumbered}
use Rattle.shard_rounds.proofs.Backing.{all-numbered, round-ticks}
use Rattle.shard_rounds.proofs.step.run_round.Goals as goal

pub open_backups-requires-clause-numbered : goal.open_backups-requires-clause-numbered
open_backups-requires-clause-numbered g c κs within =
    subst (All (AreNumbered (representatives_of c.args.place.now.shards.now))) (sym c.deref.ensures.value)
    (all-numbered (representatives_of c.args.place.now.shards.now) c.args.place.now.board.now c.args.window.now.before (length c.args.steps.now) c.args.workers.now.items c.requires.at)

pub open_backups-requires-clause-few : goal.open_backups-requires-clause-few
open_backups-requires-clause-few g c κs within =
    let same = ap length c.deref.ensures.value in
    let count = c.requires.at.count_is in
    let few = c.requires.counters.1 in
    omega (arith, same, count, few)

pub go_round-requires-clause-backups : goal.go_round-requires-clause-backups
go_round-requires-clause-backups g c κs within = c.in_ok-backups.ensures.slots

pub go_round-requires-clause-seat : goal.go_round-requires-clause-seat
go_round-requires-clause-seat g c κs within =
    subst (λ n. IsCrewSeat c.in_ok-backups.backups n c.in_ok-backups.first) (ap length c.deref.ensures.value ∙ c.requires.at.count_is) c.in_ok-backups.ensures.seat

pub end-requires-clause-own : goal.end-requires-clause-own
end-requires-clause-own g c κs within = (c.in_ok-next.ensures.visited c.in_ok-backups.first refl).own

pub end-requires-clause-whole : goal.end-requires-clause-whole
end-requires-clause-whole g c κs within = (c.in_ok-next.ensures.visited c.in_ok-backups.first refl).share ∙ c.in_ok-backups.ensures.whole

pub end-requires-clause-dry : goal.end-requires-clause-dry
end-requires-clause-dry g c κs within = (c.in_ok-next.ensures.visited c.in_ok-backups.first refl).dry (let some = c.requires.counters.0 in omega (arith, some))

pub returns-clause-ticks : goal.returns-clause-ticks
returns-clause-ticks g c =
    round-ticks g.N.World.design g.N.World.plan c.args.place.now.shards.now c.args.window.now.before c.args.window.now.through c.in_ok-backups.backups c.in_ok-next.last c.args.workers.now.items
    c.go_round.new.workers.items c.args.steps.now c.go_round.new.steps c.in_ok-backups.ensures.slots c.in_ok-end.ensures c.in_ok-next.ensures.ticks

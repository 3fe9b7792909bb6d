-- One more.
use Rattle.std.proofs.Common.{◌≤◌, length, refl, sym, subst}
use Rattle.std.proofs.lemmas.List.{take_all}
use Rattle.shard_findings.proofs.shard_turns.Seats.{stays-more}
use Rattle.shard_findings.specs.shard_turns.Backups.{slot_calls}
use Rattle.shard_crew.specs.Leaving.{AreLeft, HaveSlots, shards_of, shards_of_all}
use Rattle.shard_crew.proofs.Left.{workers-more}
use Rattle.shard_crew.proofs.leaving.leave_copies.Goals as goal

pub workers-init : goal.workers-init
workers-init g c = record { stays = record { own = c.requires.own; same = refl }; left = refl }

pub leave_worker-requires-clause-own : goal.leave_worker-requires-clause-own
leave_worker-requires-clause-own g c κs within = c.workers.invariant.stays.own

pub leave_worker-requires-clause-slots : goal.leave_worker-requires-clause-slots
leave_worker-requires-clause-slots g c κs within = subst (HaveSlots c.args.backups.now) (sym c.worker-item.is) (c.requires.slots c.workers.worker-index c.worker-item.result c.workers-test.true)

pub workers-preserved : goal.workers-preserved
workers-preserved g c = record {
  stays = stays-more c.args.backups.now c.args.seat c.workers.seat c.in_ok-seat.seat c.workers.invariant.stays c.in_ok-seat.ensures.stays;
  left =
      workers-more c.args.workers.now c.workers.worker-index c.worker-item.result (slot_calls c.args.seat) (slot_calls c.workers.seat) (slot_calls c.in_ok-seat.seat) c.workers-test.true
      c.workers.invariant.left (subst (λ worker. AreLeft (shards_of worker) (slot_calls c.workers.seat) (slot_calls c.in_ok-seat.seat)) c.worker-item.is c.in_ok-seat.ensures.left);
}

pub returns-clause-stays : goal.returns-clause-stays
returns-clause-stays g c = c.workers.invariant.stays

pub returns-clause-left : goal.returns-clause-left
returns-clause-left g c =
    let past : length c.args.workers.now ≤ c.workers.worker-index = c.workers-test.false in
    subst (λ l. AreLeft (shards_of_all l) (slot_calls c.args.seat) (slot_calls c.workers.seat)) (take_all c.workers.worker-index c.args.workers.now past) c.workers.invariant.left

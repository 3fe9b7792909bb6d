-- One more.
use Rattle.std.proofs.Common.{◌≤◌, length, refl, sym, subst}
use Rattle.std.proofs.lemmas.List.{take_all}
use Rattle.shard_findings.proofs.shard_turns.Seats.{stays-more}
use Rattle.shard_findings.specs.shard_turns.Backups.{slot_calls}
use Rattle.shard_crew.specs.Leaving.{AreLeft, HasSlot, IsLeft}
use Rattle.shard_crew.proofs.Left.{shards-more}
use Rattle.shard_crew.proofs.leaving.leave_shards.Goals as goal

pub shards-init : goal.shards-init
shards-init g c = record { stays = record { own = c.requires.own; same = refl }; left = refl }

pub leave_shard-requires-clause-own : goal.leave_shard-requires-clause-own
leave_shard-requires-clause-own g c κs within = c.shards.invariant.stays.own

pub leave_shard-requires-clause-slot : goal.leave_shard-requires-clause-slot
leave_shard-requires-clause-slot g c κs within = subst (HasSlot c.args.backups.now) (sym c.claimed-item.is) (c.requires.slots c.shards.claimed-index c.claimed-item.result c.shards-test.true)

pub shards-preserved : goal.shards-preserved
shards-preserved g c = record {
  stays = stays-more c.args.backups.now c.args.seat c.shards.seat c.in_ok-seat.seat c.shards.invariant.stays c.in_ok-seat.ensures.stays;
  left =
      shards-more c.args.shards.now c.shards.claimed-index c.claimed-item.result (slot_calls c.args.seat) (slot_calls c.shards.seat) (slot_calls c.in_ok-seat.seat) c.shards-test.true
      c.shards.invariant.left (subst (λ claimed. IsLeft claimed (slot_calls c.shards.seat) (slot_calls c.in_ok-seat.seat)) c.claimed-item.is c.in_ok-seat.ensures.left);
}

pub returns-clause-stays : goal.returns-clause-stays
returns-clause-stays g c = c.shards.invariant.stays

pub returns-clause-left : goal.returns-clause-left
returns-clause-left g c =
    let past : length c.args.shards.now ≤ c.shards.claimed-index = c.shards-test.false in
    subst (λ l. AreLeft l (slot_calls c.args.seat) (slot_calls c.shards.seat)) (take_all c.shards.claimed-index c.args.shards.now past) c.shards.invariant.left

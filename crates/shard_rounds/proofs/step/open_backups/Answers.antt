-- Each shard has a slot.
use Rattle.std.proofs.Common.{length, ◌∙◌}
use Rattle.std.proofs.lemmas.List.Elements.{All-weaker}
use Rattle.fault_shards.specs.Shards.{representatives_of}
use Rattle.shard_crew.specs.Leaving.{AreNumbered, HaveSlots}
use Rattle.shard_crew.proofs.Visiting.{slot-each}
use Rattle.shard_rounds.proofs.Backing.{backed-first, backed-on}
use Rattle.shard_rounds.proofs.step.open_backups.Goals as goal

pub leave_copies-requires-clause-own : goal.leave_copies-requires-clause-own
leave_copies-requires-clause-own g c κs within = c.in_ok-backups.ensures.1

pub leave_copies-requires-clause-slots : goal.leave_copies-requires-clause-slots
leave_copies-requires-clause-slots g c κs within =
    All-weaker (AreNumbered (representatives_of c.args.place.now.shards.now)) (HaveSlots c.in_ok-backups.backups)
    (λ worker low. slot-each (representatives_of c.args.place.now.shards.now) c.in_ok-backups.backups worker (c.in_ok-backups.ensures.0 ∙ c.count.ensures) low) c.args.workers.now c.requires.numbered

pub returns-then-count-lt2 : goal.returns-then-count-lt2
returns-then-count-lt2 g c =
    backed-first c.args.place.now.shards.now (length c.args.workers.now) c.in_ok-backups.backups c.in_ok-backups.seat c.requires.few (c.in_ok-backups.ensures.0 ∙ c.count.ensures)
    c.in_ok-backups.ensures.1 c.in_ok-backups.ensures.2

pub returns : goal.returns
returns g c =
    backed-on c.args.place.now.shards.now (length c.args.workers.now) c.in_ok-backups.backups c.in_ok-backups.seat c.in_ok-seat.seat
    (backed-first c.args.place.now.shards.now (length c.args.workers.now) c.in_ok-backups.backups c.in_ok-backups.seat c.requires.few (c.in_ok-backups.ensures.0 ∙ c.count.ensures)
    c.in_ok-backups.ensures.1 c.in_ok-backups.ensures.2) c.in_ok-seat.ensures.stays

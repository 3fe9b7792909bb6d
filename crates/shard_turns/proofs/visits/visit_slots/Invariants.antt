-- The visits that were drawn so far are done.
use Rattle.std.proofs.Common.{◌≡◌, ◌≤◌, ◌-◌}
use Rattle.own_gradings.specs.Numbers.{RisesOwn}
use Rattle.fault_shards.specs.Shards.{representatives_of}
use Rattle.verdict_words.specs.Seats.{view}
use Rattle.shard_turns.specs.Backups.{IsBackupSeat, visited_by, visits_in}
use Rattle.shard_turns.specs.Visits.{SettlesMore, visit_steps}
use Rattle.shard_turns.proofs.visits.visit_slots.Given as goal

abbrev pub invariant-visits : goal.invariant-visits
invariant-visits g l = record {
  seat : SettlesMore (representatives_of l.round.shards.now) l.round.board.now l.fn.seat l.seat;
  own : IsBackupSeat l.round.backups.now l.backup;
  share : (view l.backup.visits).share ≡ (view l.fn.backup.visits).share;
  calls : (view l.backup.visits).calls ≤ visits_in l.round.backups.now;
  ticks : RisesOwn g.N.World.design g.N.World.plan (λ tally. visit_steps tally (representatives_of l.round.shards.now) l.round.window.now.before (visited_by l.backup))
      (λ tally. visit_steps tally (representatives_of l.round.shards.now) l.round.window.now.through (visited_by l.backup)) l.fn.steps l.steps;
}

abbrev pub decreases-visits : goal.decreases-visits
decreases-visits g l = visits_in l.round.backups.now - (view l.backup.visits).calls

-- So far the room is on its way to the place at the moment.
use Rattle.std.proofs.Common.{◌≡◌, ℕ, ◌-◌}
use Rattle.lockstep_turn.specs.lockstep_slots.Places.{Place}
use Rattle.lockstep_turn.specs.slot_laws.Slots.{IsRoomIn, StopsAt, further}
use Rattle.lockstep_turn.proofs.slot_laws.Further.{IsOnTheWay}
use Rattle.lockstep_phase.proofs.pass.pass_until.Given as goal

abbrev pub invariant-stretch : goal.invariant-stretch
invariant-stretch g l = record {
  counts : l.room.counts ≡ l.fn.room.counts;
  way : (number : ℕ) (place : Place) (count : ℕ) →
      IsRoomIn g.N.World.design g.N.World.plan l.view.window.now.before l.view.window.now.through number place l.fn.room.runner l.fn.room.before l.fn.room.behind →
      StopsAt g.N.World.design place l.fn.room.before.moment l.target count →
      IsOnTheWay g.N.World.design g.N.World.plan l.view.window.now.before l.view.window.now.through number (further count place) l.target l.room.runner l.room.before l.room.behind;
}

abbrev pub decreases-stretch : goal.decreases-stretch
decreases-stretch g l = l.target - l.room.before.moment

-- So far the objects hold what is shown.
use Rattle.std.proofs.Common.{◌≡◌, map, take}
use Rattle.vf_base.specs.Base.{object_number}
use Rattle.lockstep_exchange.specs.block_events.Runners.{IsWhole, machine_of, state_of}
use Rattle.lockstep_exchange.specs.Putting.{ValuesArePut}
use Rattle.lockstep_room.specs.Rooms.{values_among}
use Rattle.lockstep_room.specs.Rooms.{MayStandSo}
use Rattle.lockstep_room.proofs.following.follow_objects.Given as goal

abbrev pub invariant-objects : goal.invariant-objects
invariant-objects g l = record {
  machine : machine_of l.runner ≡ machine_of l.fn.runner;
  put : (of : MayStandSo (machine_of l.fn.runner).design (g.S.ShownState.shows l.good) (state_of l.fn.runner)) →
      ValuesArePut (values_among (map object_number (take l.place l.objects)) of.good) (state_of l.fn.runner) (state_of l.runner);
  whole : IsWhole l.runner;
}

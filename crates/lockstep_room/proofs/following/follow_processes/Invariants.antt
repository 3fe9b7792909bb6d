-- So far the processes stand where they are shown to.
use Rattle.std.proofs.Common.{◌≡◌, map, take}
use Rattle.vf_base.specs.Base.{process_number}
use Rattle.lockstep_exchange.specs.block_events.Runners.{IsWhole, machine_of, state_of}
use Rattle.lockstep_exchange.specs.Putting.{ProcessesArePut}
use Rattle.lockstep_room.specs.Rooms.{processes_among}
use Rattle.lockstep_room.specs.Rooms.{MayStandSo}
use Rattle.lockstep_room.proofs.following.follow_processes.Given as goal

abbrev pub invariant-processes : goal.invariant-processes
invariant-processes g l = record {
  machine : machine_of l.runner ≡ machine_of l.fn.runner;
  put : (of : MayStandSo (machine_of l.fn.runner).design (g.S.ShownState.shows l.good) (state_of l.fn.runner)) →
      ProcessesArePut (processes_among (map process_number (take l.place l.processes)) of.good) (state_of l.fn.runner) (state_of l.runner);
  whole : IsWhole l.runner;
}

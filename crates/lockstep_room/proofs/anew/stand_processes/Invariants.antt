-- So far they are as shown.
use Rattle.std.proofs.Common.{◌≡◌}
use Rattle.lockstep_exchange.specs.block_events.Runners.{IsWhole, machine_of, state_of}
use Rattle.lockstep_exchange.specs.Putting.{ProcessesArePut}
use Rattle.lockstep_room.specs.Rooms.{processes_below}
use Rattle.lockstep_room.specs.Rooms.{MayStandSo}
use Rattle.lockstep_room.proofs.anew.stand_processes.Given as goal

abbrev pub invariant-processes : goal.invariant-processes
invariant-processes g l = record {
  machine : machine_of l.runner ≡ machine_of l.fn.runner;
  put : (of : MayStandSo (machine_of l.fn.runner).design (g.S.ShownState.shows l.good) (state_of l.fn.runner)) →
      ProcessesArePut (processes_below l.number of.good) (state_of l.fn.runner) (state_of l.runner);
  whole : IsWhole l.runner;
}

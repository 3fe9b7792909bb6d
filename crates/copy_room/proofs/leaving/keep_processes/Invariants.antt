use Rattle.std.proofs.Common.{◌≡◌, ◌+◌}
use Rattle.v_design.specs.States.{process_at}
use Rattle.between_slots.specs.Between.{state_through}
use Rattle.copy_between.specs.Differing.{IsDifference, AreKeptBelow}
use Rattle.copy_between.specs.Beside.{TellsOwn}
use Rattle.machine.specs.Standing.{state_kept}
use Rattle.copy_room.proofs.leaving.keep_processes.Given as goal

abbrev pub invariant-processes : goal.invariant-processes
invariant-processes g l =
    let good = state_through g.N.World.design g.N.World.plan (l.window.before + l.slot) in
    record {
      rest : l.copy ≡ record l.fn.copy { states = l.copy.states; updates = l.copy.updates };
      states : AreKeptBelow (λ process. TellsOwn g.N.World.design process (process_at good process).activity (process_at (state_kept l.room) process).activity) l.number l.fn.copy.states
          l.copy.states;
      updates : AreKeptBelow (λ process. IsDifference (process_at good process).later (process_at (state_kept l.room) process).later) l.number l.fn.copy.updates l.copy.updates;
    }

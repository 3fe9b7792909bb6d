use Rattle.std.proofs.Common.{◌+◌, length}
use Rattle.between_slots.specs.Between.{activity_through}
use Rattle.process_code.specs.declared.state.ProcState.{ProcState as StateKept}
use Rattle.good_trace.specs.RunsKept.{Stands}
use Rattle.moment_parts.specs.StatesKept.{AreStatesOf}
use Rattle.moment_parts.proofs.Below.{AreBelow}
use Rattle.moment_parts.proofs.going.put_states.Given as goal

abbrev pub invariant-processes : goal.invariant-processes
invariant-processes g l = record {
  each : AreBelow StateKept (λ process own. Stands g.N.World.design process (activity_through g.N.World.design g.N.World.plan (l.window.before + l.slot) process) own) l.number
      (length g.N.World.design.processes) l.states.items;
  states : AreStatesOf g.N.World.design l.states.items;
}

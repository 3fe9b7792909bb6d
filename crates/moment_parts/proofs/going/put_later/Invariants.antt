use Rattle.std.proofs.Common.{◌≡◌, ◌+◌, length, map, Vec, Global}
use Rattle.v_design.specs.Plain.{due_of}
use Rattle.v_design.specs.declared.plan.Due.{Due}
use Rattle.between_slots.specs.Updates.{updates_through}
use Rattle.moment_parts.proofs.Below.{AreBelow}
use Rattle.moment_parts.proofs.going.put_later.Given as goal

abbrev pub invariant-processes : goal.invariant-processes
invariant-processes g l =
    AreBelow (Vec Due Global) (λ process list. map due_of list.items ≡ updates_through g.N.World.design g.N.World.plan (l.window.before + l.slot) process) l.number
    (length g.N.World.design.processes) l.later.items

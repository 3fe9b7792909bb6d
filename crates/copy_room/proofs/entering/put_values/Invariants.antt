use Rattle.std.proofs.Common.{◌+◌}
use Rattle.v_design.specs.Designs.{faulty_machine}
use Rattle.copy_room.specs.Putting.{IsPlaced, CanPut}
use Rattle.copy_room.proofs.entering.put_values.Given as goal

abbrev pub invariant-objects : goal.invariant-objects
invariant-objects g l =
    (of : CanPut g.N.World.design g.N.World.plan (l.window.before + l.slot) l.copy 0 0 l.fn.room) → IsPlaced (faulty_machine g.N.World.design of.fault) of.faulty l.number 0 l.room

use Rattle.std.proofs.Common.{◌+◌, length}
use Rattle.v_design.specs.Designs.{faulty_machine}
use Rattle.copy_room.specs.Putting.{IsPlaced, CanPut}
use Rattle.copy_room.proofs.entering.put_processes.Given as goal

abbrev pub invariant-processes : goal.invariant-processes
invariant-processes g l =
    (of : CanPut g.N.World.design g.N.World.plan (l.window.before + l.slot) l.copy (length g.N.World.design.objects) 0 l.fn.room) →
    IsPlaced (faulty_machine g.N.World.design of.fault) of.faulty (length g.N.World.design.objects) l.number l.room

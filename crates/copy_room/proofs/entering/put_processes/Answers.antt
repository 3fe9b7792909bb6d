-- One process more.
use Rattle.std.proofs.Common.{◌+◌, length}
use Rattle.copy_room.proofs.Entered.{can-go-on}
use Rattle.copy_room.proofs.entering.put_processes.Goals as goal

pub processes-init : goal.processes-init
processes-init g c = λ of. of.placed

pub put_process-requires-clause-put : goal.put_process-requires-clause-put
put_process-requires-clause-put g c κs within =
    let objects = length g.N.World.design.objects in
    can-go-on g.N.World.design g.N.World.plan (c.args.window.now.before + c.args.slot) c.args.copy.now objects 0 objects c.processes.number c.args.room.now c.processes.room c.requires.put
    (c.processes.invariant c.requires.put)

pub processes-preserved : goal.processes-preserved
processes-preserved g c = λ of.
    let objects = length g.N.World.design.objects in
    c.in_ok-put_process.ensures
    (can-go-on g.N.World.design g.N.World.plan (c.args.window.now.before + c.args.slot) c.args.copy.now objects 0 objects c.processes.number c.args.room.now c.processes.room of
    (c.processes.invariant of))

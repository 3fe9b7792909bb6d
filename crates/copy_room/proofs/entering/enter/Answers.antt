-- The room stands in the state.
use Rattle.std.proofs.Common.{◌+◌, length, subst}
use Rattle.v_design.specs.Designs.{faulty_machine}
use Rattle.v_design.specs.Plain.{fault_of}
use Rattle.copy_room.specs.Putting.{IsPlaced}
use Rattle.copy_room.proofs.Entered.{can-begin, can-go-on, may-stand-between, has-entered}
use Rattle.copy_room.proofs.entering.enter.Goals as goal

pub clear-requires : goal.clear-requires
clear-requires g c = c.requires.room.standing

pub put_values-requires-clause-put : goal.put_values-requires-clause-put
put_values-requires-clause-put g c κs within =
    can-begin c.args.setup.now.codes g.N.World.design g.N.World.plan (c.args.window.now.before + c.args.slot) (fault_of c.args.fault) c.args.time c.args.copy.now c.args.room.now c.clear.new.self
    c.requires.copy c.counts_of-counts.ensures.codes c.requires.room c.in_ok-clear.ensures.machine c.in_ok-clear.ensures.state c.in_ok-clear.ensures.cleared c.in_ok-clear.ensures.notes

pub put_processes-requires-clause-put : goal.put_processes-requires-clause-put
put_processes-requires-clause-put g c κs within =
    let of = c.requires.copy in
    let number = c.args.window.now.before + c.args.slot in
    let begun = can-begin c.args.setup.now.codes g.N.World.design g.N.World.plan number (fault_of c.args.fault) c.args.time c.args.copy.now c.args.room.now c.clear.new.self
    of c.counts_of-counts.ensures.codes c.requires.room c.in_ok-clear.ensures.machine c.in_ok-clear.ensures.state c.in_ok-clear.ensures.cleared c.in_ok-clear.ensures.notes in
    can-go-on g.N.World.design g.N.World.plan number c.args.copy.now 0 0 (length g.N.World.design.objects) 0 c.clear.new.self c.put_values.new.room begun
    (subst (λ n. IsPlaced (faulty_machine g.N.World.design (fault_of c.args.fault)) of.faulty n 0 c.put_values.new.room) c.counts_of-counts.ensures.objects (c.put_values.ensures begun))

pub stand_between-requires-clause-cleared : goal.stand_between-requires-clause-cleared
stand_between-requires-clause-cleared g c =
    let of = c.requires.copy in
    let number = c.args.window.now.before + c.args.slot in
    let begun = can-begin c.args.setup.now.codes g.N.World.design g.N.World.plan number (fault_of c.args.fault) c.args.time c.args.copy.now c.args.room.now c.clear.new.self
    of c.counts_of-counts.ensures.codes c.requires.room c.in_ok-clear.ensures.machine c.in_ok-clear.ensures.state c.in_ok-clear.ensures.cleared c.in_ok-clear.ensures.notes in
    (c.in_ok-put_processes.ensures
    (can-go-on g.N.World.design g.N.World.plan number c.args.copy.now 0 0 (length g.N.World.design.objects) 0 c.clear.new.self c.put_values.new.room begun
    (subst (λ n. IsPlaced (faulty_machine g.N.World.design (fault_of c.args.fault)) of.faulty n 0 c.put_values.new.room) c.counts_of-counts.ensures.objects (c.put_values.ensures begun)))).cleared

pub stand_between-requires-clause-notes : goal.stand_between-requires-clause-notes
stand_between-requires-clause-notes g c =
    let of = c.requires.copy in
    let number = c.args.window.now.before + c.args.slot in
    let begun = can-begin c.args.setup.now.codes g.N.World.design g.N.World.plan number (fault_of c.args.fault) c.args.time c.args.copy.now c.args.room.now c.clear.new.self
    of c.counts_of-counts.ensures.codes c.requires.room c.in_ok-clear.ensures.machine c.in_ok-clear.ensures.state c.in_ok-clear.ensures.cleared c.in_ok-clear.ensures.notes in
    (c.in_ok-put_processes.ensures
    (can-go-on g.N.World.design g.N.World.plan number c.args.copy.now 0 0 (length g.N.World.design.objects) 0 c.clear.new.self c.put_values.new.room begun
    (subst (λ n. IsPlaced (faulty_machine g.N.World.design (fault_of c.args.fault)) of.faulty n 0 c.put_values.new.room) c.counts_of-counts.ensures.objects (c.put_values.ensures begun)))).no_notes

pub stand_between-requires-clause-state : goal.stand_between-requires-clause-state
stand_between-requires-clause-state g c =
    let of = c.requires.copy in
    let number = c.args.window.now.before + c.args.slot in
    let machine = faulty_machine g.N.World.design (fault_of c.args.fault) in
    let begun = can-begin c.args.setup.now.codes g.N.World.design g.N.World.plan number (fault_of c.args.fault) c.args.time c.args.copy.now c.args.room.now c.clear.new.self
    of c.counts_of-counts.ensures.codes c.requires.room c.in_ok-clear.ensures.machine c.in_ok-clear.ensures.state c.in_ok-clear.ensures.cleared c.in_ok-clear.ensures.notes in
    may-stand-between g.N.World.design (fault_of c.args.fault) of.faulty c.put_processes.new.room of.between
    (subst (λ n. IsPlaced machine of.faulty (length g.N.World.design.objects) n c.put_processes.new.room) c.counts_of-counts.ensures.processes
    (c.in_ok-put_processes.ensures
    (can-go-on g.N.World.design g.N.World.plan number c.args.copy.now 0 0 (length g.N.World.design.objects) 0 c.clear.new.self c.put_values.new.room begun
    (subst (λ n. IsPlaced machine of.faulty n 0 c.put_values.new.room) c.counts_of-counts.ensures.objects (c.put_values.ensures begun)))))

pub returns : goal.returns
returns g c = λ of.
    let number = c.args.window.now.before + c.args.slot in
    let machine = faulty_machine g.N.World.design (fault_of c.args.fault) in
    let begun = can-begin c.args.setup.now.codes g.N.World.design g.N.World.plan number (fault_of c.args.fault) c.args.time c.args.copy.now c.args.room.now c.clear.new.self
    of c.counts_of-counts.ensures.codes c.requires.room c.in_ok-clear.ensures.machine c.in_ok-clear.ensures.state c.in_ok-clear.ensures.cleared c.in_ok-clear.ensures.notes in
    has-entered g.N.World.design (fault_of c.args.fault) of.faulty c.put_processes.new.room c.stand_between.new.self of.between
    (subst (λ n. IsPlaced machine of.faulty (length g.N.World.design.objects) n c.put_processes.new.room) c.counts_of-counts.ensures.processes
    (c.in_ok-put_processes.ensures
    (can-go-on g.N.World.design g.N.World.plan number c.args.copy.now 0 0 (length g.N.World.design.objects) 0 c.clear.new.self c.put_values.new.room begun
    (subst (λ n. IsPlaced machine of.faulty n 0 c.put_values.new.room) c.counts_of-counts.ensures.objects (c.put_values.ensures begun)))))
    c.stand_between.ensures.machine c.stand_between.ensures.state c.stand_between.ensures.standing c.stand_between.ensures.next c.stand_between.ensures.between c.stand_between.ensures.notes

-- The step of the good machine's run is compared.
use Rattle.std.proofs.Common.{length}
use Rattle.vf_base.specs.Base.{process_number}
use Rattle.net_state.specs.States.{values_in}
use Rattle.process_table.specs.Arranged.{table_of}
use Rattle.runs_beside.proofs.Choosing.{Serve, match-known, reads-there}
use Rattle.runs_beside.proofs.beside.RunsBeside.known_step.Goals as goal

pub known_step-requires : goal.known_step-requires
known_step-requires c = λ one there.
    let s = c.requires.stands in
    let serve : Serve = record { known = c.known_steps_go_on.ensures; steps = c.own_runs.ensures.steps; runs = c.own_runs.ensures.runs; texts = c.shared_runs.ensures.runs; counts = c.own_steps_count.ensures; time = c.own_runs.ensures.time } in
    reads-there serve s.machine s.others s.at (process_number c.args.process) c.args.run c.in-Some.good.now (c.in-Some.ensures s.machine s.others s.at s.ticked s.goes s.here)
    (length (values_in c.args.nets.now)) (length (table_of c.args.table.now).design.objects) c.requires.objects
    (c.reads_are_there.ensures s.machine s.at.state s.here.table_is (process_number c.args.process)) one there

pub returns : goal.returns
returns c =
    let serve : Serve = record { known = c.known_steps_go_on.ensures; steps = c.own_runs.ensures.steps; runs = c.own_runs.ensures.runs; texts = c.shared_runs.ensures.runs; counts = c.own_steps_count.ensures; time = c.own_runs.ensures.time } in
    match-known serve c.args.self.now c.args.table.now c.args.nets.now c.args.phase (process_number c.args.process) c.args.run c.requires.run c.in-Some.good.now c.in-Some.ensures
    c.known_step.result c.known_step.ensures

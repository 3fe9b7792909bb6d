-- The run of the number is looked at where it begins.
use Rattle.vf_base.specs.Base.{process_number}
use Rattle.runs_beside.proofs.Choosing.{Serve, begin-alike, begin-none, begin-otherwise, low-here}
use Rattle.runs_beside.proofs.beside.RunsBeside.run_to_begin.Goals as goal

pub returns-in_default : goal.returns-in_default
returns-in_default c = λ machine others at ticked goes here.
    let serve : Serve = record { known = c.known_steps_go_on.ensures; steps = c.own_runs.ensures.steps; runs = c.own_runs.ensures.runs; texts = c.shared_runs.ensures.runs; counts = c.own_steps_count.ensures; time = c.own_runs.ensures.time } in
    begin-none serve machine others at ticked c.args.self.now goes c.args.table.now c.args.phase (process_number c.args.process) here c.args.run c.requires.run c.has_code.ensures c.requires.rests c.in_default.ensures

pub begins_alike-alike-requires-clause-number : goal.begins_alike-alike-requires-clause-number
begins_alike-alike-requires-clause-number c =
    low-here c.requires.stands.machine c.requires.stands.at c.args.table.now c.args.phase (process_number c.args.process) c.requires.kept c.requires.stands.here

pub returns-then-alike : goal.returns-then-alike
returns-then-alike c = λ machine others at ticked goes here.
    let serve : Serve = record { known = c.known_steps_go_on.ensures; steps = c.own_runs.ensures.steps; runs = c.own_runs.ensures.runs; texts = c.shared_runs.ensures.runs; counts = c.own_steps_count.ensures; time = c.own_runs.ensures.time } in
    begin-alike serve machine others at ticked c.args.self.now goes c.args.table.now c.args.phase (process_number c.args.process) here c.args.run c.requires.run c.has_code.ensures c.requires.rests c.in-Some.good.now c.in-Some.ensures (c.begins_alike-alike.ensures.alike c.if-alike.true)

pub returns-else-alike : goal.returns-else-alike
returns-else-alike c = λ machine others at ticked goes here.
    let serve : Serve = record { known = c.known_steps_go_on.ensures; steps = c.own_runs.ensures.steps; runs = c.own_runs.ensures.runs; texts = c.shared_runs.ensures.runs; counts = c.own_steps_count.ensures; time = c.own_runs.ensures.time } in
    begin-otherwise serve machine others at ticked c.args.self.now goes c.args.table.now c.args.phase (process_number c.args.process) here c.args.run c.requires.run c.has_code.ensures c.requires.rests c.in-Some.good.now c.in-Some.ensures
    (c.begins_alike-alike.ensures.otherwise c.if-alike.false)

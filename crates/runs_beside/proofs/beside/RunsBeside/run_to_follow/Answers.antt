-- The run goes on, or it is own.
use Rattle.std.proofs.Common.{rules, ◌≡◌, true, false}
use Rattle.vf_base.specs.Base.{process_number}
use Rattle.runs_beside.proofs.Choosing.{Serve, follow-found, goes-own}
use Rattle.runs_beside.proofs.beside.RunsBeside.run_to_follow.Goals as goal

pub returns-then-not-run : goal.returns-then-not-run
returns-then-not-run c = λ machine others at ticked goes here.
    let off : c.args.run.follows ≡ false = search (rules, c.if-not-run.true) in
    let serve : Serve = record { known = c.known_steps_go_on.ensures; steps = c.own_runs.ensures.steps; runs = c.own_runs.ensures.runs; texts = c.shared_runs.ensures.runs; counts = c.own_steps_count.ensures; time = c.own_runs.ensures.time } in
    goes-own serve machine others at ticked c.args.self.now goes c.args.table.now c.args.phase (process_number c.args.process) here c.args.run c.requires.run c.present_runs_lead.ensures c.requires.amid off

pub returns : goal.returns
returns c =
    let on : c.args.run.follows ≡ true = search (rules, c.if-not-run.false) in
    let serve : Serve = record { known = c.known_steps_go_on.ensures; steps = c.own_runs.ensures.steps; runs = c.own_runs.ensures.runs; texts = c.shared_runs.ensures.runs; counts = c.own_steps_count.ensures; time = c.own_runs.ensures.time } in
    follow-found (λ r. r.now) serve c.present_runs_lead.ensures c.args.self.now c.args.table.now c.args.phase (process_number c.args.process) c.args.run c.requires.run c.requires.amid
    c.has_code.ensures on c.run.result c.run.ensures

-- One run more.
use Rattle.std.proofs.Common.{◌++◌, ◌<◌, length, map, ap, subst, ◌∙◌}
use Rattle.std.proofs.lemmas.List.{take_all}
use Rattle.vf_base.specs.Base.{process_number}
use Rattle.between_slots.specs.Between.{window_phases}
use Rattle.window_runs.specs.RunsByProcess.{run_process}
use Rattle.moment_runs.specs.Taken.{processes_of, AreRunsTaken}
use Rattle.moment_runs.proofs.Found.{all-own}
use Rattle.moment_runs.proofs.Taking.{so-far-none, so-far-more, some-phase, have-next}
use Rattle.moment_runs.proofs.runs.take_runs.Goals as goal

pub runs-init : goal.runs-init
runs-init g c =
    so-far-none g.N.World.design (window_phases g.N.World.design g.N.World.plan c.args.window.now.before c.args.window.now.through) c.args.phase c.args.runs.now (processes_of c.args.standing.now)
    c.args.standing.now.lanes c.args.acted.now.items c.requires.each c.requires.states

pub take_run-requires-clause-process : goal.take_run-requires-clause-process
take_run-requires-clause-process g c ks met = all-own (λ process. process < length g.N.World.design.processes) c.args.runs.now c.runs.run-index c.run-item.result c.runs-test.true c.run-item.is c.requires.processes

pub take_run-requires-clause-each : goal.take_run-requires-clause-each
take_run-requires-clause-each g c ks met = c.runs.invariant.each

pub take_run-requires-clause-states : goal.take_run-requires-clause-states
take_run-requires-clause-states g c ks met = c.runs.invariant.states

pub take_run-requires-clause-there : goal.take_run-requires-clause-there
take_run-requires-clause-there g c ks met before one at here = (
  have-next g.N.World.design one c.args.runs.now c.runs.run-index c.run-item.result (processes_of c.args.standing.now) (processes_of c.runs.standing) c.runs-test.true c.run-item.is
      (c.requires.there before one at here).0 (c.runs.invariant.taken before one at here),
  (c.requires.there before one at here).1,
)

pub runs-preserved : goal.runs-preserved
runs-preserved g c =
    let phases = window_phases g.N.World.design g.N.World.plan c.args.window.now.before c.args.window.now.through in
    so-far-more g.N.World.design phases c.args.phase c.runs.run-index c.args.runs.now c.run-item.result (processes_of c.args.standing.now) (processes_of c.runs.standing)
    (processes_of c.take_run.new.standing) c.args.standing.now.lanes c.runs.standing.lanes c.take_run.new.standing.lanes c.args.acted.now.items c.runs.acted.items c.push.new.self.items
    c.runs-test.true c.run-item.is (some-phase phases c.args.phase c.requires.phase.0 c.requires.phase.1) c.in_ok-take_run.ensures.taken c.in_ok-take_run.ensures.lanes c.in_ok-push.ensures.items
    c.runs.invariant

pub returns-clause-taken : goal.returns-clause-taken
returns-clause-taken g c before one at here =
    subst (λ l. AreRunsTaken g.N.World.design one (map run_process l) (processes_of c.args.standing.now) (processes_of c.runs.standing))
    (take_all c.runs.run-index c.args.runs.now c.runs-test.false) (c.runs.invariant.taken before one at here)

pub returns-clause-lanes : goal.returns-clause-lanes
returns-clause-lanes g c = c.runs.invariant.lanes_stay

pub returns-clause-acted : goal.returns-clause-acted
returns-clause-acted g c =
    c.runs.invariant.listed ∙ ap (λ l. map process_number c.args.acted.now.items ++ map run_process l) (take_all c.runs.run-index c.args.runs.now c.runs-test.false)

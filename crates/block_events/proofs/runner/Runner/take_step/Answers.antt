-- The step is taken and told.
use Rattle.v_design.specs.States.{ProcessState, idle_process, is_ready}
use Rattle.vf_base.specs.Base.{process_number}
use Rattle.process_table.specs.Arranged.{table_of}
use Rattle.machine_laws.proofs.Places.{placed}
use Rattle.std.proofs.Common.{◌∙◌}
use Rattle.block_events.specs.Runners.{machine_of, state_of}
use Rattle.block_events.proofs.Nodes.{both-of}
use Rattle.block_events.proofs.Taken.{step-there, step-goes}
use Rattle.block_events.proofs.runner.Runner.take_step.Goals as goal

pub step_alone-requires-clause-ready : goal.step_alone-requires-clause-ready
step_alone-requires-clause-ready g c =
    placed (λ (p : ProcessState). is_ready p.activity) idle_process (table_of c.args.self.now.table).processes (process_number c.args.process) c.requires.ready

pub step_alone-requires-clause-there : goal.step_alone-requires-clause-there
step_alone-requires-clause-there g c = step-there c.writes_stay.ensures.next c.args.self.now (process_number c.args.process) c.requires.rules c.requires.writes

pub returns-clause-goes : goal.returns-clause-goes
returns-clause-goes g c =
    step-goes c.phases_go_on.ensures.notes c.moves.ensures.events c.args.self.now _ c.args.process c.in_ok-step.step.stepped.line c.step_alone.new.told c.args.told.now c.count_step.new.self
    c.add_step.new.self c.in_ok-begins.begins c.is_ready-ready.result c.requires.whole c.requires.nodes c.requires.lanes c.requires.ready c.in_ok-step.ensures.happens c.is_ready-ready.ensures
    c.in_ok-begins.ensures.begins c.in_ok-begins.ensures.running c.in_ok-count_step.ensures c.in_ok-add_step.ensures

pub returns-clause-step : goal.returns-clause-step
returns-clause-step g c =
    let old = c.args.self.now in
    let of = c.in_ok-step.ensures.step (machine_of old) (state_of old) (both-of old c.requires.whole) in
    record { line = of.line; act = c.kept_act.ensures ∙ of.act; stands = of.stands; does = of.does }

-- The step is taken and finished.
use Rattle.std.proofs.Common.{◌<◌, ◌∙◌, length, sym, ap, subst}
use Rattle.std.specs.Prelude.{IfSome}
use Rattle.vf_base.specs.Base.{process_number}
use Rattle.v_design.specs.Designs.{FlatDesign}
use Rattle.slot_record.specs.SlotRecords.{state_in}
use Rattle.net_state.specs.States.{values_in}
use Rattle.process_table.specs.Deeds.{read_by}
use Rattle.machine_events.specs.There.{touches-there}
use Rattle.machine_events.proofs.Recorded.{values-count, same-design, ready-low, stepped-both, stepped-low}
use Rattle.machine_events.proofs.steps.step_process.Goals as goal

pub step-requires-clause-kept : goal.step-requires-clause-kept
step-requires-clause-kept g c = c.requires.stands.is.arranged

pub step-requires-clause-values : goal.step-requires-clause-values
step-requires-clause-values g c =
    values-count c.args.nets.now ∙ sym (ap (λ (d : FlatDesign). length d.objects) (same-design c.args.nets.now c.args.table.now c.args.record.now c.requires.stands))

pub finish_step-requires-clause-process : goal.finish_step-requires-clause-process
finish_step-requires-clause-process g c =
    let s = c.requires.stands in
    let stepped = stepped-both s.machine (state_in s.machine s.phase) c.args.nets.now c.args.table.now c.step.new.self
    (process_number c.args.process) c.in_ok-stepped.stepped s.is.both c.requires.ready c.in_ok-stepped.ensures.step in
    stepped-low c.args.table.now c.step.new.self (process_number c.args.process) s.is.arranged c.in_ok-stepped.ensures.kept
    (stepped.step.after.design ∙ sym s.is.both.table_is.design) (ready-low c.args.table.now (process_number c.args.process) c.requires.ready)

pub finish_step-requires-clause-stands : goal.finish_step-requires-clause-stands
finish_step-requires-clause-stands g c =
    let s = c.requires.stands in
    record {
      machine = s.machine;
      first = s.first;
      before = s.before;
      phase = s.phase;
      log = s.log;
      is = stepped-both s.machine (state_in s.machine s.phase) c.args.nets.now c.args.table.now c.step.new.self
          (process_number c.args.process) c.in_ok-stepped.stepped s.is.both c.requires.ready
          c.in_ok-stepped.ensures.step;
      recorded = s.is.recorded;
    }

pub finish_step-requires-clause-there : goal.finish_step-requires-clause-there
finish_step-requires-clause-there g c =
    let s = c.requires.stands in
    let nets = c.args.nets.now in
    let state = state_in s.machine s.phase in
    let stepped = stepped-both s.machine state nets c.args.table.now c.step.new.self (process_number c.args.process) c.in_ok-stepped.stepped s.is.both c.requires.ready
    c.in_ok-stepped.ensures.step in
    touches-there (length (values_in nets)) c.in_ok-stepped.stepped.act _
    (subst (λ n. IfSome (read_by c.in_ok-stepped.stepped.act) (λ object. object < n))
    (ap (λ (d : FlatDesign). length d.objects) (same-design nets c.args.table.now c.args.record.now s) ∙ sym (values-count nets)) c.in_ok-stepped.ensures.reads)
    stepped.step.write (c.requires.there s.machine state s.is.both)

pub returns : goal.returns
returns g c = λ machine first before phase log amid.
    c.in_ok-finish_step.ensures machine first before phase log
    (stepped-both machine (state_in machine phase) c.args.nets.now c.args.table.now c.step.new.self
    (process_number c.args.process) c.in_ok-stepped.stepped amid.both c.requires.ready c.in_ok-stepped.ensures.step)
    amid.recorded

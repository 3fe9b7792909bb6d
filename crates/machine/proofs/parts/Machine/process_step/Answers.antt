-- The step is recorded, and leads to the next moment.
use Rattle.std.proofs.Common.{◌<◌, ◌∙◌, length, refl, sym, ap, subst, arith}
use Rattle.vf_base.specs.Base.{process_number}
use Rattle.v_design.specs.Designs.{FlatDesign}
use Rattle.machine.specs.Standing.{machine_kept, state_kept}
use Rattle.machine_laws.specs.SlotLoop.{present_phase}
use Rattle.machine.proofs.Events.{ready-there, ready-low, stepped-count, stepped-at, read-there, step-there, step-moved, time-low}
use Rattle.machine.proofs.Counted.{moving-by, next-here, values-here, may-step, steps-count, step-stays}
use Rattle.machine.proofs.parts.Machine.process_step.Goals as goal

pub step-requires-clause-number : goal.step-requires-clause-number
step-requires-clause-number g c = omega (arith, c.number-number.ensures, c.requires.moving.is.recorded.numbered)

pub step-requires-clause-time : goal.step-requires-clause-time
step-requires-clause-time g c = time-low c.args.self.now (moving-by c.args.guide.now c.args.steps.now c.args.self.now c.requires.moving)

pub step-requires-clause-values : goal.step-requires-clause-values
step-requires-clause-values g c =
    let parts = c.requires.moving.is.parts in
    parts.values ∙ ap (λ (d : FlatDesign). length d.objects) (sym parts.design)

pub step-requires-clause-stands : goal.step-requires-clause-stands
step-requires-clause-stands g c =
    let m = c.args.self.now in
    let moving = c.requires.moving in
    may-step c.args.guide.now (machine_kept m) moving.at m.table m.nets c.number-number.result (process_number c.args.process) moving.before c.args.steps.now moving.counts
    (next-here c.slot_goes_on.ensures.step (machine_kept m) moving.first moving.at m moving.log c.number-number.result (process_number c.args.process) moving.is moving.few c.requires.nodes c.requires.lanes
    c.requires.ready c.number-number.ensures)
    (values-here (machine_kept m) moving.first moving.at m moving.log moving.is)

pub step-requires-clause-ready : goal.step-requires-clause-ready
step-requires-clause-ready g c = ready-there c.args.self.now (process_number c.args.process) c.requires.ready

pub state_before-requires-clause-number : goal.state_before-requires-clause-number
state_before-requires-clause-number g c =
    let m = c.args.self.now in
    subst (λ n. process_number c.args.process < n) (sym (stepped-count m m.table c.requires.moving.is.parts.table c.requires.moving.is.parts.design))
    (ready-low m (process_number c.args.process) (moving-by c.args.guide.now c.args.steps.now m c.requires.moving) c.requires.ready)

pub note_run-requires-clause-there : goal.note_run-requires-clause-there
note_run-requires-clause-there g c = read-there c.args.self.now (moving-by c.args.guide.now c.args.steps.now c.args.self.now c.requires.moving) c.in_ok-stepped.stepped c.in_ok-stepped.ensures.reads

pub note_run-requires-clause-process : goal.note_run-requires-clause-process
note_run-requires-clause-process g c =
    let m = c.args.self.now in
    subst (λ n. process_number c.args.process < n)
    (sym (stepped-count m c.step.new.table c.in_ok-stepped.ensures.kept
    (c.in_ok-stepped.ensures.step (machine_kept m) (state_kept m) (record { design = c.requires.moving.is.parts.design; time = refl; processes = refl }) refl).after.design))
    (ready-low m (process_number c.args.process) (moving-by c.args.guide.now c.args.steps.now m c.requires.moving) c.requires.ready)

pub note_run-requires-clause-room : goal.note_run-requires-clause-room
note_run-requires-clause-room g c = λ some.
    let m = c.args.self.now in
    (c.requires.moving.is.runs (c.in_ok-before.ensures.noted some)).count
    ∙ sym (stepped-count m c.step.new.table c.in_ok-stepped.ensures.kept
    (c.in_ok-stepped.ensures.step (machine_kept m) (state_kept m) (record { design = c.requires.moving.is.parts.design; time = refl; processes = refl }) refl).after.design)

pub finish_step-requires-clause-process : goal.finish_step-requires-clause-process
finish_step-requires-clause-process g c =
    let m = c.args.self.now in
    subst (λ n. process_number c.args.process < n)
    (sym (stepped-count m c.step.new.table c.in_ok-stepped.ensures.kept
    (c.in_ok-stepped.ensures.step (machine_kept m) (state_kept m) (record { design = c.requires.moving.is.parts.design; time = refl; processes = refl }) refl).after.design))
    (ready-low m (process_number c.args.process) (moving-by c.args.guide.now c.args.steps.now m c.requires.moving) c.requires.ready)

pub finish_step-requires-clause-stands : goal.finish_step-requires-clause-stands
finish_step-requires-clause-stands g c =
    let m = c.args.self.now in
    let moving = c.requires.moving in
    record {
      machine = machine_kept m;
      first = moving.first;
      before = moving.at.ended;
      phase = present_phase moving.at;
      log = moving.log;
      is = stepped-at (machine_kept m) moving.first moving.at m moving.log (process_number c.args.process) c.in_ok-stepped.stepped c.step.new.table moving.is c.requires.ready
          c.in_ok-stepped.ensures.step;
      recorded = moving.is.recorded;
    }

pub finish_step-requires-clause-there : goal.finish_step-requires-clause-there
finish_step-requires-clause-there g c =
    step-there c.writes_stay.ensures.stay c.writes_stay.ensures.next c.args.self.now (moving-by c.args.guide.now c.args.steps.now c.args.self.now c.requires.moving) (process_number c.args.process) c.in_ok-stepped.stepped c.step.new.table c.requires.ready
    c.in_ok-stepped.ensures.step c.in_ok-stepped.ensures.reads

pub returns-clause-goes_on : goal.returns-clause-goes_on
returns-clause-goes_on g c =
    step-moved c.slot_goes_on.ensures.step c.args.self.now _ (process_number c.args.process) c.number-number.result c.in_ok-before.before c.in_ok-stepped.stepped c.step.new.table c.requires.nodes c.requires.lanes
    c.requires.ready c.in_ok-stepped.ensures.step
    c.in_ok-finish_step.ensures refl c.number-number.ensures c.in_ok-before.ensures.stands c.in_ok-note_run.ensures refl

pub returns-clause-counts : goal.returns-clause-counts
returns-clause-counts g c =
    steps-count c.runs_go_beside.ensures c.slot_goes_on.ensures.step c.args.guide.now c.step.new.self c.args.steps.now c.step.new.steps c.args.self.now c.number-number.result
    (process_number c.args.process) c.requires.nodes c.requires.lanes c.requires.ready c.number-number.ensures c.in_ok-stepped.ensures.steps

pub returns-clause-stays : goal.returns-clause-stays
returns-clause-stays g c =
    step-stays c.args.guide.now c.step.new.self c.args.self.now.table c.args.self.now.nets c.number-number.result (process_number c.args.process) c.args.steps.now c.step.new.steps
    c.in_ok-stepped.ensures.steps

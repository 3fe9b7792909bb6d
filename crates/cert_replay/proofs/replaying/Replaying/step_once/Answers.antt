-- The step is taken and counted, and all node events are done.
use Rattle.std.proofs.Common.{◌+◌, [], ◌∷◌, sym, ◌∙◌, arith}
use Rattle.vf_base.specs.Base.{process_number}
use Rattle.cert_laws.specs.Replays.{Replay, with_events}
use Rattle.cert_replay.specs.Kept.{event_by}
use Rattle.cert_replay.proofs.Going.{same-run, counted-on, steps-on, full-fails, stuck-fails}
use Rattle.cert_replay.proofs.replaying.Replaying.step_once.Goals as goal

pub may_step-requires : goal.may_step-requires
may_step-requires g c = c.requires.replaying.keeps.amid.arranged

pub returns-then-self-ge-MAX_SLOT_STEPS : goal.returns-then-self-ge-MAX_SLOT_STEPS
returns-then-self-ge-MAX_SLOT_STEPS g c = full-fails c.args.stepper (process_number c.args.process) c.args.self.now (omega (arith, c.if-self-ge-MAX_SLOT_STEPS.true))

pub returns-then-not-may_step : goal.returns-then-not-may_step
returns-then-not-may_step g c =
    stuck-fails c.args.stepper (process_number c.args.process) c.args.self.now c.args.self.now (sym c.may_step.ensures ∙ c.if-not-may_step.true) (same-run c.args.self.now)

pub take_step-requires-clause-replaying : goal.take_step-requires-clause-replaying
take_step-requires-clause-replaying g c =
    let is = c.requires.replaying in
    record {
      machine = is.machine;
      replay = record is.replay { steps = is.replay.steps + 1 };
      keeps = (counted-on is.machine is.replay c.args.self.now (omega (arith, c.if-self-ge-MAX_SLOT_STEPS.false)) is.keeps).0;
    }

pub settle-requires : goal.settle-requires
settle-requires g c =
    let is = c.requires.replaying in
    let next : Replay = record is.replay { steps = is.replay.steps + 1 } in
    let counted = counted-on is.machine is.replay c.args.self.now (omega (arith, c.if-self-ge-MAX_SLOT_STEPS.false)) is.keeps in
    record {
      machine = is.machine;
      replay = with_events is.machine (event_by c.args.stepper (process_number c.args.process) ∷ []) next;
      keeps = c.in_ok-take_step.ensures.takes is.machine next counted.0 counted.1;
    }

pub returns : goal.returns
returns g c =
    let takes = c.in_ok-take_step.ensures in
    let settles = c.in_ok-settle.ensures in
    steps-on c.args.stepper (process_number c.args.process) c.args.self.now c.take_step.new.self c.settle.new.self (omega (arith, c.if-self-ge-MAX_SLOT_STEPS.false))
    (sym c.may_step.ensures ∙ c.if-not-may_step.false) takes settles (record { race = settles.same.race ∙ takes.same.race; bound = settles.same.bound ∙ takes.same.bound })

-- The step is taken.
use Rattle.std.proofs.Common.{◌≡◌, refl, sym, subst, true}
use Rattle.vf_base.specs.Base.{process_number}
use Rattle.process_table.specs.Arranged.{table_of}
use Rattle.cert_replay.specs.declared.replaying.Replaying.{Replaying}
use Rattle.cert_replay.specs.declared.replaying.Stepper.{Stepper}
use Rattle.cert_replay.specs.declared.replaying.Stepper.TheVariants.{Process, Lane}
use Rattle.cert_replay.specs.Deeds.{may_step, TakesStep}
use Rattle.cert_replay.specs.Kept.{event_by}
use Rattle.cert_replay.proofs.Going.{in-slot, step-writes, lane-writes, takes-on}
use Rattle.cert_replay.proofs.replaying.Replaying.take_step.Goals as goal

pub step_process-requires-clause-stands : goal.step_process-requires-clause-stands
step_process-requires-clause-stands g c = in-slot c.args.self.now c.requires.replaying

pub step_process-requires-clause-ready : goal.step_process-requires-clause-ready
step_process-requires-clause-ready g c =
    subst (λ (s : Stepper). may_step (table_of c.args.self.now.table) s (process_number c.args.process) ≡ true) c.in-Process.is c.requires.possible

pub step_process-requires-clause-time : goal.step_process-requires-clause-time
step_process-requires-clause-time g c = c.requires.low

pub step_lane-requires-clause-stands : goal.step_lane-requires-clause-stands
step_lane-requires-clause-stands g c = in-slot c.args.self.now c.requires.replaying

pub step_lane-requires-clause-lane : goal.step_lane-requires-clause-lane
step_lane-requires-clause-lane g c =
    subst (λ (s : Stepper). may_step (table_of c.args.self.now.table) s (process_number c.args.process) ≡ true) c.in-Lane.is c.requires.possible

pub step_process-requires-clause-there : goal.step_process-requires-clause-there
step_process-requires-clause-there g c = step-writes c.writes_stay.ensures.stay c.writes_stay.ensures.next c.args.self.now c.requires.replaying (process_number c.args.process)

pub step_lane-requires-clause-there : goal.step_lane-requires-clause-there
step_lane-requires-clause-there g c = lane-writes c.writes_stay.ensures.stay c.writes_stay.ensures.next c.args.self.now c.requires.replaying (process_number c.args.process)

pub returns-in_ok-step_process-in-Process : goal.returns-in_ok-step_process-in-Process
returns-in_ok-step_process-in-Process g c =
    let old = c.args.self.now in
    let did = c.step_process.new in
    let new : Replaying = record old { nets = did.nets; table = did.table; «record» = did.record; told = did.told } in
    subst (λ (s : Stepper). TakesStep (event_by s (process_number c.args.process)) old new) (sym c.in-Process.is)
    (takes-on (event_by Process (process_number c.args.process)) old new c.in_ok-step_process-in-Process.ensures refl refl refl (record { race = refl; bound = refl }))

pub returns-in_ok-step_lane-in-Lane : goal.returns-in_ok-step_lane-in-Lane
returns-in_ok-step_lane-in-Lane g c =
    let old = c.args.self.now in
    let did = c.step_lane.new in
    let new : Replaying = record old { nets = did.nets; table = did.table; «record» = did.record; told = did.told } in
    subst (λ (s : Stepper). TakesStep (event_by s (process_number c.args.process)) old new) (sym c.in-Lane.is)
    (takes-on (event_by Lane (process_number c.args.process)) old new c.in_ok-step_lane-in-Lane.ensures refl refl refl (record { race = refl; bound = refl }))

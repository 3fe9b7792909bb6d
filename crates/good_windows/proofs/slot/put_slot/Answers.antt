-- The next slot was run.
use Rattle.std.proofs.Common.{◌≡◌, ◌||◌, refl, sym, subst, ◌∙◌}
use Rattle.v_design.specs.Designs.{Machine, good_machine}
use Rattle.machine_laws.specs.SlotLoop.{slot_from}
use Rattle.machine.specs.Ticks.{raised_by, process_steps}
use Rattle.good_windows.specs.Puts.{PutsSlot}
use Rattle.good_windows.proofs.Ahead.{known, stands-here}
use Rattle.good_windows.proofs.Ticks.{slot-ticks}
use Rattle.good_windows.proofs.Putting.{is-slot, puts-looped, puts}
use Rattle.good_windows.proofs.slot.put_slot.Goals as goal

pub returns-in-Hyper-clause-puts : goal.returns-in-Hyper-clause-puts
returns-in-Hyper-clause-puts g c =
    let k = known g.N.World.plan.end c.args.machine.now c.args.time c.requires.next in
    puts-looped g.N.World.design g.N.World.plan c.args.time c.args.run.now.trace c.args.machine.now c.slot.new.self c.in_ok-end.end c.slot.new.log c.requires.stands k
    (c.in_ok-end.ensures.slot k.begins k.next_is) c.slot.new.self c.args.run.now.trace c.in-Hyper.is refl

pub push-requires-clause-next : goal.push-requires-clause-next
push-requires-clause-next g c κs within =
    let k = known g.N.World.plan.end c.args.machine.now c.args.time c.requires.next in
    is-slot g.N.World.design g.N.World.plan c.args.time c.args.run.now.trace c.args.machine.now c.slot.new.self c.in_ok-end.end c.slot.new.log c.requires.stands k
    (c.in_ok-end.ensures.slot k.begins k.next_is) c.take_runs-runs.result.items c.in_default.not-Hyper c.requires.codes (c.in_ok-end.ensures.notes ∙ c.requires.stands.notes)
    c.take_runs-runs.ensures.runs

pub returns-clause-puts : goal.returns-clause-puts
returns-clause-puts g c =
    let k = known g.N.World.plan.end c.args.machine.now c.args.time c.requires.next in
    subst (λ put. PutsSlot g.N.World.design g.N.World.plan c.args.time c.args.run.now.trace put c.take_runs-runs.new.self c.push.new.self.trace) (sym c.put_by.ensures)
    (puts g.N.World.design g.N.World.plan c.args.time c.args.run.now.trace c.args.machine.now c.slot.new.self c.in_ok-end.end c.slot.new.log c.requires.stands k
    (c.in_ok-end.ensures.slot k.begins k.next_is) c.take_runs-runs.new.self c.push.new.self.trace c.in_ok-end.ensures.machine c.take_runs-runs.ensures.notes c.in_ok-end.ensures.turn
    c.take_runs-runs.ensures.stays c.in_ok-full.ensures.pushed c.in_ok-end.end c.closes.result refl c.in_default.not-Hyper
    (c.closes.ensures ∙ (λ i. c.is_first-first.ensures i || c.in_ok-full.ensures.full i)))

pub returns-in-Hyper-clause-ticks : goal.returns-in-Hyper-clause-ticks
returns-in-Hyper-clause-ticks g c =
    let k = known g.N.World.plan.end c.args.machine.now c.args.time c.requires.next in
    slot-ticks g.N.World.design g.N.World.plan c.args.run.now.trace.pushed c.args.steps.now c.slot.new.steps (slot_from (good_machine g.N.World.design) k.begins)
    (stands-here g.N.World.design g.N.World.plan c.args.run.now.trace.pushed c.args.machine.now c.requires.stands k.begins k.within_is)
    (subst (λ (m : Machine). c.slot.new.steps ≡ raised_by (process_steps (slot_from m k.begins)) c.args.steps.now) c.requires.stands.machine_is
    (c.in_ok-end.ensures.ticks k.begins k.next_is))

pub returns-clause-ticks : goal.returns-clause-ticks
returns-clause-ticks g c =
    let k = known g.N.World.plan.end c.args.machine.now c.args.time c.requires.next in
    slot-ticks g.N.World.design g.N.World.plan c.args.run.now.trace.pushed c.args.steps.now c.slot.new.steps (slot_from (good_machine g.N.World.design) k.begins)
    (stands-here g.N.World.design g.N.World.plan c.args.run.now.trace.pushed c.args.machine.now c.requires.stands k.begins k.within_is)
    (subst (λ (m : Machine). c.slot.new.steps ≡ raised_by (process_steps (slot_from m k.begins)) c.args.steps.now) c.requires.stands.machine_is
    (c.in_ok-end.ensures.ticks k.begins k.next_is))

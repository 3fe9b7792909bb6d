-- The slot begins, its moves are made, and it ends.
use Rattle.std.proofs.Common.{ℕ, ◌≤◌, ◌^◌, ◌∙◌, refl, sym, subst, arith}
use Rattle.v_design.specs.Designs.{Machine}
use Rattle.v_design.specs.States.{State}
use Rattle.causal_monitor.specs.declared.slot.Turn.{Turn}
use Rattle.causal_monitor.specs.declared.slot.SlotLog.{SlotLog}
use Rattle.machine_laws.specs.SlotLoop.{first_moment, slot_from}
use Rattle.machine.specs.declared.guide.Guide.{Guide}
use Rattle.machine.specs.declared.parts.Machine.{Machine as Simulated}
use Rattle.machine.specs.Guides.{Counts}
use Rattle.machine.specs.Moments.{IsAt}
use Rattle.machine.specs.Standing.{machine_kept, begins_next, first_turn}
use Rattle.machine.specs.Phases.{Runs, EndsSlot}
use Rattle.machine.proofs.Moved.{rules-of}
use Rattle.machine.proofs.Beginnings.{found-some}
use Rattle.machine.proofs.parts.Machine.run_slot.Goals as goal

-- where the slot begins, a counter has gone nowhere
begun : (machine : Machine) (first : Turn) (begins : State) (guide : Guide) (counter : ℕ) (m : Simulated) (log : SlotLog) → IsAt machine first (first_moment begins) m log →
    Counts guide machine (first_moment begins) counter counter → Runs machine first begins 0 guide counter counter 0 m log
begun machine first begins guide counter m log is counts =
    record { at = first_moment begins; is = is; begins_is = refl; steps_is = refl; counts = counts; moves_are = omega arith }

pub run-requires : goal.run-requires
run-requires g c =
    let m = c.args.self.now in
    let f = found-some (begins_next m) (λ begins. begins.time ≤ 2 ^ 63) c.requires.left in
    record {
      first = first_turn m.stage;
      begins = f.0;
      runs = subst (λ k. Runs k (first_turn m.stage) f.0 0 c.args.guide.now c.args.steps.now c.args.steps.now 0 c.begin_slot.new.self c.begin_slot.new.log)
          (sym c.in_ok-begin_slot.ensures.machine_is)
          (begun (machine_kept m) (first_turn m.stage) f.0 c.args.guide.now c.args.steps.now c.begin_slot.new.self c.begin_slot.new.log (c.in_ok-begin_slot.ensures.stands f.0 f.1)
          (c.requires.counts f.0 f.1));
    }

pub finish-requires : goal.finish-requires
finish-requires g c =
    let m = c.args.self.now in
    let f = found-some (begins_next m) (λ begins. begins.time ≤ 2 ^ 63) c.requires.left in
    let ends = (c.in_ok-hyper.ensures.ends (machine_kept m) (first_turn m.stage) f.0 (begun (machine_kept m) (first_turn m.stage) f.0 c.args.guide.now c.args.steps.now c.begin_slot.new.self c.begin_slot.new.log
    (c.in_ok-begin_slot.ensures.stands f.0 f.1) (c.requires.counts f.0 f.1))).ends in
    record { first = first_turn m.stage; begins = f.0; ends = subst (λ k. EndsSlot k (first_turn m.stage) f.0 c.in_ok-hyper.hyper c.run.new.self c.run.new.log) (sym ends.is.machine_is) ends }

pub returns-clause-machine : goal.returns-clause-machine
returns-clause-machine g c =
    let m = c.args.self.now in
    let f = found-some (begins_next m) (λ begins. begins.time ≤ 2 ^ 63) c.requires.left in
    c.in_ok-end.ensures.machine_is ∙ (c.in_ok-hyper.ensures.ends (machine_kept m) (first_turn m.stage) f.0 (begun (machine_kept m) (first_turn m.stage) f.0 c.args.guide.now c.args.steps.now c.begin_slot.new.self c.begin_slot.new.log
    (c.in_ok-begin_slot.ensures.stands f.0 f.1) (c.requires.counts f.0 f.1))).ends.is.machine_is

pub returns-clause-slot : goal.returns-clause-slot
returns-clause-slot g c = λ begins next.
    let m = c.args.self.now in
    c.in_ok-end.ensures.runs (machine_kept m) (first_turn m.stage) begins (c.in_ok-hyper.ensures.ends (machine_kept m) (first_turn m.stage) begins (begun (machine_kept m) (first_turn m.stage) begins c.args.guide.now c.args.steps.now c.begin_slot.new.self c.begin_slot.new.log
    (c.in_ok-begin_slot.ensures.stands begins next) (c.requires.counts begins next))).ends

pub returns-clause-stays : goal.returns-clause-stays
returns-clause-stays g c = c.in_ok-hyper.ensures.stays

pub returns-clause-counts : goal.returns-clause-counts
returns-clause-counts g c = λ begins next.
    let m = c.args.self.now in
    let end = (c.in_ok-hyper.ensures.ends (machine_kept m) (first_turn m.stage) begins (begun (machine_kept m) (first_turn m.stage) begins c.args.guide.now c.args.steps.now c.begin_slot.new.self c.begin_slot.new.log
    (c.in_ok-begin_slot.ensures.stands begins next) (c.requires.counts begins next))) in
    record { at = end.ends.at; hyper = c.in_ok-hyper.hyper; begins_is = end.ends.begins_is; comes = end.ends.is.comes; ends = end.ends.ends; counts = end.counts }

pub returns-clause-every_order : goal.returns-clause-every_order
returns-clause-every_order g c = λ begins next fine moves final leads ends.
    let m = c.args.self.now in
    let within = c.requires.standing.reached begins next in
    c.fine_slots.ensures (machine_kept m) begins.time within.number (slot_from (machine_kept m) begins) (rules-of m) (within.stands begins.time (omega arith)) fine moves final leads ends
    ∙ sym (c.in_ok-end.ensures.runs (machine_kept m) (first_turn m.stage) begins (c.in_ok-hyper.ensures.ends (machine_kept m) (first_turn m.stage) begins (begun (machine_kept m) (first_turn m.stage) begins c.args.guide.now c.args.steps.now c.begin_slot.new.self c.begin_slot.new.log
    (c.in_ok-begin_slot.ensures.stands begins next) (c.requires.counts begins next))).ends).state

pub returns-clause-standing : goal.returns-clause-standing
returns-clause-standing g c =
    let m = c.args.self.now in
    let f = found-some (begins_next m) (λ begins. begins.time ≤ 2 ^ 63) c.requires.left in
    c.in_ok-end.ensures.standing (machine_kept m) (first_turn m.stage) f.0 (c.requires.standing.reached f.0 f.1)
    (c.in_ok-hyper.ensures.ends (machine_kept m) (first_turn m.stage) f.0 (begun (machine_kept m) (first_turn m.stage) f.0 c.args.guide.now c.args.steps.now c.begin_slot.new.self c.begin_slot.new.log
    (c.in_ok-begin_slot.ensures.stands f.0 f.1) (c.requires.counts f.0 f.1))).ends

pub returns-clause-notes : goal.returns-clause-notes
returns-clause-notes g c = c.in_ok-end.ensures.notes_are ∙ c.in_ok-hyper.ensures.notes_are ∙ c.in_ok-begin_slot.ensures.notes_are

-- Slot by slot, and where the loop ends.
use Rattle.std.proofs.Common.{◌≡◌, ◌<◌, Some, None, refl, sym, subst, ◌∙◌}
use Rattle.fault_grade.specs.Reached.{RunsOn, next_of}
use Rattle.fault_grade.proofs.Slots.{time_left, left-falls, past-none, past-later, passed, stopped}
use Rattle.fault_grade.proofs.Ticks.{passed-ticks, stopped-ticks, ticks-known}
use Rattle.fault_grade.proofs.run.advance.Goals as goal

pub slots-init : goal.slots-init
slots-init g c = record { same_machine = refl; next_is = c.next_time-next.ensures; reached = c.requires.reached; ticks = λ start t. t }

pub returns-then-until-time-clause-advanced : goal.returns-then-until-time-clause-advanced
returns-then-until-time-clause-advanced g c =
    let inv = c.slots.invariant in
    let here : next_of c.slots.machine ≡ Some c.in-Some.time = sym inv.next_is ∙ c.in-Some.is in
    passed c.args.until c.args.machine.now c.slots.machine inv.same_machine inv.reached (past-later c.args.until c.in-Some.time c.slots.machine here c.if-until-time.true)

pub returns-then-until-time-clause-ticks : goal.returns-then-until-time-clause-ticks
returns-then-until-time-clause-ticks g c = λ start t.
    let inv = c.slots.invariant in
    let here : next_of c.slots.machine ≡ Some c.in-Some.time = sym inv.next_is ∙ c.in-Some.is in
    passed-ticks start c.args.until c.slots.steps c.args.machine.now c.slots.machine inv.same_machine (past-later c.args.until c.in-Some.time c.slots.machine here c.if-until-time.true)
    (inv.ticks start t)

pub returns-in-Some-2-clause-advanced : goal.returns-in-Some-2-clause-advanced
returns-in-Some-2-clause-advanced g c =
    let inv = c.slots.invariant in
    stopped c.args.until c.in-Some.time c.args.machine.now c.slots.machine c.run_slot.new.machine c.in-Some-2.stop inv.same_machine inv.reached c.if-until-time.false
    (subst (λ stop. RunsOn c.in-Some.time c.slots.machine stop c.run_slot.new.machine) c.in-Some-2.is c.in_ok-stop.ensures.runs)

pub returns-in-Some-2-clause-ticks : goal.returns-in-Some-2-clause-ticks
returns-in-Some-2-clause-ticks g c = λ start t.
    let inv = c.slots.invariant in
    stopped-ticks start c.args.until c.run_slot.new.steps c.args.machine.now c.slots.machine c.run_slot.new.machine c.in-Some-2.stop inv.same_machine
    (ticks-known start c.args.until c.run_slot.new.steps c.slots.machine c.run_slot.new.machine c.in_ok-stop.field-0 (Some c.in-Some-2.stop) c.in-Some-2.is
    (c.in_ok-stop.ensures.ticks start c.args.until inv.reached.0 inv.reached.2 c.if-until-time.false (inv.ticks start t)))

pub next_time-next-requires-in-Some : goal.next_time-next-requires-in-Some
next_time-next-requires-in-Some g c = (c.in_ok-stop.ensures.runs.goes_on c.in_default-2.is c.slots.invariant.reached.0 c.slots.invariant.reached.2).standing

pub slots-smaller : goal.slots-smaller
slots-smaller g c =
    let inv = c.slots.invariant in
    subst (λ at. time_left c.args.until c.next_time-next-in-Some.result < time_left c.args.until at) (sym c.in-Some.is)
    (left-falls c.args.until c.in-Some.time c.next_time-next-in-Some.result c.if-until-time.false
    (λ later e. c.in_ok-stop.ensures.runs.rises c.in_default-2.is inv.reached.0 later inv.reached.2 (sym c.next_time-next-in-Some.ensures ∙ e)))

pub slots-preserved : goal.slots-preserved
slots-preserved g c =
    let inv = c.slots.invariant in
    record {
      same_machine = c.in_ok-stop.ensures.runs.same_machine ∙ inv.same_machine;
      next_is = c.next_time-next-in-Some.ensures;
      reached = (c.in-Some.time, c.if-until-time.false, c.in_ok-stop.ensures.runs.goes_on c.in_default-2.is inv.reached.0 inv.reached.2);
      ticks = λ start t. ticks-known start c.args.until c.run_slot.new.steps c.slots.machine c.run_slot.new.machine c.in_ok-stop.field-0 None c.in_default-2.is
          (c.in_ok-stop.ensures.ticks start c.args.until inv.reached.0 inv.reached.2 c.if-until-time.false (inv.ticks start t));
    }

pub returns-clause-advanced : goal.returns-clause-advanced
returns-clause-advanced g c =
    let inv = c.slots.invariant in
    passed c.args.until c.args.machine.now c.slots.machine inv.same_machine inv.reached (past-none c.args.until c.slots.machine (sym inv.next_is ∙ c.in_default.is))

pub returns-clause-ticks : goal.returns-clause-ticks
returns-clause-ticks g c = λ start t.
    let inv = c.slots.invariant in
    passed-ticks start c.args.until c.slots.steps c.args.machine.now c.slots.machine inv.same_machine (past-none c.args.until c.slots.machine (sym inv.next_is ∙ c.in_default.is)) (inv.ticks start t)

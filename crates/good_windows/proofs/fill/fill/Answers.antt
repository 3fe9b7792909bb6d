-- Each way in which the filling ends.
use Rattle.std.proofs.Common.{◌≡◌, ℕ, ◌+◌, true, refl, sym, ap, subst, ◌∙◌, arith}
use Rattle.std.specs.Prelude.{Option}
use Rattle.v_design.specs.Designs.{FlatDesign, TestPlan}
use Rattle.machine.specs.declared.parts.Machine.{Machine as Simulated}
use Rattle.good_trace.specs.Traces.{TraceKept}
use Rattle.good_windows.specs.declared.slot.Put.{Put}
use Rattle.good_windows.specs.Stages.{next_by, run_through, stage_by}
use Rattle.good_windows.specs.Puts.{PutsSlot, IsFilled}
use Rattle.good_windows.proofs.Filling.{filled-looped, filled-raced, filled-full, filled-through, filling-first, filling-more, fewer-left, room-next}
use Rattle.good_windows.proofs.Ticks.{run-by, ticks-more}
use Rattle.good_windows.proofs.fill.fill.Goals as goal

-- what came of a slot that is known
told : (design : FlatDesign) (plan : TestPlan) (time : ℕ) (old : TraceKept) (put known : Put) (m : Simulated) (new : TraceKept) → put ≡ known → PutsSlot design plan time old put m new →
    PutsSlot design plan time old known m new
told design plan time old put known m new is puts = subst (λ p. PutsSlot design plan time old p m new) is puts

-- the next slot up to the plan's end
by-end : (plan : TestPlan) (end : ℕ) (m : Simulated) (next : Option ℕ) → plan.end ≡ end → next ≡ next_by end m → next ≡ next_by plan.end m
by-end plan end m next same is = is ∙ ap (λ e. next_by e m) (sym same)

pub slots-init : goal.slots-init
slots-init g c = record {
  filling =
      filling-first g.N.World.design g.N.World.plan c.args.run.now.trace.closed c.args.machine.now c.args.run.now.trace c.next_within-next.result c.requires.usable refl
      (by-end g.N.World.plan c.args.end c.args.machine.now c.next_within-next.result c.requires.end c.next_within-next.ensures);
  ticks = omega arith;
  beside = c.requires.beside;
}

pub put_slot-requires-clause-room : goal.put_slot-requires-clause-room
put_slot-requires-clause-room g c κs within =
    room-next g.N.World.design g.N.World.plan c.args.run.now.trace.closed c.slots.machine c.slots.run.trace c.slots.some c.slots.next c.slots.invariant.filling

pub returns-in-Looped-clause-filled : goal.returns-in-Looped-clause-filled
returns-in-Looped-clause-filled g c =
    let puts = told g.N.World.design g.N.World.plan c.in-Some.time c.slots.run.trace c.in_ok-put.put _ c.put_slot.new.machine c.put_slot.new.run.trace c.in-Looped.is
    c.in_ok-put.ensures.puts in
    filled-looped g.N.World.design g.N.World.plan c.args.run.now.trace.closed c.slots.machine c.slots.run.trace c.slots.some c.slots.next c.slots.invariant.filling c.put_slot.new.machine
    c.in-Some.time puts.0 puts.1
    c.put_slot.new.run.trace puts.2

pub returns-in-Raced-clause-filled : goal.returns-in-Raced-clause-filled
returns-in-Raced-clause-filled g c =
    filled-raced g.N.World.design g.N.World.plan c.args.run.now.trace.closed c.slots.machine c.slots.run.trace c.slots.some c.slots.next c.slots.invariant.filling c.put_slot.new.machine
    c.in-Raced.pair
    c.put_slot.new.run.trace
    (told g.N.World.design g.N.World.plan c.in-Some.time c.slots.run.trace c.in_ok-put.put _ c.put_slot.new.machine c.put_slot.new.run.trace c.in-Raced.is c.in_ok-put.ensures.puts)

pub returns-in-Full-clause-filled : goal.returns-in-Full-clause-filled
returns-in-Full-clause-filled g c =
    subst (λ stage. IsFilled g.N.World.design g.N.World.plan c.args.run.now.trace.closed c.put_slot.new.machine c.put_slot.new.run.trace (record { stage = stage; some = true }))
    (sym (c.stage_by.ensures ∙ ap stage_by (by-end g.N.World.plan c.args.end c.put_slot.new.machine c.next_within.result c.requires.end c.next_within.ensures)))
    (filled-full g.N.World.design g.N.World.plan c.args.run.now.trace.closed c.slots.machine c.slots.run.trace c.slots.some c.slots.next c.slots.invariant.filling c.put_slot.new.machine
    c.put_slot.new.run.trace
    (told g.N.World.design g.N.World.plan c.in-Some.time c.slots.run.trace c.in_ok-put.put _ c.put_slot.new.machine c.put_slot.new.run.trace c.in-Full.is c.in_ok-put.ensures.puts))

pub slots-smaller : goal.slots-smaller
slots-smaller g c =
    fewer-left g.N.World.design g.N.World.plan c.args.run.now.trace.closed c.slots.machine c.slots.run.trace c.slots.some c.slots.next c.slots.invariant.filling c.put_slot.new.machine
    c.put_slot.new.run.trace _
    (told g.N.World.design g.N.World.plan c.in-Some.time c.slots.run.trace c.in_ok-put.put _ c.put_slot.new.machine c.put_slot.new.run.trace c.in-Room.is c.in_ok-put.ensures.puts)

pub slots-preserved : goal.slots-preserved
slots-preserved g c = record {
  filling =
      filling-more g.N.World.design g.N.World.plan c.args.run.now.trace.closed c.slots.machine c.slots.run.trace c.slots.some c.slots.next c.slots.invariant.filling c.put_slot.new.machine
      c.put_slot.new.run.trace
      c.next_within-next-in-Some.result
      (told g.N.World.design g.N.World.plan c.in-Some.time c.slots.run.trace c.in_ok-put.put _ c.put_slot.new.machine c.put_slot.new.run.trace c.in-Room.is c.in_ok-put.ensures.puts)
      (by-end g.N.World.plan c.args.end c.put_slot.new.machine c.next_within-next-in-Some.result c.requires.end c.next_within-next-in-Some.ensures);
  ticks =
      ticks-more g.N.World.design g.N.World.plan c.args.run.now.trace.pushed c.slots.run.trace.pushed c.put_slot.new.run.trace.pushed c.args.steps.now c.slots.steps c.put_slot.new.steps
      c.slots.invariant.ticks c.in_ok-put.ensures.ticks
      (ap (λ (t : TraceKept). t.pushed)
      (told g.N.World.design g.N.World.plan c.in-Some.time c.slots.run.trace c.in_ok-put.put _ c.put_slot.new.machine c.put_slot.new.run.trace c.in-Room.is
      c.in_ok-put.ensures.puts).trace_is);
  beside = c.in_ok-put.ensures.beside;
}

pub returns-clause-filled : goal.returns-clause-filled
returns-clause-filled g c =
    filled-through g.N.World.design g.N.World.plan c.args.run.now.trace.closed c.slots.machine c.slots.run.trace c.slots.some c.slots.next c.slots.invariant.filling c.slots.machine
    c.in_default.is

pub returns-in-Looped-clause-ticks : goal.returns-in-Looped-clause-ticks
returns-in-Looped-clause-ticks g c =
    let puts = told g.N.World.design g.N.World.plan c.in-Some.time c.slots.run.trace c.in_ok-put.put _ c.put_slot.new.machine c.put_slot.new.run.trace c.in-Looped.is
    c.in_ok-put.ensures.puts in
    ticks-more g.N.World.design g.N.World.plan c.args.run.now.trace.pushed c.slots.run.trace.pushed (c.put_slot.new.run.trace.pushed + 1) c.args.steps.now c.slots.steps c.put_slot.new.steps
    c.slots.invariant.ticks c.in_ok-put.ensures.ticks
    (ap (λ (t : TraceKept). t.pushed + 1) puts.2)

pub returns-in-Raced-clause-ticks : goal.returns-in-Raced-clause-ticks
returns-in-Raced-clause-ticks g c =
    ticks-more g.N.World.design g.N.World.plan c.args.run.now.trace.pushed c.slots.run.trace.pushed c.put_slot.new.run.trace.pushed c.args.steps.now c.slots.steps c.put_slot.new.steps
    c.slots.invariant.ticks c.in_ok-put.ensures.ticks
    (ap (λ (t : TraceKept). t.pushed)
    (told g.N.World.design g.N.World.plan c.in-Some.time c.slots.run.trace c.in_ok-put.put _ c.put_slot.new.machine c.put_slot.new.run.trace c.in-Raced.is c.in_ok-put.ensures.puts).trace_is)

pub returns-in-Full-clause-ticks : goal.returns-in-Full-clause-ticks
returns-in-Full-clause-ticks g c =
    ticks-more g.N.World.design g.N.World.plan c.args.run.now.trace.pushed c.slots.run.trace.pushed (run_through c.put_slot.new.run.trace.pushed c.stage_by.result) c.args.steps.now
    c.slots.steps c.put_slot.new.steps
    c.slots.invariant.ticks c.in_ok-put.ensures.ticks
    (ap (run_through c.put_slot.new.run.trace.pushed) c.stage_by.ensures ∙ (run-by c.put_slot.new.run.trace.pushed c.next_within.result
    ∙ ap (λ (t : TraceKept). t.pushed) (told g.N.World.design g.N.World.plan c.in-Some.time c.slots.run.trace c.in_ok-put.put _ c.put_slot.new.machine c.put_slot.new.run.trace c.in-Full.is
    c.in_ok-put.ensures.puts).trace_is))

pub returns-clause-ticks : goal.returns-clause-ticks
returns-clause-ticks g c = c.slots.invariant.ticks

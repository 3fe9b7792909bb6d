-- Each step of the slot is taken, and ticks.
use Rattle.std.proofs.Common.{refl}
use Rattle.machine.specs.Standing.{machine_kept}
use Rattle.machine.proofs.Counted.{alone-counted}
use Rattle.machine.proofs.parts.Machine.slot.Goals as goal

pub run_slot-requires-clause-counts : goal.run_slot-requires-clause-counts
run_slot-requires-clause-counts g c = λ begins next. refl

pub returns-clause-ticks : goal.returns-clause-ticks
returns-clause-ticks g c = λ begins next.
    alone-counted c.run_slot.new.guide (machine_kept c.args.self.now) begins c.args.steps.now c.run_slot.new.steps c.in_ok-end.ensures.stays (c.in_ok-end.ensures.counts begins next)

-- The slot of a time, or none.
use Rattle.good_trace.specs.Beginnings.{first_beginning}
use Rattle.good_trace.proofs.Handing.{before-more, slot-found, slot-none}
use Rattle.good_trace.proofs.beside.WindowSlots.at.Goals as goal

pub returns-then-self-slot : goal.returns-then-self-slot
returns-then-self-slot c = λ design slots tells.
    slot-found design slots c.args.self.now tells c.args.time c.slots.slot first_beginning c.slots-test.true c.if-self-slot.true c.slots.invariant

pub slots-preserved : goal.slots-preserved
slots-preserved c = before-more c.args.self.now.times.now c.args.time c.slots.slot c.slots.invariant c.if-self-slot.false

pub returns : goal.returns
returns c = λ design slots tells. slot-none design slots c.args.self.now tells c.args.time c.slots.slot c.slots-test.false c.slots.invariant

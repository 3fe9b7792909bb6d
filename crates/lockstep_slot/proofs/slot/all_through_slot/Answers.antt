-- From the slot's beginning through its phases.
use Rattle.std.proofs.Common.{sym, subst, ◌∙◌, arith}
use Rattle.lockstep_phase.specs.lockstep_room.Rooms.{AreCounts}
use Rattle.lockstep_slot.proofs.slot.all_through_slot.Goals as goal

pub overflow_add-next : goal.overflow_add-next
overflow_add-next g c = omega (arith, c.ends-through.ensures.slots, c.requires.slot)

pub go_through_phases-requires-clause-counts : goal.go_through_phases-requires-clause-counts
go_through_phases-requires-clause-counts g c κs within = subst (AreCounts g.N.World.design) (sym c.in_ok-go_to_slot.ensures.counts) c.requires.room.counts_are

pub go_through_phases-requires-clause-time : goal.go_through_phases-requires-clause-time
go_through_phases-requires-clause-time g c κs within =
    let at = c.in_ok-go_to_slot.ensures.at in
    c.in_ok-go_to_slot.ensures.time at.slot at.stands ∙ sym (c.slot_time-now.ensures at.slot at.stands)

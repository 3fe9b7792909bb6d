-- The parts are of one design.
use Rattle.std.proofs.Common.{sym, ap, subst, ◌∙◌}
use Rattle.v_design.specs.Designs.{FlatDesign}
use Rattle.v_design.specs.PlainDesigns.{design_of}
use Rattle.start_copy.specs.Rooms.{IsRoomFor}
use Rattle.shard_slots.proofs.room.SlotRoom.new.Goals as goal

pub invariant_of-result : goal.invariant_of-result
invariant_of-result g c = (
  c.in_ok-machine.ensures,
  c.in_ok-lockstep.ensures,
  subst (λ (d : FlatDesign). IsRoomFor d c.in_ok-start.start) (ap design_of (c.graph.ensures.design ∙ sym c.design-design.ensures.design) ∙ sym c.design-design.ensures.world) c.in_ok-start.ensures,
)

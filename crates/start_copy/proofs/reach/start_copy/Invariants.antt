use Rattle.std.proofs.Common.{◌≡◌, ◌-◌, length}
use Rattle.v_design.specs.Plain.{fault_of}
use Rattle.net_settle.specs.Rooms.{IsMadeFor}
use Rattle.start_copy.specs.Reached.{StartsSo}
use Rattle.start_copy.specs.Rooms.{design_in}
use Rattle.start_copy.proofs.Front.{unmarked_front}
use Rattle.start_copy.proofs.reach.start_copy.Given as goal

abbrev pub invariant-nodes : goal.invariant-nodes
invariant-nodes l = record {
  belongs : l.room.settle.graph.now ≡ l.fn.room.settle.graph.now;
  made : IsMadeFor (design_in l.fn.room) l.room.work;
  so : StartsSo (design_in l.fn.room) (fault_of l.fn.fault) l.fn.good l.fn.copy l.copy l.room.settle.marks.items;
}

abbrev pub decreases-nodes : goal.decreases-nodes
decreases-nodes l = length l.room.settle.marks.items - unmarked_front l.room.settle.marks.items

use Rattle.std.proofs.Common.{◌≡◌, map, take}
use Rattle.vf_base.specs.Base.{object_number}
use Rattle.v_design.specs.Assignments.{with_outputs}
use Rattle.v_design.specs.PlainDesigns.{design_of}
use Rattle.copy_overlay.specs.Faulty.{faulty_values}
use Rattle.start_copy.specs.Reached.{ComesToHold}
use Rattle.start_copy.proofs.held.hold_all.Given as goal

abbrev pub invariant-outputs : goal.invariant-outputs
invariant-outputs l = record {
  belongs : l.settle.graph.now ≡ l.initial.settle.graph.now;
  holds : ComesToHold (design_of l.initial.settle.graph.now.design.now) l.good (map object_number l.outputs)
      (with_outputs (take l.at (map object_number l.outputs)) (take l.at l.values) (faulty_values l.good l.initial.copy.values))
      l.initial.copy l.copy l.initial.settle.marks.items l.settle.marks.items;
}

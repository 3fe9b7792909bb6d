-- What the objects so far reach is reached.
use Rattle.std.proofs.Common.{◌≡◌, map, take}
use Rattle.vf_base.specs.Base.{object_number}
use Rattle.v_design.specs.PlainDesigns.{design_of}
use Rattle.phase_reach.specs.Reached.{AreReached}
use Rattle.phase_reach.proofs.reach.reach_all.Given as goal

abbrev pub invariant-objects : goal.invariant-objects
invariant-objects l = record {
  design : l.reached.design ≡ l.initial.reached.design;
  all : AreReached (design_of l.initial.reached.design) (map object_number (take l.place l.objects)) l.reached;
}

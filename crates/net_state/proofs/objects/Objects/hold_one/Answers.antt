use Rattle.vf_base.specs.Base.{object_number}
use Rattle.v_design.specs.PlainDesigns.{design_of}
use Rattle.net_state.specs.HeldLaws.{values-set}
use Rattle.net_state.proofs.objects.Objects.hold_one.Goals as goal

pub invariant_of-self : goal.invariant_of-self
invariant_of-self c = record {
  are =
      values-set (design_of c.args.self.now.settle.graph.now.design.now) c.args.self.now.values.items (object_number c.args.object) c.args.value c.args.self.now.are c.requires.width;
}

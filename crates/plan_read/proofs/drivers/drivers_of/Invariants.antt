use Rattle.std.proofs.Common.{◌≡◌, ◌<◌, ℕ, drop, map, length, vec_len, None}
use Rattle.std.specs.Prelude.{slice_index_or, option_map}
use Rattle.vf_base.specs.Base.{node_number}
use Rattle.v_design.specs.Designs.{FlatNode}
use Rattle.vf_base.specs.Lists.{has, first_place}
use Rattle.v_design.specs.Plain.{node_of}
use Rattle.v_design.specs.PlainDesigns.{design_of}
use Rattle.key_index.specs.Places.{later}
use Rattle.plan_read.proofs.drivers.drivers_of.Given as goal

abbrev pub invariant-nodes : goal.invariant-nodes
invariant-nodes l = record {
  len : vec_len l.drivers ≡ length l.design.objects;
  found : (object : ℕ) → object < length l.design.objects → option_map node_number (slice_index_or l.drivers.items object None) ≡ later l.number
      (first_place (λ (node : FlatNode). has node.outputs object) (map node_of (drop l.number l.design.nodes)));
}

use Rattle.std.proofs.Common.{◌≡◌, map, take, vec_len}
use Rattle.vf_base.specs.Base.{object_number, node_number}
use Rattle.four_value.specs.Values.{part_of}
use Rattle.vf_base.specs.Lists.{zip_with}
use Rattle.v_design.specs.Designs.{forced_output}
use Rattle.v_design.specs.Assignments.{object_width}
use Rattle.v_design.specs.Views.{machine_of}
use Rattle.node_eval.proofs.assign.place_parts.Given as goal

abbrev pub invariant-outputs : goal.invariant-outputs
invariant-outputs l = record {
  same : vec_len l.results ≡ vec_len l.initial.results;
  placed : take l.number l.results.items
      ≡ zip_with (forced_output (machine_of l.view).fault (node_number l.node)) (map object_number (take l.number l.outputs))
      (zip_with (λ object place. part_of l.value place (object_width (machine_of l.view) object)) (map object_number (take l.number l.outputs)) (take l.number l.places));
}

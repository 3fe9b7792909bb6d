use Rattle.std.proofs.Common.{◌≡◌, ℕ, ◌≤◌, [], map, take, get_or}
use Rattle.vf_base.specs.Base.{object_number, node_number}
use Rattle.vf_base.specs.Lists.{zip_with}
use Rattle.v_design.specs.Designs.{forced_output}
use Rattle.v_design.specs.Views.{machine_of}
use Rattle.node_eval.proofs.force.force_outputs.Given as goal

abbrev pub invariant-outputs : goal.invariant-outputs
invariant-outputs l = record {
  forced : take l.number l.held ≡ zip_with (forced_output (machine_of l.view).fault (node_number l.node)) (take l.number (map object_number l.outputs)) (take l.number l.fn.held);
  later : (k : ℕ) → l.number ≤ k → get_or l.held k [] ≡ get_or l.fn.held k [];
}

-- Parts that are nodes alone.
use Rattle.std.specs.Prelude.{◌≡◌, ℕ, List, sum_by}
use Rattle.v_elab.specs.Parts.{Part, objects_of_part, nodes_of_part, processes_of_part, instances_of_part}

pub record CountsNodes (parts : List Part) (nodes : ℕ) : Type 0 where
  pub objects_none : sum_by objects_of_part parts ≡ 0
  pub nodes_are : sum_by nodes_of_part parts ≡ nodes
  pub processes_none : sum_by processes_of_part parts ≡ 0
  pub instances_none : sum_by instances_of_part parts ≡ 0

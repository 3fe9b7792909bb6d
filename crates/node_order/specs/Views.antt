-- Nodes of the program as nodes of a flat design (nothing of the language).
use Rattle.std.specs.Prelude.{◌≡◌, ℕ, ◌<◌, List, Vec, map, length, get_or}
use Rattle.std.specs.declared.alloc.Global.{Global}
use Rattle.v_design.specs.Designs.{FlatNode}
use Rattle.v_design.specs.Plain.{node_of}
use Rattle.v_design.specs.declared.plan.Node.{Node}
use Rattle.v_elab.specs.Ranks.{rank_among}

-- lists of nodes
abbrev pub flat_lists : List (Vec Node Global) → List (List FlatNode)
flat_lists lists = map (λ (list : Vec Node Global). map node_of list.items) lists

-- the ranks of nodes, each less than their number
pub record AreRanksOf (nodes : List FlatNode) (ranks : List ℕ) : Type 0 where
  pub ranked : ranks ≡ map (rank_among nodes) nodes
  pub low : (k : ℕ) → k < length nodes → get_or ranks k 0 < length nodes

-- Outputs of nodes, of the code, as plain ones.
use Rattle.std.specs.Prelude.{ℕ, List, ◌++◌, Vec, map, Option}
use Rattle.std.specs.declared.alloc.Global.{Global}
use Rattle.vf_base.specs.Base.{object_number}
use Rattle.vf_base.specs.Lists.{map_numbered}
use Rattle.v_elab.specs.Flat as plain
use Rattle.v_elab.specs.Objects.{PieceDriver}
use Rattle.object_names.specs.declared.outputs.NodeOutput.{NodeOutput}

abbrev pub output_of : NodeOutput → plain.NodeOutput
output_of o = record { object = object_number o.object; place = o.place }

abbrev pub outputs_seen : Vec NodeOutput Global → List plain.NodeOutput
outputs_seen outputs = map output_of outputs.items

-- the outputs of each node
abbrev pub output_lists : List (Vec NodeOutput Global) → List (List plain.NodeOutput)
output_lists lists = map outputs_seen lists

-- the outputs of each node, with those by an object that is written by this driver
abbrev pub with_output : ℕ → Option PieceDriver → List (List plain.NodeOutput) → List (List plain.NodeOutput)
with_output object driver lists = map_numbered (λ number (outputs : List plain.NodeOutput). outputs ++ plain.output_of_object number object driver) 0 lists

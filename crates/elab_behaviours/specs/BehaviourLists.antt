-- Nodes and processes of the code (nothing of the language).
use Rattle.std.specs.Prelude.{List, map}
use Rattle.v_elab.specs.Parts as parts
use Rattle.v_elab.specs.Drivers as plain
use Rattle.elab_parts.specs.BehaviourViews.{node_of, process_in}
use Rattle.elab_behaviours.specs.declared.behaviours.Behaviours.{Behaviours}

abbrev pub all_nodes_of : Behaviours → List plain.WalkedNode
all_nodes_of b = map node_of b.nodes.items

abbrev pub all_processes_of : Behaviours → List parts.WalkedProcess
all_processes_of b = map process_in b.processes.items

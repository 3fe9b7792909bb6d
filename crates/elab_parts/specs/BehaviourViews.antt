-- Nodes of the code as plain ones.
use Rattle.std.specs.Prelude.{ℕ, List, [], Option, Some, None}
use Rattle.std.specs.Borrow.{Bor}
use Rattle.v_elab.specs.Parts as parts
use Rattle.v_elab.specs.Drivers as plain
use Rattle.v_width.specs.SizedViews.{all_sized_of}
use Rattle.elab_parts.specs.PartViews.{drives_of, value_of, process_of}
use Rattle.elab_parts.specs.declared.behaviour.NodeFunction.{NodeFunction}
use Rattle.elab_parts.specs.declared.behaviour.NodeFunction.TheVariants as functions
use Rattle.elab_parts.specs.declared.behaviour.NodeDrives.{NodeDrives}
use Rattle.elab_parts.specs.declared.behaviour.NodeDrives.TheVariants as drives
use Rattle.elab_parts.specs.declared.behaviour.WalkedNode.{WalkedNode}
use Rattle.elab_parts.specs.declared.behaviour.ProcessPart.{ProcessPart}

abbrev pub function_of : NodeFunction → plain.NodeFunction
function_of (functions.Assign value) = plain.AssignFunction (value_of value.now)
function_of (functions.Gate kind path terminals) = plain.GateFunction kind path.now (all_sized_of terminals.now)
function_of (functions.Block process) = plain.BlockFunction (process_of process.now)

abbrev pub node_drives_of : NodeDrives → List parts.Drive
node_drives_of (drives.Listed listed) = drives_of listed.now
node_drives_of (drives.Targets own) = drives_of own.items

abbrev pub name_or_none : Option (Bor (List ℕ)) → List ℕ
name_or_none None = []
name_or_none (Some name) = name.now

abbrev pub node_of : WalkedNode → plain.WalkedNode
node_of n = record { name = name_or_none n.name; drives = node_drives_of n.drives; function = function_of n.function }

-- a part that is a process
abbrev pub process_in : ProcessPart → parts.WalkedProcess
process_in p = process_of p.process.now

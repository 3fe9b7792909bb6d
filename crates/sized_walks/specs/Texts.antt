-- The texts of blocks and processes are sized for what their names mean, and the bounds and counts of other nodes have 32 bits (IEEE 1364-2001, clause 9).
use Rattle.std.specs.Prelude.{List}
use Rattle.vf_base.specs.Lists.{AllHold}
use Rattle.v_elab.specs.Parts.{Part, WalkedProcess}
use Rattle.v_elab.specs.Objects.{HeldObject}
use Rattle.v_elab.specs.Drivers.{WalkedNode, NodeFunction, AssignFunction, GateFunction, BlockFunction}
use Rattle.v_elab.specs.Statements.{block_body}
use Rattle.v_elab.specs.Flat.{meaning_in}
use Rattle.object_expr.specs.Narrow.{IsNarrowTree, AreNarrowTrees}
use Rattle.object_statements.specs.Texts.{IsSizedText}

-- what a node does; a block once it is woken
abbrev pub IsSizedFunction : List Part → List HeldObject → NodeFunction → Type 0
IsSizedFunction parts objects (AssignFunction value) = IsNarrowTree value.value
IsSizedFunction parts objects (GateFunction kind path terminals) = AreNarrowTrees terminals
IsSizedFunction parts objects (BlockFunction process) = IsSizedText (meaning_in parts objects process) (block_body process.body)

abbrev pub AreSizedFunctions : List Part → List HeldObject → List WalkedNode → Type 0
AreSizedFunctions parts objects nodes = AllHold (λ (node : WalkedNode). IsSizedFunction parts objects node.function) nodes

abbrev pub AreSizedProcesses : List Part → List HeldObject → List WalkedProcess → Type 0
AreSizedProcesses parts objects processes = AllHold (λ (process : WalkedProcess). IsSizedText (meaning_in parts objects process) process.body) processes

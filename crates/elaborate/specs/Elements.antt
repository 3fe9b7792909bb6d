-- The elements of a flat design, from the parts of a walk (IEEE 1364-2001, clause 12).
use Rattle.std.specs.Prelude.{◌≡◌, ℕ, List, length, map, None, Result, Ok, Err, Vec}
use Rattle.std.specs.declared.alloc.Global.{Global}
use Rattle.v_design.specs.Designs.{FlatObject, FlatNode, FlatDesign}
use Rattle.v_design.specs.Plain as flats
use Rattle.v_design.specs.declared.plan.Node.{Node}
use Rattle.v_design.specs.declared.plan.JoinedName.{JoinedName}
use Rattle.v_elab.specs.Refusals.{Refusal}
use Rattle.v_design.specs.Expressions.{up_from}
use Rattle.v_elab.specs.Parts.{Part, WalkedProcess}
use Rattle.v_elab.specs.Drivers.{signals_of, WalkedNode, two_drivers}
use Rattle.v_elab.specs.Objects.{HeldObject, objects_of_parts, names_joined}
use Rattle.v_elab.specs.Flat.{NodeOutput, outputs_of, widths_of, walked_nodes, flat_process}
use Rattle.elab_objects.specs.ObjectViews.{held_objects}
use Rattle.elab_objects.specs.declared.object.HeldObject as code
use Rattle.object_names.specs.NameTables.{NameTables, AreNamesOf}
use Rattle.flat_laws.specs.Made.{nodes_in, processes_in, objects_in}
use Rattle.elab_nodes.specs.Nodes.{AreSizedOver}
use Rattle.sized_walks.specs.Texts.{AreSizedFunctions, AreSizedProcesses}
use Rattle.elaborate.specs.ElabFaults.{refusal_of, IsFaultOf, IsElabFault, IsTold}
use Rattle.elaborate.specs.declared.elements.Elements.{Elements}
use Rattle.elaborate.specs.declared.elements.Made.{Made}
use Rattle.elaborate.specs.declared.fault.ElabFault.{ElabFault}

-- the objects of some that are held
abbrev pub objects_held : List HeldObject → List FlatObject
objects_held held = map (λ (one : HeldObject). one.object) held

-- the design of some elements
abbrev pub design_in : Elements → FlatDesign
design_in elements = flats.flat_design elements.objects.items elements.joined.items elements.nodes.items elements.processes.items

-- the elements are those of the design that is wanted, or the fault tells why it isn't there
abbrev pub Gives : Result FlatDesign Refusal → Result Elements ElabFault → Type 0
Gives wanted (Ok elements) = wanted ≡ Ok (design_in elements)
Gives wanted (Err fault) = IsElabFault wanted fault

-- the nodes are those that are wanted, or the fault tells why they make no design
abbrev pub Orders : Result (List FlatNode) Refusal → Result (Vec Node Global) ElabFault → Type 0
Orders wanted (Ok sorted) = wanted ≡ Ok (map flats.node_of sorted.items)
Orders wanted (Err fault) = IsFaultOf wanted fault

-- the nodes in the order of the walk and the processes over names and widths, whatever the parts and objects are that these belong to
pub record AreMadeOver (names : NameTables) (widths : List ℕ) (outputs : List (List NodeOutput)) (nodes : List WalkedNode) (processes : List WalkedProcess) (made : Made) : Type 0 where
  pub nodes_are : (parts : List Part) (objects : List HeldObject) → AreNamesOf parts objects names → widths ≡ widths_of objects → outputs ≡ map (outputs_of objects) (up_from 0 (length nodes)) →
      map flats.node_of made.nodes.items ≡ walked_nodes parts objects nodes
  pub processes_are : (parts : List Part) (objects : List HeldObject) → AreNamesOf parts objects names → widths ≡ widths_of objects →
      map flats.process_of made.processes.items ≡ map (flat_process parts objects) processes

-- the joined names, the nodes in the order of the walk, and the processes over some objects
pub record AreMade (parts : List Part) (objects : List HeldObject) (nodes : List WalkedNode) (processes : List WalkedProcess) (made : Vec JoinedName Global × Made) : Type 0 where
  pub joined_are : map flats.name_joined made.0.items ≡ names_joined (signals_of parts) objects
  pub nodes_are : map flats.node_of made.1.nodes.items ≡ walked_nodes parts objects nodes
  pub processes_are : map flats.process_of made.1.processes.items ≡ map (flat_process parts objects) processes

-- the objects, where no bit has two drivers
abbrev pub Holds : List Part → List WalkedNode → Result (Vec code.HeldObject Global) ElabFault → Type 0
Holds parts nodes (Ok held) = (two_drivers (signals_of parts) nodes ≡ None) × (held_objects held.items ≡ objects_of_parts parts nodes)
Holds parts nodes (Err fault) = IsTold (two_drivers (signals_of parts) nodes) (refusal_of fault)

-- nodes and processes are sized over the objects of some parts
pub record AreSizedElements (parts : List Part) (objects : List HeldObject) (nodes : List WalkedNode) (processes : List WalkedProcess) : Type 0 where
  pub nodes_sized : AreSizedOver parts objects nodes
  pub functions_sized : AreSizedFunctions parts objects nodes
  pub processes_sized : AreSizedProcesses parts objects processes

-- those of some parts are
abbrev pub AreSizedParts : List Part → Type 0
AreSizedParts parts = AreSizedElements parts (objects_in parts) (nodes_in parts) (processes_in parts)

-- nodes and processes are sized over the objects to which names and widths belong
pub record HasSizedElements (names : NameTables) (widths : List ℕ) (nodes : List WalkedNode) (processes : List WalkedProcess) : Type 0 where
  pub parts : List Part
  pub objects : List HeldObject
  pub names_are : AreNamesOf parts objects names
  pub widths_are : widths ≡ widths_of objects
  pub sized : AreSizedElements parts objects nodes processes

-- Elements one after the other make the design of the parts (IEEE 1364-2001, clause 12).
use Rattle.std.proofs.Common.{◌≡◌, ℕ, ◌+◌, ◌<◌, ◌≤◌, Bool, true, false, List, [], ◌∷◌, length, map, Option, Some, None, Result, Ok, Err, refl, sym, ap, ap₂, ◌∙◌, subst, arith}
use Rattle.std.specs.Prelude.{nat_lt, nat_eq}
use Rattle.std.proofs.lemmas.Bool.{ltb-true, lt-ltb}
use Rattle.std.proofs.lemmas.List.{map-append, length-map}
use Rattle.vf_base.specs.Lists.{AllHold, has, map_numbered, joined}
use Rattle.v_design.specs.Expressions.{up_from}
use Rattle.v_design.specs.Designs.{FlatObject, FlatNode, FlatNodeKind, FlatProcess, NameJoined, FlatDesign}
use Rattle.v_design.specs.Reads.{node_reads}
use Rattle.v_design.specs.WellFormed.{most_parts}
use Rattle.net_graph.specs.Loops.{AreAmong}
use Rattle.v_elab.specs.declared.What.TheVariants.{Objects}
use Rattle.v_elab.specs.Refusals.{Refusal, TooMany, then_go, unless_refused}
use Rattle.v_elab.specs.Parts.{Part, WalkedProcess, over_limit, too_many_if}
use Rattle.v_elab.specs.Drivers.{signals_of, WalkedNode, behaviours_of, nodes_of, processes_of, two_drivers}
use Rattle.v_elab.specs.Objects.{HeldObject, PieceDriver, objects_of_parts, names_joined}
use Rattle.v_elab.specs.Flat.{NodeOutput, output_if, output_of_object, outputs_of, inputs_of, node_kind, flat_node, flat_process, walked_nodes, too_many_behaviours, over_nodes, over_parts}
use Rattle.v_elab.specs.Flat.{over_behaviours, flat_of_parts, second_module, flat_from}
use Rattle.flat_laws.specs.Lists.{AllHold-from}
use Rattle.flat_laws.specs.Numbered.{at-numbered, AllHold-up_from, AllHold-filter, AllHold-each, AllHold-append}
use Rattle.node_order.specs.NodeOrder.{ordered_nodes}
use Rattle.node_order.specs.OrderLaws.{design_of_nodes, nodes-give-design}
use Rattle.v_design.specs.Plain as flats
use Rattle.v_design.specs.declared.plan.Object.{Object}
use Rattle.v_design.specs.declared.plan.JoinedName.{JoinedName}
use Rattle.v_design.specs.declared.plan.Node.{Node}
use Rattle.v_design.specs.declared.plan.Process.{Process}
use Rattle.v_tree.specs.Trees.{SourceModule}
use Rattle.v_elab.specs.declared.Mode.{Mode}
use Rattle.v_elab.specs.Walk.{walked_from}
use Rattle.elaborate.specs.ElabFaults.{IsRefusal, IsTold}
use Rattle.elaborate.specs.Elements.{objects_held}

-- Nodes read and write objects of the design

inputs-low : (objects : List HeldObject) (kind : FlatNodeKind) (outputs : List ℕ) → AllHold (λ o. o < length objects) (inputs_of objects kind outputs)
inputs-low objects kind outputs =
    AllHold-filter (λ o. o < length objects) (has (node_reads kind outputs)) (up_from 0 (length objects))
    (AllHold-each (λ n. (0 ≤ n) × (n < 0 + length objects)) (λ o. o < length objects) (up_from 0 (length objects)) (λ n h. omega (arith, h.1)) (AllHold-up_from 0 (length objects)))

abbrev outputs_from : ℕ → ℕ → List HeldObject → List NodeOutput
outputs_from number start objects = joined (map_numbered (λ object (held : HeldObject). output_of_object number object held.driver) start objects)

one-low : (number start most : ℕ) (driver : Option PieceDriver) → start < most → AllHold (λ o. o < most) (map (λ (o : NodeOutput). o.object) (output_of_object number start driver))
one-low number start most None low = tt
one-low number start most (Some driver) low = by_test (nat_eq driver.node number)
  where
    by_test : (test : Bool) → AllHold (λ o. o < most) (map (λ (o : NodeOutput). o.object) (output_if test (record { object = start; place = driver.place })))
    by_test true = (low, tt)
    by_test false = tt

outputs-low : (number start most : ℕ) (objects : List HeldObject) → start + length objects ≤ most → AllHold (λ o. o < most) (map (λ (o : NodeOutput). o.object) (outputs_from number start objects))
outputs-low number start most [] fit = tt
outputs-low number start most (held ∷ objects) fit =
    subst (AllHold (λ o. o < most)) (sym (map-append (λ (o : NodeOutput). o.object) (output_of_object number start held.driver) (outputs_from number (start + 1) objects)))
    (AllHold-append (λ o. o < most) (map (λ (o : NodeOutput). o.object) (output_of_object number start held.driver)) (map (λ (o : NodeOutput). o.object) (outputs_from number (start + 1) objects))
    (one-low number start most held.driver (omega (arith, fit))) (outputs-low number (start + 1) most objects (omega (arith, fit))))

pub walked-among : (parts : List Part) (objects : List HeldObject) (nodes : List WalkedNode) → AreAmong (length objects) (walked_nodes parts objects nodes)
walked-among parts objects nodes =
    AllHold-from Among (walked_nodes parts objects nodes) (λ i node at.
    let r = at-numbered (flat_node parts objects) 0 nodes i node at in
    subst Among r.2 (low (0 + i) r.0))
  where
    Among : FlatNode → Type 0
    Among node = AllHold (λ object. object < length objects) node.inputs × AllHold (λ object. object < length objects) node.outputs

    low : (number : ℕ) (node : WalkedNode) → Among (flat_node parts objects number node)
    low number node = (
      inputs-low objects (node_kind parts objects (outputs_of objects number) node.function) (map (λ (o : NodeOutput). o.object) (outputs_of objects number)),
      outputs-low number 0 (length objects) objects (omega arith),
    )

-- so many objects, and nodes made over them
pub among-made : (parts : List Part) (objects : List HeldObject) (nodes : List WalkedNode) (count : ℕ) (made : List FlatNode) → count ≡ length objects → made ≡ walked_nodes parts objects nodes →
    AreAmong count made
among-made parts objects nodes count made counted walked = subst (λ n. AreAmong n made) (sym counted) (subst (AreAmong (length objects)) (sym walked) (walked-among parts objects nodes))

pub as-many : (all : List Object) (objects : List HeldObject) → map flats.object_of all ≡ objects_held objects → length all ≡ length objects
as-many all objects are = sym (length-map all flats.object_of) ∙ (ap length are ∙ length-map objects (λ (held : HeldObject). held.object))

-- Steps

pub go-refused : {A B : Type 0} (answer : Result A Refusal) (next : A → Result B Refusal) (told : Option Refusal) → IsRefusal answer told → IsRefusal (then_go answer next) told
go-refused answer next None is = tt
go-refused answer next (Some refusal) is = ap (λ a. then_go a next) is

few : (count : ℕ) → count ≤ most_parts → over_limit Objects most_parts count ≡ None
few count least = by_test (nat_lt most_parts count) refl
  where
    by_test : (test : Bool) → nat_lt most_parts count ≡ test → too_many_if test Objects most_parts ≡ None
    by_test false e = refl
    by_test true e = absurd (let h = ltb-true most_parts count e in omega (arith, h, least))

-- with few objects the design is that of the nodes in order
pub made-over : (parts : List Part) (objects : List HeldObject) (nodes : List WalkedNode) (processes : List WalkedProcess) (all : List FlatObject) (made : List FlatNode) →
    length objects ≤ most_parts →
    all ≡ objects_held objects → made ≡ walked_nodes parts objects nodes →
    over_parts parts nodes processes objects ≡ then_go (ordered_nodes all made) (λ sorted. Ok (design_of_nodes parts objects processes sorted))
made-over parts objects nodes processes all made least are walked =
    ap (λ refused. then_go (unless_refused refused objects) (λ few. over_nodes parts few processes (walked_nodes parts few nodes))) (few (length objects) least)
    ∙ (nodes-give-design parts objects processes (walked_nodes parts objects nodes) ∙ ap₂ (λ a m. then_go (ordered_nodes a m) (λ sorted. Ok (design_of_nodes parts objects processes sorted)))
    (sym are) (sym walked))

-- too many objects
pub many-over : (parts : List Part) (objects : List HeldObject) (nodes : List WalkedNode) (processes : List WalkedProcess) → most_parts < length objects →
    over_parts parts nodes processes objects ≡ Err (TooMany Objects (most_parts + 1))
many-over parts objects nodes processes more = ap (λ test. then_go (unless_refused (too_many_if test Objects most_parts) objects)
    (λ few. over_nodes parts few processes (walked_nodes parts few nodes))) (lt-ltb most_parts (length objects) more)

-- what comes behind the counts and the drivers
pub fine-over : (parts : List Part) → too_many_behaviours (behaviours_of parts) ≡ None → two_drivers (signals_of parts) (nodes_of (behaviours_of parts)) ≡ None →
    flat_of_parts parts ≡ over_parts parts (nodes_of (behaviours_of parts)) (processes_of (behaviours_of parts)) (objects_of_parts parts (nodes_of (behaviours_of parts)))
fine-over parts counted driven =
    ap (λ refused. then_go (unless_refused refused (behaviours_of parts)) (over_behaviours parts)) counted
    ∙ ap (λ refused. then_go (unless_refused refused (nodes_of (behaviours_of parts))) (λ nodes. over_parts parts nodes (processes_of (behaviours_of parts)) (objects_of_parts parts nodes))) driven

pub counted-over : (parts : List Part) (refusal : Refusal) → too_many_behaviours (behaviours_of parts) ≡ Some refusal → flat_of_parts parts ≡ Err refusal
counted-over parts refusal counted = ap (λ refused. then_go (unless_refused refused (behaviours_of parts)) (over_behaviours parts)) counted

pub driven-over : (parts : List Part) (refusal : Refusal) → too_many_behaviours (behaviours_of parts) ≡ None → two_drivers (signals_of parts) (nodes_of (behaviours_of parts)) ≡ Some refusal →
    flat_of_parts parts ≡ Err refusal
driven-over parts refusal counted driven =
    ap (λ refused. then_go (unless_refused refused (behaviours_of parts)) (over_behaviours parts)) counted
    ∙ ap (λ refused. then_go (unless_refused refused (nodes_of (behaviours_of parts))) (λ nodes. over_parts parts nodes (processes_of (behaviours_of parts)) (objects_of_parts parts nodes))) driven

-- A design of some elements

pub design-made : (parts : List Part) (objects : List HeldObject) (processes : List WalkedProcess) (sorted : List FlatNode) (all : List FlatObject) (joins : List NameJoined)
    (made : List FlatProcess) →
    all ≡ objects_held objects → joins ≡ names_joined (signals_of parts) objects → made ≡ map (flat_process parts objects) processes →
    design_of_nodes parts objects processes sorted ≡ record { objects = all; joined = joins; nodes = sorted; processes = made }
design-made parts objects processes sorted all joins made are joined_are made_are =
    ap (λ (o : List FlatObject). record { objects = o; joined = names_joined (signals_of parts) objects; nodes = sorted; processes = map (flat_process parts objects) processes }) (sym are)
    ∙ (ap (λ (j : List NameJoined). record { objects = all; joined = j; nodes = sorted; processes = map (flat_process parts objects) processes }) (sym joined_are)
    ∙ ap (λ (p : List FlatProcess). record { objects = all; joined = joins; nodes = sorted; processes = p }) (sym made_are))

-- with the nodes in order the design is there
pub sorted-over : (parts : List Part) (objects : List HeldObject) (nodes : List WalkedNode) (processes : List WalkedProcess) (all : List FlatObject) (made sorted : List FlatNode)
    (joins : List NameJoined) (tasks : List FlatProcess) →
    length objects ≤ most_parts → all ≡ objects_held objects → made ≡ walked_nodes parts objects nodes → joins ≡ names_joined (signals_of parts) objects →
    tasks ≡ map (flat_process parts objects) processes →
    ordered_nodes all made ≡ Ok sorted → over_parts parts nodes processes objects ≡ Ok (record { objects = all; joined = joins; nodes = sorted; processes = tasks })
sorted-over parts objects nodes processes all made sorted joins tasks least are walked joined_are tasks_are order =
    made-over parts objects nodes processes all made least are walked
    ∙ (ap (λ answer. then_go answer (λ sorted. Ok (design_of_nodes parts objects processes sorted))) order
    ∙ ap Ok (design-made parts objects processes sorted all joins tasks are joined_are tasks_are))

-- where the nodes are refused, so is the design
pub refused-over : (parts : List Part) (objects : List HeldObject) (nodes : List WalkedNode) (processes : List WalkedProcess) (all : List FlatObject) (made : List FlatNode) (told : Option Refusal) →
    length objects ≤ most_parts →
    all ≡ objects_held objects → made ≡ walked_nodes parts objects nodes → IsRefusal (ordered_nodes all made) told → IsRefusal (over_parts parts nodes processes objects) told
refused-over parts objects nodes processes all made told least are walked refused =
    subst (λ (answer : Result FlatDesign Refusal). IsRefusal answer told) (sym (made-over parts objects nodes processes all made least are walked))
    (go-refused (ordered_nodes all made) (λ sorted. Ok (design_of_nodes parts objects processes sorted)) told refused)

-- From parts and modules

-- where counts and drivers are fine, the design of the parts is that of what they do
pub whole-over : (parts : List Part) (nodes : List WalkedNode) (processes : List WalkedProcess) (objects : List HeldObject) → nodes ≡ nodes_of (behaviours_of parts) →
    processes ≡ processes_of (behaviours_of parts) →
    too_many_behaviours (behaviours_of parts) ≡ None → two_drivers (signals_of parts) nodes ≡ None → objects ≡ objects_of_parts parts nodes →
    flat_of_parts parts ≡ over_parts parts nodes processes objects
whole-over parts nodes processes objects nodes_are processes_are counted driven held =
    fine-over parts counted (subst (λ n. two_drivers (signals_of parts) n ≡ None) nodes_are driven)
    ∙ (ap (λ n. over_parts parts n (processes_of (behaviours_of parts)) (objects_of_parts parts n)) (sym nodes_are)
    ∙ (ap (λ p. over_parts parts nodes p (objects_of_parts parts nodes)) (sym processes_are) ∙ ap (λ h. over_parts parts nodes processes h) (sym held)))

-- two drivers that are told refuse the parts
pub told-over : (parts : List Part) (nodes : List WalkedNode) (told : Option Refusal) → nodes ≡ nodes_of (behaviours_of parts) → too_many_behaviours (behaviours_of parts) ≡ None →
    IsTold (two_drivers (signals_of parts) nodes) told → IsRefusal (flat_of_parts parts) told
told-over parts nodes None nodes_are counted is = tt
told-over parts nodes (Some refusal) nodes_are counted is = driven-over parts refusal counted (subst (λ n. two_drivers (signals_of parts) n ≡ Some refusal) nodes_are is)

-- the design of a top whose modules have names of their own is that of its walk
pub top-over : (modules : List SourceModule) (mode : Mode) (found : SourceModule) (named : Option SourceModule) → Some found ≡ named → second_module [] modules ≡ None →
    flat_from modules mode named ≡ then_go (walked_from modules mode found) flat_of_parts
top-over modules mode found named is once =
    ap (flat_from modules mode) (sym is) ∙ ap (λ refused. then_go (unless_refused refused found) (λ found. then_go (walked_from modules mode found) flat_of_parts)) once

pub twice-over : (modules : List SourceModule) (mode : Mode) (found : SourceModule) (named : Option SourceModule) (refusal : Refusal) → Some found ≡ named → second_module [] modules ≡ Some refusal →
    flat_from modules mode named ≡ Err refusal
twice-over modules mode found named refusal is twice =
    ap (flat_from modules mode) (sym is) ∙ ap (λ refused. then_go (unless_refused refused found) (λ found. then_go (walked_from modules mode found) flat_of_parts)) twice

-- designs of the same lists are one
pub same-design : (objects objects' : List Object) (joins joins' : List JoinedName) (nodes nodes' : List Node) (processes processes' : List Process) → objects ≡ objects' → joins ≡ joins' →
    nodes ≡ nodes' → processes ≡ processes' →
    flats.flat_design objects joins nodes processes ≡ flats.flat_design objects' joins' nodes' processes'
same-design objects objects' joins joins' nodes nodes' processes processes' a b c d =
    ap₂ (λ o j. flats.flat_design o j nodes processes) a b ∙ ap₂ (λ n p. flats.flat_design objects' joins' n p) c d

-- What a flat design is made of: the parts of a walk, none of which was refused.
use Rattle.std.proofs.Common.{◌≡◌, ℕ, ◌≤◌, List, [], length, Option, Some, None, Result, Ok, Err, refl, ap, ◌∙◌}
use Rattle.std.proofs.lemmas.Bool.{ltb-false}
use Rattle.std.specs.Prelude.{Bool, true, false, nat_lt}
use Rattle.v_design.specs.Designs.{FlatNode, FlatDesign}
use Rattle.v_design.specs.WellFormed.{most_parts}
use Rattle.v_tree.specs.Trees.{Identifier, SourceModule, SourceUnit}
use Rattle.v_elab.specs.declared.Mode.{Mode}
use Rattle.v_elab.specs.declared.What.{What}
use Rattle.v_elab.specs.declared.What.TheVariants.{Objects, Nodes, Processes}
use Rattle.v_elab.specs.Refusals.{Refusal, then_go, unless_refused}
use Rattle.v_elab.specs.Parts.{WalkedProcess, Part, refusal_or, too_many_if, over_limit}
use Rattle.v_elab.specs.Walk.{module_named, walked_from}
use Rattle.v_elab.specs.Drivers.{signals_of, WalkedNode, behaviours_of, nodes_of, processes_of, two_drivers}
use Rattle.v_elab.specs.Objects.{HeldObject, objects_of_parts}
use Rattle.v_elab.specs.Flat.{walked_nodes, loop_in, some_inputs_over, too_many_behaviours, design_with, over_nodes, over_parts, over_behaviours, flat_of_parts, second_module, flat_from, flat}

-- What isn't refused

-- what follows an answer
pub then_go-ok : {A B : Type 0} (first : Result A Refusal) (next : A → Result B Refusal) (answer : B) → then_go first next ≡ Ok answer → (middle : A) × (first ≡ Ok middle) × (next middle ≡ Ok answer)
then_go-ok (Ok middle) next answer e = (middle, refl, e)
then_go-ok (Err refusal) next answer e = absurd (cc)

pub unless_refused-ok : {A : Type 0} (refusal : Option Refusal) (given answer : A) → unless_refused refusal given ≡ Ok answer → (refusal ≡ None) × (given ≡ answer)
unless_refused-ok None given answer e = (refl, cc)
unless_refused-ok (Some refusal) given answer e = absurd (cc)

pub refusal_or-none : (one other : Option Refusal) → refusal_or one other ≡ None → (one ≡ None) × (other ≡ None)
refusal_or-none None other e = (refl, e)
refusal_or-none (Some refusal) other e = absurd (cc)

too_many_if-none : (over : Bool) (what : What) (limit : ℕ) → too_many_if over what limit ≡ None → over ≡ false
too_many_if-none true what limit e = absurd (cc)
too_many_if-none false what limit e = refl

same_answer : {A : Type 0} (one other : A) (given : Result A Refusal) → given ≡ Ok one → given ≡ Ok other → one ≡ other
same_answer one other given e d = cc

-- a count that isn't refused is within its limit
pub over_limit-none : (what : What) (limit count : ℕ) → over_limit what limit count ≡ None → count ≤ limit
over_limit-none what limit count e = ltb-false limit count (too_many_if-none (nat_lt limit count) what limit e)

-- The parts of a design

-- the nodes of a walk, in its order
abbrev pub nodes_in : List Part → List WalkedNode
nodes_in parts = nodes_of (behaviours_of parts)

abbrev pub processes_in : List Part → List WalkedProcess
processes_in parts = processes_of (behaviours_of parts)

-- the objects, with what they hold
abbrev pub objects_in : List Part → List HeldObject
objects_in parts = objects_of_parts parts (nodes_in parts)

-- the nodes over the objects, in the order of the walk
abbrev pub flat_nodes_in : List Part → List FlatNode
flat_nodes_in parts = walked_nodes parts (objects_in parts) (nodes_in parts)

-- the design of the parts of a walk, none of which was refused
pub record IsMadeOf (parts : List Part) (design : FlatDesign) : Type 0 where
  pub few_nodes : length (nodes_in parts) ≤ most_parts
  pub few_processes : length (processes_in parts) ≤ most_parts
  pub one_driver : two_drivers (signals_of parts) (nodes_in parts) ≡ None
  pub few_objects : length (objects_in parts) ≤ most_parts
  pub few_inputs : some_inputs_over (flat_nodes_in parts) ≡ None
  pub acyclic : loop_in (objects_in parts) (flat_nodes_in parts) ≡ None
  pub is : design_with parts (objects_in parts) (flat_nodes_in parts) (processes_in parts) ≡ design

-- the design of a unit: that of the walk from its top
pub record IsFlatOf (modules : List SourceModule) (mode : Mode) (design : FlatDesign) : Type 0 where
  pub name : Identifier
  pub top : SourceModule
  pub found : module_named modules name ≡ Some top
  pub one_of_a_name : second_module [] modules ≡ None
  pub parts : List Part
  pub walk : walked_from modules mode top ≡ Ok parts
  pub made : IsMadeOf parts design

-- nodes with few inputs and without a loop
record NodesMade (parts : List Part) (objects : List HeldObject) (nodes : List FlatNode) (processes : List WalkedProcess) (design : FlatDesign) : Type 0 where
  few_inputs : some_inputs_over nodes ≡ None
  acyclic : loop_in objects nodes ≡ None
  is : design_with parts objects nodes processes ≡ design

over_nodes-ok : (parts : List Part) (objects : List HeldObject) (processes : List WalkedProcess) (nodes : List FlatNode) (design : FlatDesign) → over_nodes parts objects processes nodes ≡ Ok design →
    NodesMade parts objects nodes processes design
over_nodes-ok parts objects processes nodes design e =
    let few = then_go-ok (unless_refused (some_inputs_over nodes) nodes) (λ few. then_go (unless_refused (loop_in objects few) few) (λ acyclic. Ok (design_with parts objects acyclic processes)))
    design e in
    let is = unless_refused-ok (some_inputs_over nodes) nodes few.0 few.1 in
    let rest : then_go (unless_refused (loop_in objects nodes) nodes) (λ acyclic. Ok (design_with parts objects acyclic processes)) ≡ Ok design =
    ap (λ n. then_go (unless_refused (loop_in objects n) n) (λ acyclic. Ok (design_with parts objects acyclic processes))) is.1 ∙ few.2 in
    let acyclic = then_go-ok (unless_refused (loop_in objects nodes) nodes) (λ acyclic. Ok (design_with parts objects acyclic processes)) design rest in
    let none = unless_refused-ok (loop_in objects nodes) nodes acyclic.0 acyclic.1 in
    record {
      few_inputs = is.0;
      acyclic = none.0;
      is = ap (λ n. design_with parts objects n processes) none.1
          ∙ same_answer (design_with parts objects acyclic.0 processes) design (Ok (design_with parts objects acyclic.0 processes)) refl acyclic.2;
    }

over_parts-ok : (parts : List Part) (nodes : List WalkedNode) (processes : List WalkedProcess) (objects : List HeldObject) (design : FlatDesign) →
    over_parts parts nodes processes objects ≡ Ok design →
    (length objects ≤ most_parts) × NodesMade parts objects (walked_nodes parts objects nodes) processes design
over_parts-ok parts nodes processes objects design e =
    let few = then_go-ok (unless_refused (over_limit Objects most_parts (length objects)) objects) (λ few. over_nodes parts few processes (walked_nodes parts few nodes)) design e in
    let is = unless_refused-ok (over_limit Objects most_parts (length objects)) objects few.0 few.1 in (
      over_limit-none Objects most_parts (length objects) is.0,
      over_nodes-ok parts objects processes (walked_nodes parts objects nodes) design
          (ap (λ o. over_nodes parts o processes (walked_nodes parts o nodes)) is.1 ∙ few.2),
    )

flat_of_parts-ok : (parts : List Part) (design : FlatDesign) → flat_of_parts parts ≡ Ok design → IsMadeOf parts design
flat_of_parts-ok parts design e =
    let behaviours = behaviours_of parts in
    let few = then_go-ok (unless_refused (too_many_behaviours behaviours) behaviours) (over_behaviours parts) design e in
    let is = unless_refused-ok (too_many_behaviours behaviours) behaviours few.0 few.1 in
    let limits = refusal_or-none (over_limit Nodes most_parts (length (nodes_of behaviours))) (over_limit Processes most_parts (length (processes_of behaviours))) is.0 in
    let rest : over_behaviours parts behaviours ≡ Ok design = ap (over_behaviours parts) is.1 ∙ few.2 in
    let driven = then_go-ok (unless_refused (two_drivers (signals_of parts) (nodes_of behaviours)) (nodes_of behaviours))
    (λ nodes. over_parts parts nodes (processes_of behaviours) (objects_of_parts parts nodes)) design rest in
    let none = unless_refused-ok (two_drivers (signals_of parts) (nodes_of behaviours)) (nodes_of behaviours) driven.0 driven.1 in
    let made = over_parts-ok parts (nodes_in parts) (processes_in parts) (objects_in parts) design
    (ap (λ n. over_parts parts n (processes_of behaviours) (objects_of_parts parts n)) none.1 ∙ driven.2) in
    record {
      few_nodes = over_limit-none Nodes most_parts (length (nodes_of behaviours)) limits.0;
      few_processes = over_limit-none Processes most_parts (length (processes_of behaviours)) limits.1;
      one_driver = none.0;
      few_objects = made.0;
      few_inputs = made.1.few_inputs;
      acyclic = made.1.acyclic;
      is = made.1.is;
    }

flat_from-ok : (modules : List SourceModule) (mode : Mode) (name : Identifier) (top : Option SourceModule) (design : FlatDesign) → module_named modules name ≡ top →
    flat_from modules mode top ≡ Ok design → IsFlatOf modules mode design
flat_from-ok modules mode name None design found e = absurd (cc)
flat_from-ok modules mode name (Some top) design named e =
    let found = then_go-ok (unless_refused (second_module [] modules) top) (λ found. then_go (walked_from modules mode found) flat_of_parts) design e in
    let is = unless_refused-ok (second_module [] modules) top found.0 found.1 in
    let rest : then_go (walked_from modules mode top) flat_of_parts ≡ Ok design = ap (λ m. then_go (walked_from modules mode m) flat_of_parts) is.1 ∙ found.2 in
    let walk = then_go-ok (walked_from modules mode top) flat_of_parts design rest in
    record { name = name; top = top; found = named; one_of_a_name = is.0; parts = walk.0; walk = walk.1; made = flat_of_parts-ok walk.0 design walk.2 }

-- what a flat design is made of
pub flat-made : (unit : SourceUnit) (top : Identifier) (mode : Mode) (design : FlatDesign) → flat unit top mode ≡ Ok design → IsFlatOf unit.modules mode design
flat-made unit top mode design e = flat_from-ok unit.modules mode top (module_named unit.modules top) design refl e

-- The assignments of a flat design: their values are sized, and have a bit for each bit of the objects that they write (IEEE 1364-2001, clause 4.4 for sizes, clause 6.1 for assignments).
use Rattle.std.proofs.Common.{◌≡◌, ℕ, zero, suc, ◌+◌, ◌≤◌, max, Bool, true, false, List, [], ◌∷◌, map, get_or, Option, Some, None, Ok, refl, sym, ap, ◌∙◌, subst, inl, inr, arith}
use Rattle.std.specs.Prelude.{nat_eq, slice_get}
use Rattle.std.specs.List.{AllZip}
use Rattle.std.proofs.lemmas.Bool.{cases_Bool, eqb-true}
use Rattle.vf_base.specs.Base.{SourcePlace}
use Rattle.vf_base.specs.Lists.{AllHold, map_numbered, joined}
use Rattle.v_design.specs.Expressions.{width_of}
use Rattle.v_design.specs.Sized.{IsSized}
use Rattle.v_design.specs.Designs.{FlatObject, FlatNodeKind, AssignNode, GateNode, BlockNode, FlatNode, FlatDesign, width_in}
use Rattle.v_tree.specs.Trees.{Identifier, NullStatement, SourceModule}
use Rattle.v_names.specs.Scopes.{Scope}
use Rattle.v_names.specs.SizedTrees.{SizedExpression, over_objects}
use Rattle.v_names.specs.Readings.{Size, size_or_bit, tree_in, reading_of}
use Rattle.v_names.specs.SizedLaws.{IsSizedTo}
use Rattle.v_elab.specs.declared.Mode.{Mode}
use Rattle.v_elab.specs.Parts.{Signal, Drive, ValueIn, WalkedProcess, Part, SignalPart, MemoryPart, AssignPart, GatePart, ProcessPart, InstancePart}
use Rattle.v_elab.specs.Walk.{walked_from}
use Rattle.v_elab.specs.Drivers.{signals_of, NodeFunction, AssignFunction, GateFunction, BlockFunction, WalkedNode, drives_width, Behaviour, IsNode, IsProcess, block_or_process, process_behaviour}
use Rattle.v_elab.specs.Drivers.{part_behaviour, behaviours_of, nodes_of}
use Rattle.v_elab.specs.Objects.{PieceDriver, HeldObject, holders_at}
use Rattle.v_elab.specs.Flat.{NodeOutput, output_if, output_of_object, outputs_of, meaning_in, node_kind, flat_node}
use Rattle.graph_order.specs.ListLaws.{AllHold-slice_get}
use Rattle.flat_laws.specs.Made.{nodes_in, objects_in, flat_nodes_in, IsMadeOf}
use Rattle.flat_laws.specs.Lists.{same_some, AllHold-from}
use Rattle.flat_laws.specs.Numbered.{AllHold-each, at-numbered, AllHold-append}
use Rattle.flat_laws.specs.Limits.{design-objects, each-node}
use Rattle.flat_laws.specs.Hierarchy.Given.{IsHierarchy}
use Rattle.flat_laws.specs.Sizes.Sized.{complete-size}
use Rattle.flat_laws.specs.Sizes.Entries.{Ascend}
use Rattle.flat_laws.specs.Sizes.Meant.{process-meant}
use Rattle.flat_laws.specs.Names.Placed.{scope-at}
use Rattle.flat_laws.specs.Names.Settled.{walk-settled}
use Rattle.flat_laws.specs.Drivers.Places.{DriverFits, drivers-fit}
use Rattle.flat_laws.specs.Drivers.AssignedParts.{IsReadAssign, IsReadAssignment, assignments-read}

-- an assignment's value is sized, and each object that it writes has its bits in the value
abbrev pub IsAssignSized : FlatDesign → FlatNodeKind → List ℕ → Type 0
IsAssignSized design (AssignNode value places) outputs = IsSized value × AllZip (λ object place. place + width_in design object ≤ width_of value) outputs places
IsAssignSized design (GateNode kind terminals) outputs = Unit {0}
IsAssignSized design (BlockNode statement) outputs = Unit {0}

-- an assignment's value is sized
abbrev pub IsSizedValue : FlatNodeKind → Type 0
IsSizedValue (AssignNode value places) = IsSized value
IsSizedValue (GateNode kind terminals) = Unit {0}
IsSizedValue (BlockNode statement) = Unit {0}

-- Outputs

one-output : (P : NodeOutput → Type 0) (number object : ℕ) (driver : Option PieceDriver) → ((d : PieceDriver) → driver ≡ Some d → d.node ≡ number → P (record { object = object; place = d.place })) →
    AllHold P (output_of_object number object driver)
one-output P number object None h = tt
one-output P number object (Some d) h =
    let output : NodeOutput = record { object = object; place = d.place } in
    elim (cases_Bool (nat_eq d.node number)) [
      | inl same ↦ subst (AllHold P) (sym (ap (λ b. output_if b output) same)) (h d refl (eqb-true d.node number same), tt)
      | inr other ↦ subst (AllHold P) (sym (ap (λ b. output_if b output) other)) tt
    ]

outputs-hold : (P : NodeOutput → Type 0) (number start : ℕ) (objects : List HeldObject) →
    ((i object : ℕ) (held : HeldObject) (d : PieceDriver) → object ≡ start + i → slice_get objects i ≡ Some held → held.driver ≡ Some d → d.node ≡ number →
    P (record { object = object; place = d.place })) →
    AllHold P (joined (map_numbered (λ object (held : HeldObject). output_of_object number object held.driver) start objects))
outputs-hold P number start [] h = tt
outputs-hold P number start (held ∷ objects) h =
    AllHold-append P (output_of_object number start held.driver) (joined (map_numbered (λ object (other : HeldObject). output_of_object number object other.driver) (start + 1) objects))
    (one-output P number start held.driver (λ d e n. h 0 start held d (omega arith) refl e n))
    (outputs-hold P number (start + 1) objects (λ i object other d is at e n. h (suc i) object other d (omega (arith, is)) at e n))

all-zip : {A : Type 0} (P : ℕ → ℕ → Type 0) (f g : A → ℕ) (xs : List A) → AllHold (λ x. P (f x) (g x)) xs → AllZip P (map f xs) (map g xs)
all-zip P f g [] h = tt
all-zip P f g (x ∷ xs) h = (h.0, all-zip P f g xs h.1)

width-at : (objects : List HeldObject) (i : ℕ) (held : HeldObject) → slice_get objects i ≡ Some held →
    get_or (map (λ (o : FlatObject). o.width) (map (λ (h : HeldObject). h.object) objects)) i 0 ≡ held.object.width
width-at [] i held e = absurd (cc)
width-at (first ∷ objects) zero held e = ap (λ (h : HeldObject). h.object.width) (same_some first held e)
width-at (first ∷ objects) (suc i) held e = width-at objects i held e

design-width : (parts : List Part) (design : FlatDesign) → IsMadeOf parts design → (i : ℕ) (held : HeldObject) → slice_get (objects_in parts) i ≡ Some held → width_in design i ≡ held.object.width
design-width parts design made i held at =
    ap (λ (objects : List FlatObject). get_or (map (λ (o : FlatObject). o.width) objects) i 0) (sym (design-objects parts design made)) ∙ width-at (objects_in parts) i held at

-- the places of each drive ascend
abbrev IsAscended : WalkedNode → Type 0
IsAscended node = AllHold (λ (d : Drive). Ascend 0 d.places) node.drives

-- the objects that a node writes have their bits among those of its drives
outputs-fit : (parts : List Part) (design : FlatDesign) → IsMadeOf parts design → (number : ℕ) (node : WalkedNode) → slice_get (nodes_in parts) number ≡ Some node → IsAscended node → (most : ℕ) →
    drives_width node.drives ≤ most →
    AllHold (λ (o : NodeOutput). o.place + width_in design o.object ≤ most) (outputs_of (objects_in parts) number)
outputs-fit parts design made number node at up most covers =
    outputs-hold (λ (o : NodeOutput). o.place + width_in design o.object ≤ most) number 0 (objects_in parts)
    (λ i object held d is there driver n.
    let fits = AllHold-slice_get (DriverFits (nodes_in parts)) (objects_in parts) i held (drivers-fit parts (nodes_in parts)) there d driver in
    let own : node ≡ fits.node = same_some node fits.node (sym at ∙ ap (slice_get (nodes_in parts)) (sym n) ∙ fits.is) in
    let within = fits.within (subst IsAscended own up) in
    let drives : drives_width fits.node.drives ≡ drives_width node.drives = ap (λ (w : WalkedNode). drives_width w.drives) (sym own) in
    let here : object ≡ i = omega (arith, is) in
    let width : width_in design object ≡ held.object.width = ap (width_in design) here ∙ design-width parts design made i held there in
    omega (arith, within, drives, width, covers))

-- Nodes

-- an assignment of the walk with what its value is read from
abbrev IsReadBy : List SourceModule → Mode → SourceModule → List Drive → NodeFunction → Type 0
IsReadBy modules mode top drives (AssignFunction value) = IsReadAssign modules mode top drives value
IsReadBy modules mode top drives (GateFunction kind path terminals) = Unit {0}
IsReadBy modules mode top drives (BlockFunction process) = Unit {0}

abbrev IsReadBehaviour : List SourceModule → Mode → SourceModule → Behaviour → Type 0
IsReadBehaviour modules mode top (IsNode node) = IsReadBy modules mode top node.drives node.function
IsReadBehaviour modules mode top (IsProcess process) = Unit {0}

module _ (modules : List SourceModule) (mode : Mode) (top : SourceModule) where
  block-read : (signals : List Signal) (process : WalkedProcess) (test : Bool) (targets : List Identifier) → IsReadBehaviour modules mode top (block_or_process signals process test targets)
  block-read signals process true targets = tt
  block-read signals process false targets = tt

  process-read : (parts : List Part) (number : ℕ) (process : WalkedProcess) (targets : Option (List Identifier)) → IsReadBehaviour modules mode top (process_behaviour parts number process targets)
  process-read parts number process None = tt
  process-read parts number process (Some targets) = block-read (signals_of parts) process _ targets

  part-read : (parts : List Part) (number : ℕ) (part : Part) → IsReadAssignment modules mode top part → AllHold (IsReadBehaviour modules mode top) (part_behaviour parts number part)
  part-read parts number (AssignPart drives value) h = (h, tt)
  part-read parts number (GatePart name kind drives path terminals) h = (tt, tt)
  part-read parts number (ProcessPart process) h = (process-read parts number process process.targets, tt)
  part-read parts number (SignalPart signal) h = tt
  part-read parts number (MemoryPart memory) h = tt
  part-read parts number InstancePart h = tt

  behaviours-read : (parts : List Part) (number : ℕ) (some : List Part) → AllHold (IsReadAssignment modules mode top) some →
      AllHold (IsReadBehaviour modules mode top) (joined (map_numbered (part_behaviour parts) number some))
  behaviours-read parts number [] h = tt
  behaviours-read parts number (part ∷ rest) h =
      AllHold-append (IsReadBehaviour modules mode top) (part_behaviour parts number part) (joined (map_numbered (part_behaviour parts) (number + 1) rest)) (part-read parts number part h.0)
      (behaviours-read parts (number + 1) rest h.1)

  nodes-read : (behaviours : List Behaviour) → AllHold (IsReadBehaviour modules mode top) behaviours →
      AllHold (λ (node : WalkedNode). IsReadBy modules mode top node.drives node.function) (nodes_of behaviours)
  nodes-read [] h = tt
  nodes-read (IsNode node ∷ rest) h = (h.0, nodes-read rest h.1)
  nodes-read (IsProcess process ∷ rest) h = nodes-read rest h.1

  -- a process by which the names of an instance mean what they mean
  abbrev process_at : Identifier → Scope → WalkedProcess
  process_at path scope = let place : SourcePlace = record { line = 0; column = 0 } in record { always = false; place = place; path = path; scope = scope; body = NullStatement place; targets = None }

  -- the value of an assignment is sized
  record ValueSized (value : ValueIn) (parts : List Part) (width : ℕ) : Type 0 where
    size : Size
    some : 1 ≤ size.width
    sized : IsSizedTo (over_objects (holders_at parts (objects_in parts) value.path) value.value) size.width (max width size.width) size.signed

  value-sized : (parts : List Part) → walked_from modules mode top ≡ Ok parts → IsHierarchy parts → (drives : List Drive) (value : ValueIn) → (h : IsReadAssign modules mode top drives value) →
      ValueSized value parts h.width
  value-sized parts e hierarchy drives value h =
      let process = process_at value.path h.scope in
      let meaning = meaning_in parts (objects_in parts) process in
      let meant = process-meant parts hierarchy process (record {
        at = scope-at modules mode top parts e value.path h.scope h.at;
        settled = walk-settled modules mode top parts e value.path h.scope h.at;
      }) in
      let reading = reading_of h.scope h.e in
      let holders = holders_at parts (objects_in parts) value.path in
      let size = complete-size meaning meant h.e h.complete in
      let most = size.most in
      let few = h.few in
      let T : Option Size → Type 0 = λ z. IsSizedTo (over_objects holders (reading.tree (max h.width (size_or_bit z).width) (size_or_bit z).signed)) size.size.width
      (max h.width size.size.width) size.size.signed in
      let tree : IsSizedTo (over_objects holders (tree_in h.width reading)) size.size.width (max h.width size.size.width) size.size.signed =
      subst T (sym size.size_is) (size.gives (max h.width size.size.width) size.size.signed (omega arith) (omega (arith, few, most)) (λ s. s)) in
      record {
        size = size.size;
        some = size.some;
        sized = subst (λ (t : SizedExpression). IsSizedTo (over_objects holders t) size.size.width (max h.width size.size.width) size.size.signed) h.is tree;
      }

  function-sized : (parts : List Part) (design : FlatDesign) → walked_from modules mode top ≡ Ok parts → IsMadeOf parts design → IsHierarchy parts → (number : ℕ) (node : WalkedNode) →
      slice_get (nodes_in parts) number ≡ Some node → (function : NodeFunction) →
      IsReadBy modules mode top node.drives function →
      IsAssignSized design (node_kind parts (objects_in parts) (outputs_of (objects_in parts) number) function) (map (λ (o : NodeOutput). o.object) (outputs_of (objects_in parts) number))
  function-sized parts design e made hierarchy number node at (GateFunction kind path terminals) h = tt
  function-sized parts design e made hierarchy number node at (BlockFunction process) h = tt
  function-sized parts design e made hierarchy number node at (AssignFunction value) h =
      let holders = holders_at parts (objects_in parts) value.path in
      let is = value-sized parts e hierarchy node.drives value h in
      let some = is.some in
      let covers = h.covers in
      let width = is.sized.width_is in
      let fits = outputs-fit parts design made number node at h.ascends (width_of (over_objects holders value.value)) (omega (arith, covers, width, some)) in (
        is.sized.sized,
        all-zip (λ object place. place + width_in design object ≤ width_of (over_objects holders value.value)) (λ (o : NodeOutput). o.object) (λ (o : NodeOutput). o.place)
            (outputs_of (objects_in parts) number) fits,
      )

  function-value : (parts : List Part) → walked_from modules mode top ≡ Ok parts → IsHierarchy parts → (outputs : List NodeOutput) (drives : List Drive) (function : NodeFunction) →
      IsReadBy modules mode top drives function → IsSizedValue (node_kind parts (objects_in parts) outputs function)
  function-value parts e hierarchy outputs drives (GateFunction kind path terminals) h = tt
  function-value parts e hierarchy outputs drives (BlockFunction process) h = tt
  function-value parts e hierarchy outputs drives (AssignFunction value) h = (value-sized parts e hierarchy drives value h).sized.sized

  -- the values of a walk's assignments are sized, over the objects of its parts
  pub values-sized : (parts : List Part) → walked_from modules mode top ≡ Ok parts → IsHierarchy parts → (outputs : List NodeOutput) →
      AllHold (λ (node : WalkedNode). IsSizedValue (node_kind parts (objects_in parts) outputs node.function)) (nodes_in parts)
  values-sized parts e hierarchy outputs =
      AllHold-each (λ (node : WalkedNode). IsReadBy modules mode top node.drives node.function) (λ (node : WalkedNode). IsSizedValue (node_kind parts (objects_in parts) outputs node.function))
      (nodes_in parts) (λ node h. function-value parts e hierarchy outputs node.drives node.function h)
      (nodes-read (behaviours_of parts) (behaviours-read parts 0 parts (assignments-read modules mode top parts e)))

  -- the assignments of a design are sized
  pub assigns-sized : (parts : List Part) (design : FlatDesign) → walked_from modules mode top ≡ Ok parts → IsMadeOf parts design → IsHierarchy parts →
      AllHold (λ (node : FlatNode). IsAssignSized design node.kind node.outputs) design.nodes
  assigns-sized parts design e made hierarchy =
      let read = nodes-read (behaviours_of parts) (behaviours-read parts 0 parts (assignments-read modules mode top parts e)) in
      each-node (λ (node : FlatNode). IsAssignSized design node.kind node.outputs) parts design made
      (AllHold-from (λ (node : FlatNode). IsAssignSized design node.kind node.outputs) (flat_nodes_in parts)
      (λ i node at.
      let own = at-numbered (flat_node parts (objects_in parts)) 0 (nodes_in parts) i node at in
      let same : 0 + i ≡ i = omega arith in
      let is : flat_node parts (objects_in parts) i own.0 ≡ node = ap (λ k. flat_node parts (objects_in parts) k own.0) (sym same) ∙ own.2 in
      let h = AllHold-slice_get (λ (walked : WalkedNode). IsReadBy modules mode top walked.drives walked.function) (nodes_in parts) i own.0 read own.1 in
      subst (λ (n : FlatNode). IsAssignSized design n.kind n.outputs) is (function-sized parts design e made hierarchy i own.0 own.1 own.0.function h)))

-- What drives the objects of a flat design: each net piece has one node at most, and nothing else has any (IEEE 1364-2001, clause 6.1; that a net has one driver for each bit is own).
use Rattle.std.proofs.Common.{◌≡◌, ℕ, zero, suc, ◌+◌, ◌<◌, ◌≤◌, Bool, true, false, List, [], ◌∷◌, ◌++◌, map, Option, Some, None, refl, ap, sym, ◌∙◌, inl, inr, ◌⊎◌, arith}
use Rattle.std.specs.Prelude.{◌||◌, IsTrue, nat_eq, slice_get, sum_by}
use Rattle.std.specs.List.Sorted.{IsPermutation}
use Rattle.std.proofs.lemmas.Bool.{cases_Bool, or_cases, or_left, or_right, eq-eqb, eqb-true}
use Rattle.std.proofs.lemmas.List.{map-append}
use Rattle.std.proofs.lemmas.List.Sorted.{sum_by-IsPermutation}
use Rattle.vf_base.specs.Lists.{has, map_numbered, joined, without_repeats, AllHold}
use Rattle.v_design.specs.Designs.{FlatObject, FlatNode, FlatDesign}
use Rattle.v_design.specs.Paths.{is_net, numbers_of, net_pieces, one_if}
use Rattle.v_design.specs.WellFormed.{IsAscending}
use Rattle.v_ports.specs.Pieces.{CutPiece}
use Rattle.v_elab.specs.Parts.{Signal, Part, SignalPart, MemoryPart, AssignPart, GatePart, ProcessPart, InstancePart}
use Rattle.v_elab.specs.Drivers.{signals_of, is_unjoined, WalkedNode, driving_variables, ObjectDrive, object_drives}
use Rattle.v_elab.specs.Objects.{PieceDriver, HeldObject, piece_object, pieces_or_variable, signal_objects, word_object, part_objects, objects_of_parts}
use Rattle.v_elab.specs.Flat.{NodeOutput, output_if, output_of_object, outputs_of, flat_node, walked_nodes}
use Rattle.graph_order.specs.ListLaws.{AllHold-slice_get, has-append}
use Rattle.flat_laws.specs.Lists.{same_some, two-counted}
use Rattle.flat_laws.specs.Numbered.{at-numbered, AllHold-each, AllHold-flat_map, AllHold-map, AllHold-all, ascending-once, counted-once}

-- The objects that a node of the walk writes

abbrev pub objects_of_outputs : List NodeOutput → List ℕ
objects_of_outputs outputs = map (λ (p : NodeOutput). p.object) outputs

-- the objects that a node writes among those from a number on
abbrev pub outputs_from : ℕ → ℕ → List HeldObject → List NodeOutput
outputs_from number start objects = joined (map_numbered (λ object (held : HeldObject). output_of_object number object held.driver) start objects)

-- an object is written by the node of its driver
pub record IsWrittenBy (number : ℕ) (held : HeldObject) : Type 0 where
  pub driver : PieceDriver
  pub is : held.driver ≡ Some driver
  pub node : driver.node ≡ number

own-output : (number object o : ℕ) (held : HeldObject) (driver : Option PieceDriver) → held.driver ≡ driver → has (objects_of_outputs (output_of_object number object driver)) o ≡ true →
    (o ≡ object) × IsWrittenBy number held
own-output number object o held None is e = absurd (cc)
own-output number object o held (Some driver) is e =
    elim (cases_Bool (nat_eq driver.node number)) [
      | inl same ↦
          let here : (nat_eq object o || false) ≡ true = ap (λ b. has (objects_of_outputs (output_if b (record { object = object; place = driver.place }))) o) (sym same) ∙ e in
          elim (or_cases (nat_eq object o) false here) [
            | inl it ↦ (sym (eqb-true object o it), record { driver = driver; is = is; node = eqb-true driver.node number same })
            | inr none ↦ absurd (cc)
          ]
      | inr other ↦
          let none : false ≡ true = ap (λ b. has (objects_of_outputs (output_if b (record { object = object; place = driver.place }))) o) (sym other) ∙ e in absurd (cc)
    ]

-- an object that a node writes, with its place among the objects
pub record Written (number start o : ℕ) (objects : List HeldObject) : Type 0 where
  pub place : ℕ
  pub held : HeldObject
  pub is : slice_get objects place ≡ Some held
  pub object_is : o ≡ start + place
  pub by : IsWrittenBy number held

pub written-from : (number start o : ℕ) (objects : List HeldObject) → has (objects_of_outputs (outputs_from number start objects)) o ≡ true → Written number start o objects
written-from number start o [] e = absurd (cc)
written-from number start o (held ∷ objects) e =
    let first = output_of_object number start held.driver in
    let rest = outputs_from number (start + 1) objects in
    let split : (has (objects_of_outputs first) o || has (objects_of_outputs rest) o) ≡ true =
    sym (ap (λ l. has l o) (map-append (λ (p : NodeOutput). p.object) first rest) ∙ has-append (objects_of_outputs first) (objects_of_outputs rest) o) ∙ e in
    elim (or_cases (has (objects_of_outputs first) o) (has (objects_of_outputs rest) o) split) [
      | inl here ↦ let own = own-output number start o held held.driver refl here in record { place = 0; held = held; is = refl; object_is = omega (arith, own.0); by = own.1 }
      | inr later ↦
          let w = written-from number (start + 1) o objects later in record { place = suc w.place; held = w.held; is = w.is; object_is = omega (arith, w.object_is); by = w.by }
    ]

-- the objects ascend
outputs-ascend : (number start : ℕ) (objects : List HeldObject) → AllHold (λ o. start ≤ o) (objects_of_outputs (outputs_from number start objects))
    × IsAscending (objects_of_outputs (outputs_from number start objects))
outputs-ascend number start [] = (tt, tt)
outputs-ascend number start (held ∷ objects) =
    let rest = outputs-ascend number (start + 1) objects in
    by_driver held.driver (objects_of_outputs (outputs_from number (start + 1) objects)) (outputs_from number (start + 1) objects) refl rest.0 rest.1
  where
    Both : List NodeOutput → Type 0
    Both all = AllHold (λ o. start ≤ o) (objects_of_outputs all) × IsAscending (objects_of_outputs all)

    by_test : (test : Bool) (place : ℕ) (later : List ℕ) (rest : List NodeOutput) → objects_of_outputs rest ≡ later → AllHold (λ o. start + 1 ≤ o) (objects_of_outputs rest) →
        IsAscending (objects_of_outputs rest) →
        AllHold (λ o. start ≤ o) (objects_of_outputs (output_if test (record { object = start; place = place }) ++ rest))
        × IsAscending (objects_of_outputs (output_if test (record { object = start; place = place }) ++ rest))
    by_test true place later rest is low up = (
      (omega arith, AllHold-each (λ o. start + 1 ≤ o) (λ o. start ≤ o) (objects_of_outputs rest) (λ o h. omega (arith, h)) low),
      (AllHold-each (λ o. start + 1 ≤ o) (λ o. start < o) (objects_of_outputs rest) (λ o h. omega (arith, h)) low, up),
    )
    by_test false place later rest is low up = (AllHold-each (λ o. start + 1 ≤ o) (λ o. start ≤ o) (objects_of_outputs rest) (λ o h. omega (arith, h)) low, up)

    by_driver : (driver : Option PieceDriver) (later : List ℕ) (rest : List NodeOutput) → objects_of_outputs rest ≡ later → AllHold (λ o. start + 1 ≤ o) (objects_of_outputs rest) →
        IsAscending (objects_of_outputs rest) →
        AllHold (λ o. start ≤ o) (objects_of_outputs (output_of_object number start driver ++ rest)) × IsAscending (objects_of_outputs (output_of_object number start driver ++ rest))
    by_driver None later rest is low up = (AllHold-each (λ o. start + 1 ≤ o) (λ o. start ≤ o) (objects_of_outputs rest) (λ o h. omega (arith, h)) low, up)
    by_driver (Some driver) later rest is low up = by_test (nat_eq driver.node number) driver.place later rest is low up

-- a node writes each of its objects once
pub outputs-once : (objects : List HeldObject) (number : ℕ) → without_repeats [] (map (λ (p : NodeOutput). p.object) (outputs_of objects number)) ≡ map (λ (p : NodeOutput). p.object)
    (outputs_of objects number)
outputs-once objects number = ascending-once (objects_of_outputs (outputs_from number 0 objects)) (outputs-ascend number 0 objects).1

-- One driver

-- an object that two nodes of the walk write is driven by both, so they are one
outputs-differ : (objects : List HeldObject) (o one other : ℕ) → has (objects_of_outputs (outputs_of objects one)) o ≡ true → has (objects_of_outputs (outputs_of objects other)) o ≡ true → one ≡ other
outputs-differ objects o one other e d =
    let first = written-from one 0 o objects e in
    let second = written-from other 0 o objects d in
    let place : first.place ≡ second.place = omega (arith, first.object_is, second.object_is) in
    let held : first.held ≡ second.held = same_some first.held second.held (sym first.is ∙ ap (slice_get objects) place ∙ second.is) in
    let driver : first.by.driver ≡ second.by.driver = same_some first.by.driver second.by.driver (sym first.by.is ∙ ap (λ (h : HeldObject). h.driver) held ∙ second.by.is) in
    sym first.by.node ∙ ap (λ (p : PieceDriver). p.node) driver ∙ second.by.node

-- the node of the walk at a number
pub node-outputs : (parts : List Part) (objects : List HeldObject) (nodes : List WalkedNode) (i : ℕ) (node : FlatNode) → slice_get (walked_nodes parts objects nodes) i ≡ Some node →
    node.outputs ≡ objects_of_outputs (outputs_of objects i)
node-outputs parts objects nodes i node at =
    let r = at-numbered (flat_node parts objects) 0 nodes i node at in
    let number : 0 + i ≡ i = omega arith in
    ap (λ (n : FlatNode). n.outputs) (sym r.2) ∙ ap (λ k. objects_of_outputs (outputs_of objects k)) number

one_if-le : (b : Bool) → one_if b ≤ 1
one_if-le true = omega arith
one_if-le false = omega arith

-- of the nodes of the walk at most one writes an object
pub one-writes : (parts : List Part) (objects : List HeldObject) (nodes : List WalkedNode) (o : ℕ) → sum_by (λ (n : FlatNode). one_if (has n.outputs o)) (walked_nodes parts objects nodes) ≤ 1
one-writes parts objects nodes o =
    elim (some-writes (walked_nodes parts objects nodes)) [
      | inl found ↦
          counted-once (λ (n : FlatNode). one_if (has n.outputs o)) (walked_nodes parts objects nodes) found.0 (λ i x at. one_if-le (has x.outputs o))
          (λ i x at other.
          elim (cases_Bool (has x.outputs o)) [
            | inl writes ↦
                let first = ap (λ l. has l o) (sym (node-outputs parts objects nodes i x at)) ∙ writes in
                let second = ap (λ l. has l o) (sym (node-outputs parts objects nodes found.0 found.1 found.2)) ∙ found.3 in
                absurd (other (outputs-differ objects o i found.0 first second))
            | inr none ↦ ap one_if none
          ])
      | inr none ↦ counted-once (λ (n : FlatNode). one_if (has n.outputs o)) (walked_nodes parts objects nodes) 0 (λ i x at. one_if-le (has x.outputs o)) (λ i x at other. ap one_if (none i x at))
    ]
  where
    none-more : (n : FlatNode) (all : List FlatNode) → has n.outputs o ≡ false → ((i : ℕ) (x : FlatNode) → slice_get all i ≡ Some x → has x.outputs o ≡ false) →
        (i : ℕ) (x : FlatNode) → slice_get (n ∷ all) i ≡ Some x → has x.outputs o ≡ false
    none-more n all other none zero x at = ap (λ (m : FlatNode). has m.outputs o) (sym (same_some n x at)) ∙ other
    none-more n all other none (suc i) x at = none i x at

    some-writes : (all : List FlatNode) →
        ((i : ℕ) × (x : FlatNode) × (slice_get all i ≡ Some x) × (has x.outputs o ≡ true)) ⊎ ((i : ℕ) (x : FlatNode) → slice_get all i ≡ Some x → has x.outputs o ≡ false)
    some-writes [] = inr (λ i x at. absurd (cc))
    some-writes (n ∷ all) =
        elim (cases_Bool (has n.outputs o)) [
          | inl here ↦ inl (0, n, refl, here)
          | inr other ↦
              elim (some-writes all) [
                | inl found ↦ inl (suc found.0, found.1, found.2, found.3)
                | inr none ↦ inr (none-more n all other none)
              ]
        ]

-- and so in any order of them
pub one-driver : (parts : List Part) (objects : List HeldObject) (nodes : List WalkedNode) (all : List FlatNode) → IsPermutation (walked_nodes parts objects nodes) all →
    (low high : ℕ) (node other : FlatNode) → slice_get all low ≡ Some node →
    slice_get all high ≡ Some other → low < high → (object : ℕ) → has node.outputs object ≡ true → has other.outputs object ≡ false
one-driver parts objects nodes all moved low high node other at_low at_high less object writes =
    elim (cases_Bool (has other.outputs object)) [
      | inl again ↦
          let f : FlatNode → ℕ = λ n. one_if (has n.outputs object) in
          let one : 1 ≤ f node = let is : f node ≡ 1 = ap one_if writes in omega (arith, is) in
          let two : 1 ≤ f other = let is : f other ≡ 1 = ap one_if again in omega (arith, is) in
          let both : 2 ≤ sum_by f all = two-counted f all low high node other at_low at_high less one two in
          let most : sum_by f (walked_nodes parts objects nodes) ≤ 1 = one-writes parts objects nodes object in
          let same : sum_by f all ≡ sum_by f (walked_nodes parts objects nodes) = sum_by-IsPermutation f (walked_nodes parts objects nodes) all moved in
          absurd (omega (arith, both, most, same))
      | inr none ↦ none
    ]

-- Net pieces

-- an object that has a driver is a net piece
abbrev IsNetIfDriven : HeldObject → Type 0
IsNetIfDriven held = (driver : PieceDriver) → held.driver ≡ Some driver → is_net held.object.kind ≡ true

pieces-driven : (signal : Signal) (drives : List ObjectDrive) (driving : List Signal) → AllHold IsNetIfDriven (pieces_or_variable signal drives driving)
pieces-driven signal drives [] = AllHold-map IsNetIfDriven (piece_object signal drives) _ (AllHold-all (λ (piece : CutPiece). IsNetIfDriven (piece_object signal drives piece)) _
    (λ piece driver e. refl))
pieces-driven signal drives (first ∷ rest) = (λ driver e. absurd (cc), tt)

signal-driven : (signals : List Signal) (nodes : List WalkedNode) (unjoined : Bool) (signal : Signal) → AllHold IsNetIfDriven (signal_objects signals nodes unjoined signal)
signal-driven signals nodes true signal = pieces-driven signal (object_drives signals nodes signal.name) (driving_variables signals nodes signal.name)
signal-driven signals nodes false signal = tt

part-driven : (signals : List Signal) (nodes : List WalkedNode) (part : Part) → AllHold IsNetIfDriven (part_objects signals nodes part)
part-driven signals nodes (SignalPart signal) = signal-driven signals nodes (is_unjoined signal) signal
part-driven signals nodes (MemoryPart memory) = AllHold-map IsNetIfDriven (word_object memory) _
    (AllHold-all (λ address. IsNetIfDriven (word_object memory address)) _ (λ address driver e. absurd (cc)))
part-driven signals nodes (AssignPart drives value) = tt
part-driven signals nodes (GatePart name kind drives path terminals) = tt
part-driven signals nodes (ProcessPart process) = tt
part-driven signals nodes InstancePart = tt

pub objects-driven : (parts : List Part) (nodes : List WalkedNode) → AllHold (λ (held : HeldObject). (driver : PieceDriver) → held.driver ≡ Some driver → is_net held.object.kind ≡ true)
    (objects_of_parts parts nodes)
objects-driven parts nodes = AllHold-flat_map IsNetIfDriven (part_objects (signals_of parts) nodes) parts
    (AllHold-all (λ part. AllHold IsNetIfDriven (part_objects (signals_of parts) nodes part)) parts (part-driven (signals_of parts) nodes))

-- the number of an object that passes a test is among those that do
numbers-have : (test : FlatObject → Bool) (number : ℕ) (objects : List FlatObject) (i : ℕ) (object : FlatObject) → slice_get objects i ≡ Some object → test object ≡ true →
    has (numbers_of test number objects) (number + i) ≡ true
numbers-have test number [] i object at e = absurd (cc)
numbers-have test number (first ∷ objects) zero object at e =
    let passes : test first ≡ true = ap test (same_some first object at) ∙ e in
    ap (λ b. has (elim b [ true ↦ number ∷ numbers_of test (number + 1) objects | false ↦ numbers_of test (number + 1) objects ]) (number + 0)) passes
    ∙ or_left (nat_eq number (number + 0)) (has (numbers_of test (number + 1) objects) (number + 0)) (eq-eqb number (number + 0) (omega arith))
numbers-have test number (first ∷ objects) (suc i) object at e =
    let same : number + suc i ≡ (number + 1) + i = omega arith in
    let rest : has (numbers_of test (number + 1) objects) (number + suc i) ≡ true = ap (has (numbers_of test (number + 1) objects)) same ∙ numbers-have test (number + 1) objects i object at e in
    elim (cases_Bool (test first)) [
      | inl here ↦
          ap (λ b. has (elim b [ true ↦ number ∷ numbers_of test (number + 1) objects | false ↦ numbers_of test (number + 1) objects ]) (number + suc i)) here
          ∙ or_right (nat_eq number (number + suc i)) (has (numbers_of test (number + 1) objects) (number + suc i)) rest
      | inr other ↦ ap (λ b. has (elim b [ true ↦ number ∷ numbers_of test (number + 1) objects | false ↦ numbers_of test (number + 1) objects ]) (number + suc i)) other ∙ rest
    ]

at-map_object : (objects : List HeldObject) (i : ℕ) (held : HeldObject) → slice_get objects i ≡ Some held → slice_get (map (λ (h : HeldObject). h.object) objects) i ≡ Some held.object
at-map_object [] i held at = absurd (cc)
at-map_object (first ∷ objects) zero held at = ap (λ (h : HeldObject). Some h.object) (same_some first held at)
at-map_object (first ∷ objects) (suc i) held at = at-map_object objects i held at

-- a node writes net pieces alone
pub outputs-nets : (parts : List Part) (nodes : List WalkedNode) (number : ℕ) (design : FlatDesign) → map (λ (held : HeldObject). held.object) (objects_of_parts parts nodes) ≡ design.objects →
    AllHold (λ object. IsTrue (has (net_pieces design) object)) (map (λ (p : NodeOutput). p.object) (outputs_of (objects_of_parts parts nodes) number))
outputs-nets parts nodes number design is =
    all-have (objects_of_outputs (outputs_of objects number))
    (λ o e.
    let w = written-from number 0 o objects e in
    let kind : is_net w.held.object.kind ≡ true = AllHold-slice_get IsNetIfDriven objects w.place w.held (objects-driven parts nodes) w.is w.by.driver w.by.is in
    ap (λ all. has (numbers_of (λ (object : FlatObject). is_net object.kind) 0 all) o) (sym is)
    ∙ ap (has (numbers_of (λ (object : FlatObject). is_net object.kind) 0 (map (λ (h : HeldObject). h.object) objects))) w.object_is
    ∙ numbers-have (λ (object : FlatObject). is_net object.kind) 0 (map (λ (h : HeldObject). h.object) objects) w.place w.held.object (at-map_object objects w.place w.held w.is) kind)
  where
    objects : List HeldObject
    objects = objects_of_parts parts nodes

    all-have : (xs : List ℕ) → ((o : ℕ) → has xs o ≡ true → has (net_pieces design) o ≡ true) → AllHold (λ object. IsTrue (has (net_pieces design) object)) xs
    all-have [] each = tt
    all-have (x ∷ xs) each = (each x (or_left (nat_eq x x) (has xs x) (eq-eqb x x refl)), all-have xs (λ o e. each o (or_right (nat_eq x o) (has xs o) e)))

-- A flat design has few objects, nodes, processes and inputs, since more are refused, and its nodes stand by rank (that there are limits is own).
use Rattle.std.proofs.Common.{◌≡◌, ℕ, zero, suc, ◌+◌, ◌<◌, ◌≤◌, Bool, List, [], ◌∷◌, length, map, Option, Some, None, refl, ap, sym, ◌∙◌, subst, inl, inr, arith}
use Rattle.std.specs.Prelude.{filter}
use Rattle.std.specs.List.Sorted.{IsPermutation}
use Rattle.std.proofs.lemmas.Bool.{cases_Bool, cond-true, cond-false}
use Rattle.std.proofs.lemmas.List.{length-map}
use Rattle.std.proofs.lemmas.List.Sorted.{length_permutation}
use Rattle.std.proofs.lemmas.Option.{slice_get_cases}
use Rattle.vf_base.specs.Lists.{has, AllHold}
use Rattle.v_design.specs.Expressions.{up_from}
use Rattle.v_design.specs.Designs.{FlatNode, FlatDesign}
use Rattle.v_design.specs.Reads.{node_reads}
use Rattle.v_design.specs.WellFormed.{most_parts, most_inputs, AreBelow, AreByRank}
use Rattle.v_elab.specs.declared.What.TheVariants.{Inputs}
use Rattle.v_elab.specs.Refusals.{LoopAt}
use Rattle.v_elab.specs.Parts.{Part}
use Rattle.v_elab.specs.Ranks.{reaches_itself, first_of, least_loop, by_rank}
use Rattle.v_elab.specs.Drivers.{WalkedNode}
use Rattle.v_elab.specs.Objects.{HeldObject}
use Rattle.v_elab.specs.Flat.{flat_process, flat_node, walked_nodes, loop_of_object, loop_at, loop_in, inputs_over, some_inputs_over}
use Rattle.flat_laws.specs.Made.{refusal_or-none, over_limit-none, nodes_in, processes_in, objects_in, flat_nodes_in, IsMadeOf}
use Rattle.flat_laws.specs.Lists.{same_some, AllHold-from, AllHold-permutation}
use Rattle.flat_laws.specs.Numbered.{length-numbered, at-numbered, AllHold-up_from, AllHold-filter, AllHold-each}
use Rattle.flat_laws.specs.Drivers.Ranks.{AreAcyclic, by_rank-permutation, by_rank-below, by_rank-sorted}

-- Inputs

inputs-few : (nodes : List FlatNode) → some_inputs_over nodes ≡ None → AllHold (λ (node : FlatNode). length node.inputs ≤ most_inputs) nodes
inputs-few [] e = tt
inputs-few (node ∷ nodes) e =
    let none = refusal_or-none (inputs_over node) (some_inputs_over nodes) e in (over_limit-none Inputs most_inputs (length node.inputs) none.0, inputs-few nodes none.1)

-- inputs are objects
inputs-among : (parts : List Part) (objects : List HeldObject) (nodes : List WalkedNode) →
    AllHold (λ (node : FlatNode). AllHold (λ object. object < length objects) node.inputs) (walked_nodes parts objects nodes)
inputs-among parts objects nodes =
    AllHold-from (λ (node : FlatNode). AllHold (λ object. object < length objects) node.inputs) (walked_nodes parts objects nodes)
    (λ i node at.
    let r = at-numbered (flat_node parts objects) 0 nodes i node at in
    let made = flat_node parts objects (0 + i) r.0 in
    let low : AllHold (λ object. object < length objects) made.inputs =
    AllHold-filter (λ object. object < length objects) (has (node_reads made.kind made.outputs)) (up_from 0 (length objects))
    (AllHold-each (λ n. (0 ≤ n) × (n < 0 + length objects)) (λ n. n < length objects) (up_from 0 (length objects)) (λ n h. let below = h.1 in omega (arith, below))
    (AllHold-up_from 0 (length objects))) in
    subst (λ (n : FlatNode). AllHold (λ object. object < length objects) n.inputs) r.2 low)

-- Loops

first-among : (test : ℕ → Bool) (start count o : ℕ) → first_of (filter test (up_from start count)) ≡ Some o → o < start + count
first-among test start zero o e = absurd (cc)
first-among test start (suc count) o e =
    elim (cases_Bool (test start)) [
      | inl passes ↦
          let is : Some start ≡ Some o =
          ap first_of (sym (cond-true (test start) (start ∷ filter test (up_from (start + 1) count)) (filter test (up_from (start + 1) count)) passes)) ∙ e in
          omega (arith, same_some start o is)
      | inr fails ↦
          omega (
            arith,
            first-among test (start + 1) count o
                (ap first_of (sym (cond-false (test start) (start ∷ filter test (up_from (start + 1) count)) (filter test (up_from (start + 1) count)) fails)) ∙ e),
          )
    ]

-- where no loop is refused there is none
loop_in-none : (objects : List HeldObject) (nodes : List FlatNode) → loop_in objects nodes ≡ None → least_loop (length objects) nodes ≡ None
loop_in-none objects nodes none = by_found (least_loop (length objects) nodes) refl none
  where
    by_found : (found : Option ℕ) → least_loop (length objects) nodes ≡ found → loop_at objects found ≡ None → least_loop (length objects) nodes ≡ None
    by_found None is e = is
    by_found (Some o) is e =
        elim (slice_get_cases objects o).1 [
          | inl there ↦ let refused : Some (LoopAt there.0.object.place) ≡ None = ap loop_of_object (sym there.2) ∙ e in absurd (cc)
          | inr past ↦ absurd (let low : o < 0 + length objects = first-among (reaches_itself nodes) 0 (length objects) o is in omega (arith, low, past.0))
        ]

-- The laws

-- no object of a flat design reaches itself
pub design-acyclic : (parts : List Part) (design : FlatDesign) → IsMadeOf parts design → AreAcyclic (length (objects_in parts)) (flat_nodes_in parts)
design-acyclic parts design made =
    record { none = loop_in-none (objects_in parts) (flat_nodes_in parts) made.acyclic; among = inputs-among parts (objects_in parts) (nodes_in parts) }

pub design-objects : (parts : List Part) (design : FlatDesign) → IsMadeOf parts design → map (λ (held : HeldObject). held.object) (objects_in parts) ≡ design.objects
design-objects parts design made = ap (λ (d : FlatDesign). d.objects) made.is

pub design-nodes : (parts : List Part) (design : FlatDesign) → IsMadeOf parts design → by_rank (flat_nodes_in parts) ≡ design.nodes
design-nodes parts design made = ap (λ (d : FlatDesign). d.nodes) made.is

pub design-processes : (parts : List Part) (design : FlatDesign) → IsMadeOf parts design → map (flat_process parts (objects_in parts)) (processes_in parts) ≡ design.processes
design-processes parts design made = ap (λ (d : FlatDesign). d.processes) made.is

-- the nodes of a design are those of the walk in another order
pub nodes-permutation : (parts : List Part) (design : FlatDesign) → IsMadeOf parts design → IsPermutation (flat_nodes_in parts) design.nodes
nodes-permutation parts design made =
    subst (IsPermutation (flat_nodes_in parts)) (design-nodes parts design made) (by_rank-permutation (length (objects_in parts)) (flat_nodes_in parts) (design-acyclic parts design made))

-- so what holds of each node of the walk holds of each node
pub each-node : (P : FlatNode → Type 0) (parts : List Part) (design : FlatDesign) → IsMadeOf parts design → AllHold P (flat_nodes_in parts) → AllHold P design.nodes
each-node P parts design made h = AllHold-permutation P (flat_nodes_in parts) design.nodes (nodes-permutation parts design made) h

pub objects-few : (parts : List Part) (design : FlatDesign) → IsMadeOf parts design → length design.objects ≤ most_parts
objects-few parts design made =
    let is : length (map (λ (held : HeldObject). held.object) (objects_in parts)) ≡ length design.objects = ap length (design-objects parts design made) in
    let same : length (map (λ (held : HeldObject). held.object) (objects_in parts)) ≡ length (objects_in parts) = length-map (objects_in parts) (λ (held : HeldObject). held.object) in
    let few = made.few_objects in omega (arith, is, same, few)

pub nodes-few : (parts : List Part) (design : FlatDesign) → IsMadeOf parts design → length design.nodes ≤ most_parts
nodes-few parts design made =
    let is : length design.nodes ≡ length (flat_nodes_in parts) = length_permutation (flat_nodes_in parts) design.nodes (nodes-permutation parts design made) in
    let same : length (flat_nodes_in parts) ≡ length (nodes_in parts) = length-numbered (flat_node parts (objects_in parts)) 0 (nodes_in parts) in
    let few = made.few_nodes in omega (arith, is, same, few)

pub processes-few : (parts : List Part) (design : FlatDesign) → IsMadeOf parts design → length design.processes ≤ most_parts
processes-few parts design made =
    let is : length (map (flat_process parts (objects_in parts)) (processes_in parts)) ≡ length design.processes = ap length (design-processes parts design made) in
    let same : length (map (flat_process parts (objects_in parts)) (processes_in parts)) ≡ length (processes_in parts) = length-map (processes_in parts) (flat_process parts (objects_in parts)) in
    let few = made.few_processes in omega (arith, is, same, few)

-- each node has few inputs
pub node-inputs-few : (parts : List Part) (design : FlatDesign) → IsMadeOf parts design → AllHold (λ (node : FlatNode). length node.inputs ≤ most_inputs) design.nodes
node-inputs-few parts design made = each-node (λ node. length node.inputs ≤ most_inputs) parts design made (inputs-few (flat_nodes_in parts) made.few_inputs)

-- and they are objects
pub node-inputs-there : (parts : List Part) (design : FlatDesign) → IsMadeOf parts design → AllHold (λ (node : FlatNode). AllHold (λ object. object < length design.objects) node.inputs) design.nodes
node-inputs-there parts design made =
    let is : length (map (λ (held : HeldObject). held.object) (objects_in parts)) ≡ length design.objects = ap length (design-objects parts design made) in
    let same : length (objects_in parts) ≡ length design.objects = sym (length-map (objects_in parts) (λ (held : HeldObject). held.object)) ∙ is in
    each-node (λ node. AllHold (λ object. object < length design.objects) node.inputs) parts design made
    (subst (λ count. AllHold (λ (node : FlatNode). AllHold (λ object. object < count) node.inputs) (flat_nodes_in parts)) same (inputs-among parts (objects_in parts) (nodes_in parts)))

-- the nodes of a design stand by rank
pub nodes-below : (parts : List Part) (design : FlatDesign) → IsMadeOf parts design → AreBelow design.nodes
nodes-below parts design made = subst AreBelow (design-nodes parts design made) (by_rank-below (length (objects_in parts)) (flat_nodes_in parts) (design-acyclic parts design made))

pub nodes-by_rank : (parts : List Part) (design : FlatDesign) → IsMadeOf parts design → AreByRank design
nodes-by_rank parts design made = by_rank-sorted (length (objects_in parts)) (flat_nodes_in parts) (design-acyclic parts design made) design (design-nodes parts design made)

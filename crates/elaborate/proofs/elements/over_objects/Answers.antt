use Rattle.std.proofs.Common.{List, map, ap, sym, subst, arith, ◌≤◌, length, ◌∙◌}
use Rattle.std.proofs.lemmas.List.{length-map}
use Rattle.v_design.specs.WellFormed.{most_parts}
use Rattle.elab_parts.specs.PartViews.{parts_of}
use Rattle.elab_parts.specs.BehaviourViews.{node_of, process_in}
use Rattle.elab_objects.specs.ObjectViews.{held_of, held_objects}
use Rattle.elab_objects.specs.declared.object.HeldObject.{HeldObject}
use Rattle.v_design.specs.Plain as flats
use Rattle.node_order.specs.NodeOrder.{ordered_nodes}
use Rattle.elaborate.specs.ElabFaults.{refusal_of, IsRefusal}
use Rattle.elaborate.specs.Elements.{AreMade, AreSizedElements}
use Rattle.elaborate.specs.ElementLaws.{among-made, as-many, sorted-over, refused-over}
use Rattle.elaborate.proofs.elements.over_objects.Goals as goal

pub make_elements-requires-clause-sized : goal.make_elements-requires-clause-sized
make_elements-requires-clause-sized c =
    subst (λ (held : List HeldObject). AreSizedElements (parts_of c.args.parts.now) (held_objects held) (map node_of c.args.nodes.now) (map process_in c.args.processes.now)) (sym c.deref.ensures.value) c.requires.sized

pub order_nodes-requires-clause-few : goal.order_nodes-requires-clause-few
order_nodes-requires-clause-few c =
    let many = ap length c.deref-2.ensures.value in
    let all = as-many c.in_ok-objects.objects.items (held_objects c.args.held.items) c.in_ok-objects.ensures in
    let long = length-map c.args.held.items held_of in
    let few = c.if-len-gt-MAX_OBJECTS.false in
    omega (arith, many, all, long, few)

pub order_nodes-requires-clause-there : goal.order_nodes-requires-clause-there
order_nodes-requires-clause-there c =
    let parts = parts_of c.args.parts.now in
    let objects = held_objects c.args.held.items in
    let made = subst (λ h. AreMade parts (held_objects h) (map node_of c.args.nodes.now) (map process_in c.args.processes.now) (c.in_ok-joined.joined, c.in_ok-joined.made)) c.deref.ensures.value
    c.in_ok-joined.ensures in
    among-made parts objects (map node_of c.args.nodes.now) _ _ (ap length c.deref-2.ensures.value ∙ as-many c.in_ok-objects.objects.items objects c.in_ok-objects.ensures) made.nodes_are

pub returns-in-Err : goal.returns-in-Err
returns-in-Err c =
    let parts = parts_of c.args.parts.now in
    let objects = held_objects c.args.held.items in
    let nodes = map node_of c.args.nodes.now in
    let processes = map process_in c.args.processes.now in
    let made = subst (λ h. AreMade parts (held_objects h) nodes processes (c.in_ok-joined.joined, c.in_ok-joined.made)) c.deref.ensures.value c.in_ok-joined.ensures in
    let few : length objects ≤ most_parts = (let l = length-map c.args.held.items held_of in let h = c.if-len-gt-MAX_OBJECTS.false in omega (arith, l, h)) in
    refused-over parts objects nodes processes (map flats.object_of c.in_ok-objects.objects.items) _ (refusal_of c.in-Err.fault) few c.in_ok-objects.ensures made.nodes_are
    (subst (λ a. IsRefusal (ordered_nodes (map flats.object_of a) (map flats.node_of c.in_ok-joined.made.nodes.items)) (refusal_of c.in-Err.fault)) c.deref-2.ensures.value c.in-Err.ensures)

pub returns-in-Ok : goal.returns-in-Ok
returns-in-Ok c =
    let parts = parts_of c.args.parts.now in
    let objects = held_objects c.args.held.items in
    let nodes = map node_of c.args.nodes.now in
    let processes = map process_in c.args.processes.now in
    let made = subst (λ h. AreMade parts (held_objects h) nodes processes (c.in_ok-joined.joined, c.in_ok-joined.made)) c.deref.ensures.value c.in_ok-joined.ensures in
    let few : length objects ≤ most_parts = (let l = length-map c.args.held.items held_of in let h = c.if-len-gt-MAX_OBJECTS.false in omega (arith, l, h)) in
    sorted-over parts objects nodes processes (map flats.object_of c.in_ok-objects.objects.items) _ _ _ _ few c.in_ok-objects.ensures made.nodes_are made.joined_are made.processes_are
    (ap (λ a. ordered_nodes (map flats.object_of a) (map flats.node_of c.in_ok-joined.made.nodes.items)) (sym c.deref-2.ensures.value) ∙ c.in-Ok.ensures)

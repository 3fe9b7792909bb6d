use Rattle.std.proofs.Common.{◌≡◌, None, map, ap, sym, subst, ◌∙◌}
use Rattle.v_elab.specs.Drivers.{signals_of, nodes_of, processes_of, behaviours_of, two_drivers}
use Rattle.v_elab.specs.Objects.{objects_of_parts}
use Rattle.elab_parts.specs.PartViews.{part_of, parts_of}
use Rattle.elab_parts.specs.BehaviourViews.{node_of, process_in}
use Rattle.elab_objects.specs.ObjectViews.{held_objects}
use Rattle.elaborate.specs.Elements.{Gives, AreSizedElements}
use Rattle.elaborate.specs.ElementLaws.{whole-over}
use Rattle.elaborate.proofs.elements.over_written.Goals as goal

pub over_objects-requires-clause-sized : goal.over_objects-requires-clause-sized
over_objects-requires-clause-sized c =
    let parts = parts_of c.args.parts.now in
    let nodes_are = c.in_ok-behaviours.ensures.nodes ∙ ap (λ ps. nodes_of (behaviours_of (map part_of ps))) c.in_ok-wiring.ensures.parts in
    let same = c.deref.ensures.value ∙ sym c.deref-in-Ok.ensures.value in
    let nodes = ap (map node_of) c.deref-in-Ok.ensures.value ∙ nodes_are in
    let held = subst (λ ns. held_objects c.in-Ok.held.items ≡ objects_of_parts parts (map node_of ns)) same c.in-Ok.ensures.1 ∙ ap (objects_of_parts parts) nodes in
    let processes_are = c.in_ok-behaviours.ensures.processes ∙ ap (λ ps. processes_of (behaviours_of (map part_of ps))) c.in_ok-wiring.ensures.parts in
    let processes = ap (map process_in) c.deref-in-Ok-2.ensures.value ∙ processes_are in
    let objects = held_objects c.in-Ok.held.items in
    let all = processes_of (behaviours_of parts) in
    subst (λ ps. AreSizedElements parts objects (map node_of c.deref-in-Ok.result.now) ps) (sym processes)
    (subst (λ ns. AreSizedElements parts objects ns all) (sym nodes) (subst (λ os. AreSizedElements parts os (nodes_of (behaviours_of parts)) all) (sym held) c.requires.sized))

pub returns : goal.returns
returns c =
    let parts = parts_of c.args.parts.now in
    let nodes_are = c.in_ok-behaviours.ensures.nodes ∙ ap (λ ps. nodes_of (behaviours_of (map part_of ps))) c.in_ok-wiring.ensures.parts in
    let processes_are = c.in_ok-behaviours.ensures.processes ∙ ap (λ ps. processes_of (behaviours_of (map part_of ps))) c.in_ok-wiring.ensures.parts in
    let same = c.deref.ensures.value ∙ sym c.deref-in-Ok.ensures.value in
    subst (λ wanted. Gives wanted c.over_objects.result)
    (sym (whole-over parts (map node_of c.deref-in-Ok.result.now) (map process_in c.deref-in-Ok-2.result.now) (held_objects c.in-Ok.held.items)
    (ap (map node_of) c.deref-in-Ok.ensures.value ∙ nodes_are)
    (ap (map process_in) c.deref-in-Ok-2.ensures.value ∙ processes_are) (c.in-None.ensures (behaviours_of parts) (sym nodes_are) (sym processes_are))
    (subst (λ ns. two_drivers (signals_of parts) (map node_of ns) ≡ None) same c.in-Ok.ensures.0)
    (subst (λ ns. held_objects c.in-Ok.held.items ≡ objects_of_parts parts (map node_of ns)) same c.in-Ok.ensures.1)))
    c.over_objects.ensures

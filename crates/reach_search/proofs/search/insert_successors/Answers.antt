use Rattle.std.proofs.Common.{arith, ◌≡◌, ℕ, ◌+◌, ◌<◌, ◌∙◌, ◌++◌, [], List, get_or, take, map, length, ap, sym}
use Rattle.std.specs.Prelude.{Some, slice_get}
use Rattle.std.specs.List.{flat_map}
use Rattle.std.proofs.lemmas.List.{length-map, map_more, flat_map_more}
use Rattle.vf_base.specs.declared.ids.ObjectId.{ObjectId}
use Rattle.vf_base.specs.declared.ids.NodeId.{NodeId}
use Rattle.vf_base.specs.Base.{object_number, node_number}
use Rattle.v_design.specs.Designs.{FlatNode, FlatDesign}
use Rattle.v_design.specs.Plain.{node_of}
use Rattle.v_design.specs.PlainDesigns.{design_of}
use Rattle.net_graph.specs.ReaderLaws.{readers_below}
use Rattle.net_graph.specs.RuleLaws.{outputs_below, node_in}
use Rattle.object_set.specs.Ordered.{OrderedObjects, with_objects}
use Rattle.object_set.specs.OrderLaws.{with_objects-append}
use Rattle.reach_search.specs.Reach.{driven_by, outputs_at}
use Rattle.reach_search.proofs.search.insert_successors.Goals as goal

-- the outputs of one more reader
stepped : (design : FlatDesign) (start : OrderedObjects) (readers : List NodeId) (i : ℕ) (d : NodeId) (node : FlatNode) (outputs : List ObjectId) (between later : OrderedObjects) →
    i < length readers → slice_get design.nodes (node_number (get_or readers i d)) ≡ Some node → map object_number outputs ≡ node.outputs →
    between ≡ record start { objects = with_objects start.objects (flat_map (outputs_at design) (map node_number (take i readers))) } →
    later ≡ record between { objects = with_objects between.objects (map object_number outputs) } →
    later ≡ record start { objects = with_objects start.objects (flat_map (outputs_at design) (map node_number (take (i + 1) readers))) }
stepped design start readers i d node outputs between later low at are had put =
    put ∙ ap (λ (k : OrderedObjects). record k { objects = with_objects k.objects (map object_number outputs) }) had
    ∙ ap (λ (l : List ℕ). record start { objects = l })
    (sym (with_objects-append start.objects (flat_map (outputs_at design) (map node_number (take i readers))) (map object_number outputs))
    ∙ ap (with_objects start.objects)
    (ap (λ l. flat_map (outputs_at design) (map node_number (take i readers)) ++ l) (are ∙ sym (ap driven_by at))
    ∙ flat_map_more (outputs_at design) [] (map node_number (take i readers)) (node_number (get_or readers i d))
    ∙ ap (flat_map (outputs_at design)) (sym (map_more node_number readers i d low))))

pub bounds-nodes-reader : goal.bounds-nodes-reader
bounds-nodes-reader c =
    readers_below (design_of c.args.graph.now.design.now) (object_number c.args.object) c.readers-reader-items.result.now (length c.as_slice-nodes.result.now) c.readers-reader-items.ensures
    (omega (arith, ap length c.as_slice-nodes.ensures, length-map c.args.graph.now.design.now.nodes node_of)) c.readers.reader-index (record { 0 = 0 }) c.readers-test.true

pub insert_all-requires : goal.insert_all-requires
insert_all-requires c =
    let number : ℕ = node_number (get_or c.readers-reader-items.result.now c.readers.reader-index (record { 0 = 0 })) in
    let low : node_number (get_or c.readers-reader-items.result.now c.readers.reader-index (record { 0 = 0 })) < length c.as_slice-nodes.result.now =
    readers_below (design_of c.args.graph.now.design.now) (object_number c.args.object) c.readers-reader-items.result.now (length c.as_slice-nodes.result.now) c.readers-reader-items.ensures
    (omega (arith, ap length c.as_slice-nodes.ensures, length-map c.args.graph.now.design.now.nodes node_of)) c.readers.reader-index (record { 0 = 0 }) c.readers-test.true in
    outputs_below (design_of c.args.graph.now.design.now) number (node_of c.index-nodes-reader.result) c.as_slice.result.now c.readers.found.bound
    c.args.graph.now.design.now.rules
    (node_in c.args.graph.now.design.now.nodes c.as_slice-nodes.result.now number c.index-nodes-reader.result c.as_slice-nodes.ensures low c.index-nodes-reader.is)
    (ap (map object_number) (sym c.as_slice.ensures)) (omega (arith, c.requires.sized, ap (λ (k : OrderedObjects). k.bound) c.readers.invariant))

pub readers-preserved : goal.readers-preserved
readers-preserved c =
    let number : ℕ = node_number (get_or c.readers-reader-items.result.now c.readers.reader-index (record { 0 = 0 })) in
    let low : node_number (get_or c.readers-reader-items.result.now c.readers.reader-index (record { 0 = 0 })) < length c.as_slice-nodes.result.now =
    readers_below (design_of c.args.graph.now.design.now) (object_number c.args.object) c.readers-reader-items.result.now (length c.as_slice-nodes.result.now) c.readers-reader-items.ensures
    (omega (arith, ap length c.as_slice-nodes.ensures, length-map c.args.graph.now.design.now.nodes node_of)) c.readers.reader-index (record { 0 = 0 }) c.readers-test.true in
    stepped (design_of c.args.graph.now.design.now) c.args.found.now c.readers-reader-items.result.now c.readers.reader-index (record { 0 = 0 }) (node_of c.index-nodes-reader.result)
    c.as_slice.result.now c.readers.found c.insert_all.new.self c.readers-test.true
    (node_in c.args.graph.now.design.now.nodes c.as_slice-nodes.result.now number c.index-nodes-reader.result c.as_slice-nodes.ensures low c.index-nodes-reader.is)
    (ap (map object_number) c.as_slice.ensures) c.readers.invariant c.insert_all.ensures

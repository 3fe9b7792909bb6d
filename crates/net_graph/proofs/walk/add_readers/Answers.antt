use Rattle.std.proofs.Common.{arith, ◌≡◌, map, subst, length, List}
use Rattle.std.proofs.lemmas.List.{take_all}
use Rattle.vf_base.specs.declared.ids.NodeId.{NodeId}
use Rattle.vf_base.specs.Base.{object_number, node_number}
use Rattle.v_design.specs.PlainDesigns.{design_of}
use Rattle.net_graph.specs.ReaderLaws.{readers_below}
use Rattle.net_graph.specs.Walks.{InsertsAll}
use Rattle.net_graph.specs.WalkLaws.{InsertsAll-none, InsertsAll-more, AddsReaders-all}
use Rattle.net_graph.proofs.walk.add_readers.Goals as goal

pub nodes-init : goal.nodes-init
nodes-init c = InsertsAll-none c.args.walked.now

pub insert-requires : goal.insert-requires
insert-requires c =
    let sized : c.args.walked.now.bound ≡ length (design_of c.args.graph.now.design.now).nodes = c.requires.sized in
    let same : c.nodes.walked.bound ≡ c.args.walked.now.bound = c.nodes.invariant.bound_is in
    readers_below (design_of c.args.graph.now.design.now) (object_number c.args.object) c.readers-readers.result.now c.nodes.walked.bound c.readers-readers.ensures (omega arith)
    c.nodes.reader-index (record { 0 = 0 }) c.nodes-test.true

pub nodes-preserved : goal.nodes-preserved
nodes-preserved c =
    InsertsAll-more c.readers-readers.result.now c.nodes.reader-index (record { 0 = 0 }) c.args.walked.now c.nodes.walked c.insert.new.self c.nodes-test.true c.nodes.invariant c.insert.ensures

pub returns : goal.returns
returns c =
    AddsReaders-all (design_of c.args.graph.now.design.now) (object_number c.args.object) (map node_number c.readers-readers.result.now) c.args.walked.now c.nodes.walked c.readers-readers.ensures
    (subst (λ (list : List NodeId). InsertsAll (map node_number list) c.args.walked.now c.nodes.walked)
    (take_all c.nodes.reader-index c.readers-readers.result.now c.nodes-test.false) c.nodes.invariant)

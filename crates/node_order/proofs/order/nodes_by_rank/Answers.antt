use Rattle.std.proofs.Common.{◌≡◌, ◌∙◌, ap, sym, subst, map, length, Ok, Err, arith}
use Rattle.vf_base.specs.Base.{object_number, source_place}
use Rattle.vf_base.specs.declared.ids.Place.{Place}
use Rattle.v_design.specs.Plain.{node_of, object_of}
use Rattle.v_elab.specs.Refusals.{LoopAt}
use Rattle.net_graph.specs.Loops.{IsLooping, IsLeastLooping}
use Rattle.net_graph.specs.WiringLaws.{looping_among}
use Rattle.node_order.specs.OrderLaws.{ordered, looped}
use Rattle.node_order.proofs.Answered.{few-of, ranks-are, object-there, object-at, among-objects}
use Rattle.node_order.proofs.order.nodes_by_rank.Goals as goal

pub sorted_by_rank-requires : goal.sorted_by_rank-requires
sorted_by_rank-requires c =
    ranks-are (length c.args.objects.now) c.args.nodes.items c.deref-2.result.now c.in-Ok.node_ranks.items c.deref-in-Ok.result.now c.deref-2.ensures.value c.requires.there
    c.deref-in-Ok.ensures.value c.in-Ok.ensures.ranked
    c.in-Ok.ensures.acyclic

pub returns-in-Ok-clause-ordered : goal.returns-in-Ok-clause-ordered
returns-in-Ok-clause-ordered c =
    let few = few-of c.args.nodes.items c.deref.result.now c.some_crowded.result c.deref.ensures.value c.some_crowded.ensures c.if-some_crowded.false in
    ordered (map object_of c.args.objects.now) (map node_of c.args.nodes.items) few (subst (λ l. (object : _) → IsLooping (map node_of l) object → ⊥) c.deref-2.ensures.value c.in-Ok.ensures.acyclic)
    ∙ ap Ok (sym c.in_ok-sorted-in-Ok.ensures)

pub declared_at-requires : goal.declared_at-requires
declared_at-requires c =
    let object = c.in-Err-Loop.object in
    let least : IsLeastLooping (map node_of c.deref-2.result.now) (object_number object) = c.in-Err-Loop.ensures.looped object (cc) in
    let own : IsLeastLooping (map node_of c.args.nodes.items) (object_number object) = subst (λ l. IsLeastLooping (map node_of l) (object_number object)) c.deref-2.ensures.value least in
    let low = looping_among (length c.args.objects.now) (map node_of c.args.nodes.items) (object_number object) c.requires.there own.loops in
    omega (arith, low, ap object_number c.in-Err-Loop.object-is)

pub returns-in-Err-Loop-clause-looped : goal.returns-in-Err-Loop-clause-looped
returns-in-Err-Loop-clause-looped c = λ place e.
    let few = few-of c.args.nodes.items c.deref.result.now c.some_crowded.result c.deref.ensures.value c.some_crowded.ensures c.if-some_crowded.false in
    let object = c.in-Err-Loop.object in
    let least : IsLeastLooping (map node_of c.deref-2.result.now) (object_number object) = c.in-Err-Loop.ensures.looped object (cc) in
    let own : IsLeastLooping (map node_of c.args.nodes.items) (object_number object) = subst (λ l. IsLeastLooping (map node_of l) (object_number object)) c.deref-2.ensures.value least in
    let low = looping_among (length c.args.objects.now) (map node_of c.args.nodes.items) (object_number object) c.requires.there own.loops in
    let there = object-there c.args.objects.now (object_number object) low in
    let told = c.declared_at.ensures there.0 (cc (there.1, c.in-Err-Loop.object-is)) in
    let same : there.0.place ≡ place = cc (told, e) in
    looped (map object_of c.args.objects.now) (map node_of c.args.nodes.items) (object_number object) (object_of there.0) few
    (among-objects c.args.objects.now (map node_of c.args.nodes.items) c.requires.there) own
    (object-at c.args.objects.now (object_number object) there.0 there.1)
    ∙ ap (λ (p : Place). Err (LoopAt (source_place p))) same

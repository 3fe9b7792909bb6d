use Rattle.std.proofs.Common.{rules, false, [], ◌<◌, ap, ◌∙◌, ◌++◌, map, length}
use Rattle.std.specs.Prelude.{not, ◌&&◌}
use Rattle.std.proofs.lemmas.List.{get_or_read}
use Rattle.vf_base.specs.Base.{object_number}
use Rattle.v_design.specs.Paths.{is_net}
use Rattle.v_design.specs.Plain.{object_of}
use Rattle.v_design.specs.PlainDesigns.{design_of}
use Rattle.net_graph.specs.Tables.{before_if}
use Rattle.net_graph.specs.ConeLaws.{sources_before-more, object_in}
use Rattle.net_graph.proofs.graph.Graph.sources.Goals as goal

pub objects-preserved : goal.objects-preserved
objects-preserved c =
    let in_marked : c.objects.number < length c.mark_reaching.new.marked.items = search rules in
    sources_before-more (design_of c.args.self.now.design.now) c.args.self.now.design.now.rules (object_number c.args.net) c.objects.number (object_of c.index-objects-number.result)
    c.mark_reaching.new.marked.items (map object_number c.objects.sources.items) (map object_number c.push_if.new.list.items)
    (object_in c.args.self.now.design.now.objects c.as_slice-objects.result.now c.objects.number c.index-objects-number.result c.as_slice-objects.ensures c.objects-test.true c.index-objects-number.is)
    in_marked c.mark_reaching.ensures.reached c.objects.invariant
    (c.in_ok-push_if.ensures
    ∙ ap (λ wanted. map object_number c.objects.sources.items ++ before_if wanted c.objects.number [])
    (c.is_marked_source-wanted.ensures
    ∙ ap (λ marked. not (is_net c.index-objects-number.result.kind) && marked) (get_or_read c.mark_reaching.new.marked.items c.objects.number c.index.result.now in_marked c.index.ensures false)))

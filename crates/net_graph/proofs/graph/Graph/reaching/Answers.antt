use Rattle.std.proofs.Common.{rules, ◌≡◌, ◌∙◌, ap, sym, Bool, false, length, replicate, map}
use Rattle.std.proofs.lemmas.List.{length-map, length-replicate}
use Rattle.vf_base.specs.Base.{object_number}
use Rattle.v_design.specs.Plain.{object_of}
use Rattle.v_design.specs.PlainDesigns.{design_of}
use Rattle.net_graph.specs.ConeLaws.{ReachSome-all, all-below, none-marked}
use Rattle.net_graph.proofs.graph.Graph.reaching.Goals as goal

pub returns-clause-reaching : goal.returns-clause-reaching
returns-clause-reaching c =
    let objects = c.args.self.now.design.now.objects in
    let blank : c.in_ok-marked.marked.items ≡ replicate (length c.as_slice.result.now) false = search rules in
    let long : length c.in_ok-marked.marked.items ≡ length (map object_of c.args.self.now.design.now.objects) =
    ap length blank ∙ length-replicate {A = Bool} (length c.as_slice.result.now) false ∙ ap length c.as_slice.ensures ∙ sym (length-map objects object_of) in
    ReachSome-all (design_of c.args.self.now.design.now) c.args.self.now.design.now.rules (map object_number c.args.nets.now) c.in_ok-marked.marked.items c.mark_all.new.marked.items
    c.mark_sources.new.marked.items
    (none-marked c.in_ok-marked.marked.items (length c.as_slice.result.now) blank) (all-below c.args.nets.now _ _ long c.requires) c.mark_all.ensures.marked c.mark_sources.ensures.reached

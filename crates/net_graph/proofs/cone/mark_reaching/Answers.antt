use Rattle.std.proofs.Common.{rules, ◌<◌, length}
use Rattle.vf_base.specs.Base.{object_number}
use Rattle.v_design.specs.PlainDesigns.{design_of}
use Rattle.net_graph.specs.ConeLaws.{reached-net}
use Rattle.net_graph.proofs.cone.mark_reaching.Goals as goal

pub returns-clause-reached : goal.returns-clause-reached
returns-clause-reached c =
    let low : object_number c.args.net < length c.args.marked.now.items = search rules in
    reached-net (design_of c.args.design.now).nodes (object_number c.args.net) c.args.marked.now.items c.mark_sources.new.marked.items low c.requires.blank c.mark_sources.ensures.reached

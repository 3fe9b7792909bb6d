use Rattle.std.proofs.Common.{rules, map, ◌≤◌}
use Rattle.vf_base.specs.Base.{object_number, node_number}
use Rattle.v_design.specs.PlainDesigns.{design_of}
use Rattle.net_graph.specs.ReaderLaws.{readers_below}
use Rattle.net_settle.specs.MarkLaws.{MarksReaders-all, none-past, none-below}
use Rattle.net_settle.proofs.settle.Settle.change.Goals as goal

pub past_of-past-requires-clause-are_nodes : goal.past_of-past-requires-clause-are_nodes
past_of-past-requires-clause-are_nodes c =
    readers_below (design_of c.args.self.now.graph.now.design.now) (object_number c.args.object) c.readers-readers.result.now c.len.result c.readers-readers.ensures (search rules)

pub mark_nodes-requires : goal.mark_nodes-requires
mark_nodes-requires c =
    readers_below (design_of c.args.self.now.graph.now.design.now) (object_number c.args.object) c.readers-readers.result.now _ c.readers-readers.ensures (search rules)

pub returns-clause-readers : goal.returns-clause-readers
returns-clause-readers c =
    MarksReaders-all (design_of c.args.self.now.graph.now.design.now) (object_number c.args.object)
    (map node_number c.readers-readers.result.now) c.args.self.now.marks.items c.mark_nodes.new.marks.items
    c.readers-readers.ensures (search rules) c.mark_nodes.ensures.marked

pub invariant_of-self-clause-none_past : goal.invariant_of-self-clause-none_past
invariant_of-self-clause-none_past c =
    none-past (map node_number c.readers-readers.result.now) c.args.self.now.marks.items c.mark_nodes.new.marks.items c.args.self.now.least c.args.self.now.past c.end_of-end.result
    c.past_of-past.result c.mark_nodes.ensures.marked c.past_of-past.ensures.higher (search rules) (search rules) c.end_of-end.ensures.between c.past_of-past.ensures.high

pub invariant_of-self-clause-none_below : goal.invariant_of-self-clause-none_below
invariant_of-self-clause-none_below c =
    none-below (map node_number c.readers-readers.result.now) c.args.self.now.marks.items c.mark_nodes.new.marks.items c.args.self.now.least c.least_of-least.result
    c.mark_nodes.ensures.marked c.least_of-least.ensures.lower (search rules) c.least_of-least.ensures.low

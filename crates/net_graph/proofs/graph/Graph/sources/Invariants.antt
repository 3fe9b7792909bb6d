use Rattle.std.proofs.Common.{◌≡◌, map}
use Rattle.vf_base.specs.Base.{object_number}
use Rattle.v_design.specs.PlainDesigns.{design_of}
use Rattle.net_graph.specs.ConeLaws.{sources_before}
use Rattle.net_graph.proofs.graph.Graph.sources.Given as goal

abbrev pub invariant-objects : goal.invariant-objects
invariant-objects l = map object_number l.sources.items ≡ sources_before (design_of l.self.design.now) (object_number l.fn.net) l.number

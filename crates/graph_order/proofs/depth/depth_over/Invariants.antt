use Rattle.std.proofs.Common.{◌≡◌, ◌+◌, get_or, map, take}
use Rattle.vf_base.specs.Lists.{greatest}
use Rattle.graph_order.proofs.depth.depth_over.Given as goal

abbrev pub invariant-needs : goal.invariant-needs
invariant-needs l = l.depth ≡ greatest (map (λ need. get_or l.depths.items need 0 + l.step) (take l.need-index l.needs))

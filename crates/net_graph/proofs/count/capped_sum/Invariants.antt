use Rattle.std.proofs.Common.{◌≡◌, get_or, min, map, take}
use Rattle.std.specs.Prelude.{sum_by}
use Rattle.vf_base.specs.Base.{object_number}
use Rattle.net_graph.proofs.count.capped_sum.Given as goal

abbrev pub invariant-inputs : goal.invariant-inputs
invariant-inputs l = l.total ≡ min 2 (sum_by (λ object. get_or l.counts.items object 0) (map object_number (take l.input-index l.inputs)))

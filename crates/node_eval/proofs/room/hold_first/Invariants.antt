use Rattle.std.proofs.Common.{◌≡◌, ℕ, ◌<◌, [], map, get_or}
use Rattle.vf_base.specs.Base.{object_number}
use Rattle.v_design.specs.Assignments.{value_at}
use Rattle.node_eval.proofs.room.hold_first.Given as goal

abbrev pub invariant-outputs : goal.invariant-outputs
invariant-outputs g l = (k : ℕ) → k < l.number → get_or l.held k [] ≡ value_at (g.V.Values.values l.values) (get_or (map object_number l.outputs) k 0)

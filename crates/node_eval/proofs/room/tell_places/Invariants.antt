use Rattle.std.proofs.Common.{◌≡◌, ℕ, ◌<◌, map, get_or}
use Rattle.vf_base.specs.Base.{object_number}
use Rattle.node_eval.proofs.room.tell_places.Given as goal

abbrev pub invariant-outputs : goal.invariant-outputs
invariant-outputs l = (k : ℕ) → k < l.number → get_or l.places (get_or (map object_number l.outputs) k 0) 0 ≡ k

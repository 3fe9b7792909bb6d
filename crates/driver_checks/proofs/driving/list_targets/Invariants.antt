use Rattle.std.proofs.Common.{◌≡◌, take, map, flat_map}
use Rattle.key_index.specs.Places.{keys_of}
use Rattle.v_elab.specs.Drivers.{block_signals}
use Rattle.elab_parts.specs.BehaviourViews.{node_of}
use Rattle.driver_checks.proofs.driving.list_targets.Given as goal

abbrev pub invariant-nodes : goal.invariant-nodes
invariant-nodes l = keys_of l.names.items ≡ flat_map block_signals (map node_of (take l.node-index l.nodes))

use Rattle.std.proofs.Common.{◌≡◌, map, take}
use Rattle.v_tree.specs.Views.{connection_of}
use Rattle.tree_copies.proofs.copy_item.copy_connections.Given as goal

abbrev pub invariant-connections : goal.invariant-connections
invariant-connections l = map connection_of l.copies.items ≡ map connection_of (take l.connection-index l.connections)

use Rattle.std.proofs.Common.{◌≡◌, take, map}
use Rattle.key_index.specs.Places.{keys_of}
use Rattle.key_index.specs.Groups.{keyed_of, key_of}
use Rattle.key_index.proofs.grouped.list_keys.Given as goal

abbrev pub invariant-items : goal.invariant-items
invariant-items g l = keys_of l.keys.items ≡ map key_of (map keyed_of (take l.item-index l.items))

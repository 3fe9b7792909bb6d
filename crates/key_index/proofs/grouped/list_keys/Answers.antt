use Rattle.std.proofs.Common.{refl}
use Rattle.key_index.specs.Groups.{keyed_of, key_of}
use Rattle.key_index.specs.KeyLists.{keys-more}
use Rattle.key_index.proofs.grouped.list_keys.Goals as goal

pub items-preserved : goal.items-preserved
items-preserved g c = keys-more keyed_of key_of c.args.items.now c.items.item-index c.item-item.result _ _ _ c.items-test.true c.item-item.is c.items.invariant c.in_ok-push.ensures.items refl

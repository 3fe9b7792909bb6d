-- None goes, or those that do go side by side.
use Rattle.std.proofs.Common.{◌+◌, sym, ap, ◌∙◌}
use Rattle.std.specs.List.{list_any}
use Rattle.shard_slots.specs.Slots.{goes_beside}
use Rattle.shard_slots.proofs.Beside.{all-rest}
use Rattle.shard_slots.proofs.slots.go_beside.Goals as goal

pub returns-then-not-some_goes-clause-besides : goal.returns-then-not-some_goes-clause-besides
returns-then-not-some_goes-clause-besides g c =
    all-rest g.N.World.design g.N.World.plan (c.args.view.now.window.now.before + c.args.slot) c.args.besides.now.items
    (sym (c.some_goes.ensures ∙ ap (list_any goes_beside) c.deref.ensures.value) ∙ c.if-not-some_goes.true)

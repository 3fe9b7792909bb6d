use Rattle.std.proofs.Common.{refl}
use Rattle.object_names.proofs.TableTurns.{pieces-turn}
use Rattle.object_names.proofs.tables.list_pieces.Goals as goal

pub objects-preserved : goal.objects-preserved
objects-preserved c =
    pieces-turn c.args.objects.now c.objects.number c.index-objects-number.result c.objects.items.items c.push.new.self.items _ c.objects-test.true c.index-objects-number.is c.objects.invariant
    c.in_ok-push.ensures.items
    c.as_bytes.ensures c.in_ok-object.ensures refl

use Rattle.std.proofs.Common.{◌∙◌, ap, refl}
use Rattle.v_elab.specs.Drivers.{outermost}
use Rattle.elab_wires.proofs.WrittenTurns.{objects-turn}
use Rattle.elab_wires.proofs.writers.list_objects.Goals as goal

pub written-preserved : goal.written-preserved
written-preserved c =
    objects-turn c.args.signals.now c.args.written.now c.written.name-index c.name-item.result c.written.objects.items c.push.new.self.items _ c.written-test.true c.name-item.is c.written.invariant
    c.in_ok-push.ensures.items
    (c.outermost.ensures ∙ ap (outermost c.args.signals.now) c.as_bytes.ensures) refl

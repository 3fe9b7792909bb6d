use Rattle.std.proofs.Common.{ap, ◌∙◌}
use Rattle.v_ports.specs.JoinedObjects.{last_along}
use Rattle.v_ports.specs.Joins.{next_of}
use Rattle.v_ports.proofs.Uses.{object-turn}
use Rattle.v_ports.proofs.join.join_ports.Goals as goal

pub objects-preserved : goal.objects-preserved
objects-preserved c =
    object-turn (last_along c.args.objects (next_of c.in_ok-uses.uses.items)) c.objects.object c.objects.joined.items c.push.new.self.items c.last.result c.objects.invariant
    c.in_ok-push.ensures.items (c.last.ensures ∙ ap (λ us. last_along c.args.objects (next_of us) c.objects.object) c.deref.ensures.value)

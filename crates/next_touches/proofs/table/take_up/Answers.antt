-- Of the same window all stays; of another nothing is known.
use Rattle.std.proofs.Common.{subst}
use Rattle.next_touches.specs.Touches.{AreUnknown}
use Rattle.next_touches.proofs.Known.{knows-nothing}
use Rattle.next_touches.proofs.table.take_up.Goals as goal

pub returns-clause-knows : goal.returns-clause-knows
returns-clause-knows g c =
    knows-nothing g.N.World.design g.N.World.plan _ (subst (λ n. AreUnknown n c.forget.new.stretches.items) c.requires.objects.count_is c.forget.ensures)
    (subst (λ n. AreUnknown n c.forget-2.new.stretches.items) c.requires.processes.count_is c.forget-2.ensures)

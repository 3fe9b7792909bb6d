use Rattle.std.proofs.Common.{refl}
use Rattle.elab_wires.specs.Turns.{turn}
use Rattle.elab_behaviours.specs.Assignments.{assignments_listed, select_assigned}
use Rattle.elab_behaviours.proofs.Assigning.{assigned-push}
use Rattle.elab_behaviours.proofs.assigned.push_selects.Goals as goal

pub selects-preserved : goal.selects-preserved
selects-preserved c =
    turn select_assigned (λ ns. ns) (λ xs ys. refl) c.args.selects.now c.selects.select-index c.select-item.result
    (assignments_listed c.args.names.now.items) _ _ c.selects-test.true c.select-item.is c.selects.invariant
    (assigned-push c.selects.names.items c.push.new.self.items _ (select_assigned c.select-item.result) c.in_ok-push.ensures.items c.as_bytes.ensures refl)

use Rattle.std.proofs.Common.{◌≡◌, ◌+◌}
use Rattle.v_design.specs.Assignments.{value_at}
use Rattle.between_slots.specs.Between.{state_through}
use Rattle.copy_between.specs.Differing.{IsDifference, AreKeptBelow}
use Rattle.machine.specs.Standing.{state_kept}
use Rattle.copy_room.proofs.leaving.keep_values.Given as goal

abbrev pub invariant-objects : goal.invariant-objects
invariant-objects g l =
    let good = state_through g.N.World.design g.N.World.plan (l.window.before + l.slot) in
    (l.copy ≡ record l.fn.copy { values = l.copy.values })
    × AreKeptBelow (λ object. IsDifference (value_at good.values object) (value_at (state_kept l.room).values object)) l.number l.fn.copy.values l.copy.values

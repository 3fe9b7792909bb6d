use Rattle.std.proofs.Common.{◌≡◌, length}
use Rattle.four_value.specs.Values.{LogicValue}
use Rattle.v_design.specs.Assignments.{value_at}
use Rattle.trace_window.specs.Moments.{window_values}
use Rattle.moment_parts.proofs.Below.{AreBelow}
use Rattle.moment_parts.proofs.going.put_values.Given as goal

abbrev pub invariant-objects : goal.invariant-objects
invariant-objects g l =
    AreBelow LogicValue (λ object value. value ≡ value_at (window_values g.N.World.design g.N.World.plan l.window.before l.window.through l.moment) object) l.number
    (length g.N.World.design.objects) l.values.items

use Rattle.std.proofs.Common.{◌≡◌, take}
use Rattle.net_state.specs.States.{values_in}
use Rattle.good_trace.proofs.first.first_values.Given as goal

abbrev pub invariant-objects : goal.invariant-objects
invariant-objects l = l.values.items ≡ take l.number (values_in l.nets)

use Rattle.std.proofs.Common.{◌≡◌, ◌++◌, map, take}
use Rattle.elab_behaviours.specs.Assignments.{assignments_listed, select_assigned}
use Rattle.elab_behaviours.proofs.assigned.push_selects.Given as goal

abbrev pub invariant-selects : goal.invariant-selects
invariant-selects l = assignments_listed l.names.items ≡ assignments_listed l.initial.names.items ++ map select_assigned (take l.select-index l.selects)

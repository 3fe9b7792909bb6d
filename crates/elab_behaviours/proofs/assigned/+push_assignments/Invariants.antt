use Rattle.std.proofs.Common.{◌≡◌, ◌++◌, flat_map, take}
use Rattle.elab_behaviours.specs.Assignments.{assignments_listed, statement_assigned, item_assigned}
use Rattle.elab_behaviours.proofs.assigned.+push_assignments.Given as goal

abbrev pub invariant-push_all-statements : goal.invariant-push_all-statements
invariant-push_all-statements l = assignments_listed l.names.items ≡ assignments_listed l.initial.names.items ++ flat_map statement_assigned (take l.stmt-index l.statements)

abbrev pub invariant-push_items-items : goal.invariant-push_items-items
invariant-push_items-items l = assignments_listed l.names.items ≡ assignments_listed l.initial.names.items ++ flat_map item_assigned (take l.item-index l.items)

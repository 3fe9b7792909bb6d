use Rattle.module_scope.proofs.declaration.push_item.Goals as goal

pub returns-in_ok-push_wires-in-Wire-clause-grouped : goal.returns-in_ok-push_wires-in-Wire-clause-grouped
returns-in_ok-push_wires-in-Wire-clause-grouped c =
    c.in_ok-push_wires-in-Wire.ensures.grouped.adds _ c.in_ok-bounds-in-Wire.ensures.group (c.in_ok-bounds-in-Wire.ensures.grouped _ c.requires)

pub returns-in_ok-push_regs-in-Reg-clause-grouped : goal.returns-in_ok-push_regs-in-Reg-clause-grouped
returns-in_ok-push_regs-in-Reg-clause-grouped c = c.in_ok-push_regs-in-Reg.ensures.grouped.adds _ c.in_ok-bounds-in-Reg.ensures.group (c.in_ok-bounds-in-Reg.ensures.grouped _ c.requires)

pub returns-in_ok-push_regs-in-Integer-clause-grouped : goal.returns-in_ok-push_regs-in-Integer-clause-grouped
returns-in_ok-push_regs-in-Integer-clause-grouped c =
    c.in_ok-push_regs-in-Integer.ensures.grouped.adds _ c.in_ok-bounds-in-Integer.ensures.group (c.in_ok-bounds-in-Integer.ensures.grouped _ c.requires)

pub returns-in_ok-push_gates-in-Gate-clause-grouped : goal.returns-in_ok-push_gates-in-Gate-clause-grouped
returns-in_ok-push_gates-in-Gate-clause-grouped c = c.in_ok-push_gates-in-Gate.ensures.grouped.adds _ tt c.requires

pub returns-in_ok-push_instances-in-Instance-clause-grouped : goal.returns-in_ok-push_instances-in-Instance-clause-grouped
returns-in_ok-push_instances-in-Instance-clause-grouped c = c.in_ok-push_instances-in-Instance.ensures.grouped.adds _ tt c.requires

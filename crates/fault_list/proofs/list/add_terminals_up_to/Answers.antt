use Rattle.std.proofs.Common.{arith, ◌≡◌, ◌+◌}
use Rattle.vf_base.specs.Base.{node_number}
use Rattle.v_design.specs.Designs.{GateTerminal}
use Rattle.fault_list.proofs.Growing.{more_bits, all_bits}
use Rattle.fault_list.proofs.list.add_terminals_up_to.Goals as goal

pub terminals-preserved : goal.terminals-preserved
terminals-preserved c = more_bits (GateTerminal (node_number c.args.number)) 1 c.terminals.terminal (c.terminals.terminal + 1) _ _ _ (omega arith) c.terminals.invariant c.in_ok-push_both.ensures

pub returns : goal.returns
returns c = let done : c.terminals.terminal ≡ c.args.count = omega arith in all_bits (GateTerminal (node_number c.args.number)) 1 c.terminals.terminal c.args.count _ _ done c.terminals.invariant

use Rattle.std.proofs.Common.{◌≡◌, ◌++◌, map}
use Rattle.vf_base.specs.Base.{node_number}
use Rattle.v_design.specs.Designs.{GateTerminal}
use Rattle.v_design.specs.Expressions.{up_from}
use Rattle.fault_list.specs.Listed.{stuck, both}
use Rattle.fault_list.proofs.list.add_terminals_up_to.Given as goal

abbrev pub invariant-terminals : goal.invariant-terminals
invariant-terminals l = stuck l.faults.items ≡ stuck l.initial.faults.items ++ both (map (GateTerminal (node_number l.number)) (up_from 1 l.terminal))

-- What a runner stands for: a machine and a state of it (IEEE 1364-2001, clause 5).
use Rattle.std.specs.Prelude.{ℕ, List, map}
use Rattle.four_value.specs.Values.{LogicValue}
use Rattle.v_design.specs.Designs.{FlatDesign, FlatNode, FlatProcess, Machine}
use Rattle.v_design.specs.States.{State, idle_node, idle_process}
use Rattle.net_state.specs.declared.state.NetState.{NetState}
use Rattle.net_state.specs.States.{machine_in, values_in, nodes_in}
use Rattle.process_table.specs.declared.table.ProcessTable.{ProcessTable}
use Rattle.process_table.specs.Arranged.{table_of}
use Rattle.machine_events.specs.Alone.{AreOfOne}
use Rattle.block_events.specs.declared.runner.Runner.{Runner}

-- the state that some values, nodes and processes are of
abbrev pub one_state : NetState → ProcessTable → State
one_state nets table = record { time = (table_of table).time; values = values_in nets; nodes = nodes_in nets; processes = (table_of table).processes }

-- the design and its fault
abbrev pub machine_of : Runner → Machine
machine_of runner = machine_in runner.nets

-- the state
abbrev pub state_of : Runner → State
state_of runner = one_state runner.nets runner.table

-- the processes are arranged, and of the design of the values and the nodes
abbrev pub IsWhole : Runner → Type 0
IsWhole runner = AreOfOne runner.nets runner.table

-- a state at a time with these values, in which no node has work and each process is done
abbrev pub cleared_state : FlatDesign → ℕ → List LogicValue → State
cleared_state design time values = record {
  time = time;
  values = values;
  nodes = map (λ (node : FlatNode). idle_node) design.nodes;
  processes = map (λ (process : FlatProcess). idle_process) design.processes;
}

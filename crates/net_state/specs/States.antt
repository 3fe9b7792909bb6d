-- What the values and the nodes of a machine stand for (IEEE 1364-2001, clause 5).
use Rattle.std.specs.Prelude.{List, map}
use Rattle.four_value.specs.Values.{LogicValue}
use Rattle.v_design.specs.Designs.{Machine}
use Rattle.v_design.specs.States.{NodeState, State}
use Rattle.v_design.specs.Views.{machine_with}
use Rattle.net_state.specs.Held.{node_marked, Holds}
use Rattle.net_state.specs.declared.state.NetState.{NetState}

-- the machine: the design and its fault
abbrev pub machine_in : NetState → Machine
machine_in nets = machine_with nets.objects.settle.graph.now.design.now nets.fault

-- a value for each object
abbrev pub values_in : NetState → List LogicValue
values_in nets = nets.objects.values.items

-- the nodes, each marked or not, and without a pending update
abbrev pub nodes_in : NetState → List NodeState
nodes_in nets = map node_marked nets.objects.settle.marks.items

-- a state has these values and these nodes; its processes are kept elsewhere
abbrev pub AreNetsOf : NetState → State → Type 0
AreNetsOf nets state = Holds nets.objects state

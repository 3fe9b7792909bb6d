-- A flat design, a stuck-at fault and a plan as plain data (IEEE 1364-2001, clause 6 for continuous assignments, clause 7 for gates, clause 9 for processes).
use Rattle.std.specs.Prelude.{ℕ, Bool, true, false, ◌&&◌, List, [], ◌∷◌, map, Option, Some, None, nat_eq, get_or}
use Rattle.four_value.specs.Bits.{bit_of}
use Rattle.vf_base.specs.Base.{SourcePlace, WatchedBit}
use Rattle.four_value.specs.Values.{LogicValue, with_part}
use Rattle.v_design.specs.Trees.{Vector, Expression, Expressions, Statement}
use Rattle.four_value.specs.declared.logic.Bit.{Bit}
use Rattle.v_design.specs.declared.logic.ObjectKind.{ObjectKind}
use Rattle.four_value.specs.declared.operator.GateKind.{GateKind}

-- a variable, a word of a memory or a net piece: its declared name, whether that has a range, the declared indexes of its first and last bit, a word's address, and its first content
pub record FlatObject : Type 0 where
  pub name : List ℕ
  pub kind : ObjectKind
  pub width : ℕ
  pub ranged : Bool
  pub high : ℕ
  pub low : ℕ
  pub address : ℕ
  pub first : LogicValue
  pub place : SourcePlace

-- a name that is joined into other objects, with its declared bounds and the pieces that hold its bits
pub record NameJoined : Type 0 where
  pub name : List ℕ
  pub ranged : Bool
  pub vector : Vector

-- an assignment has for each output the place of its least significant bit in the value
pub data FlatNodeKind : Type 0 where
  AssignNode : (value : Expression) (places : List ℕ) → FlatNodeKind
  GateNode : (kind : GateKind) (terminals : Expressions) → FlatNodeKind
  BlockNode : (statement : Statement) → FlatNodeKind

-- a continuous assignment, a gate or a combinational block
pub record FlatNode : Type 0 where
  pub kind : FlatNodeKind
  pub inputs : List ℕ
  pub outputs : List ℕ
  pub name : List ℕ

-- an initial or an always
pub record FlatProcess : Type 0 where
  pub always : Bool
  pub body : Statement
  pub place : SourcePlace

-- objects, nodes and processes, each by its number, and the names that are joined into objects
pub record FlatDesign : Type 0 where
  pub objects : List FlatObject
  pub joined : List NameJoined
  pub nodes : List FlatNode
  pub processes : List FlatProcess

-- the width of an object, 0 where there is none
abbrev pub width_in : FlatDesign → ℕ → ℕ
width_in design object = get_or (map (λ (o : FlatObject). o.width) design.objects) object 0

-- a bit of a variable, a bit of a node's output, or an input terminal of a gate, counted from 1
pub data FaultSite : Type 0 where
  VariableBit : (object bit : ℕ) → FaultSite
  OutputBit : (node object bit : ℕ) → FaultSite
  GateTerminal : (node terminal : ℕ) → FaultSite

-- a bit that is held at 0 or 1 throughout
pub record StuckAt : Type 0 where
  pub site : FaultSite
  pub value : Bool

-- the time at which the test ends, the times of the strobes, the bits that they look at, and the faults that are listed
pub record TestPlan : Type 0 where
  pub end : ℕ
  pub strobes : List ℕ
  pub watched : List WatchedBit
  pub faults : List StuckAt

-- the design that has nothing
abbrev pub empty_design : FlatDesign
empty_design = record { objects = []; joined = []; nodes = []; processes = [] }

-- the plan that ends at once
abbrev pub empty_plan : TestPlan
empty_plan = record { end = 0; strobes = []; watched = []; faults = [] }

-- a design, good or under one fault
pub record Machine : Type 0 where
  pub design : FlatDesign
  pub fault : Option StuckAt

-- a design without a fault
abbrev pub good_machine : FlatDesign → Machine
good_machine design = record { design = design; fault = None }

-- a design under one fault
abbrev pub faulty_machine : FlatDesign → StuckAt → Machine
faulty_machine design fault = record { design = design; fault = Some fault }

-- Forcing: the first content and every write of a variable, what a node gives at an output, what a gate sees at a terminal

-- a value with one bit held, where a test holds
abbrev pub forced_if : Bool → ℕ → Bool → LogicValue → LogicValue
forced_if true bit stuck value = with_part value bit (bit_of stuck ∷ [])
forced_if false bit stuck value = value

-- what a fault makes of a value that is written to a variable
abbrev pub forced_at_variable : FaultSite → Bool → ℕ → LogicValue → LogicValue
forced_at_variable (VariableBit object bit) stuck written value = forced_if (nat_eq object written) bit stuck value
forced_at_variable (OutputBit node object bit) stuck written value = value
forced_at_variable (GateTerminal node terminal) stuck written value = value

-- what a fault makes of a value that a node gives to an output
abbrev pub forced_at_output : FaultSite → Bool → ℕ → ℕ → LogicValue → LogicValue
forced_at_output (VariableBit object bit) stuck at written value = value
forced_at_output (OutputBit node object bit) stuck at written value = forced_if (nat_eq node at && nat_eq object written) bit stuck value
forced_at_output (GateTerminal node terminal) stuck at written value = value

-- a bit that is held, where a test holds
abbrev pub stuck_if : Bool → Bool → Bit → Bit
stuck_if true stuck value = bit_of stuck
stuck_if false stuck value = value

-- what a fault makes of a bit that a gate sees at a terminal
abbrev pub forced_at_terminal : FaultSite → Bool → ℕ → ℕ → Bit → Bit
forced_at_terminal (VariableBit object bit) stuck at terminal value = value
forced_at_terminal (OutputBit node object bit) stuck at terminal value = value
forced_at_terminal (GateTerminal node number) stuck at terminal value = stuck_if (nat_eq node at && nat_eq number terminal) stuck value

-- what a variable holds where a value is written to it
abbrev pub forced_variable : Option StuckAt → ℕ → LogicValue → LogicValue
forced_variable None object value = value
forced_variable (Some fault) object value = forced_at_variable fault.site fault.value object value

-- what a node gives at one of its outputs
abbrev pub forced_output : Option StuckAt → ℕ → ℕ → LogicValue → LogicValue
forced_output None node object value = value
forced_output (Some fault) node object value = forced_at_output fault.site fault.value node object value

-- what a gate sees at one of its terminals
abbrev pub forced_terminal : Option StuckAt → ℕ → ℕ → Bit → Bit
forced_terminal None node terminal value = value
forced_terminal (Some fault) node terminal value = forced_at_terminal fault.site fault.value node terminal value

-- The sites of faults, how they are spelled, and which faults of a gate are equivalent (gates by IEEE 1364-2001, clause 7).
use Rattle.std.specs.Prelude.{◌≢◌, ℕ, ◌+◌, ◌-◌, Bool, true, false, not, ◌&&◌, ◌||◌, IsTrue, List, [], ◌∷◌, ◌++◌, map, filter, Option, Some, None, nat_le, nat_eq, slice_get}
use Rattle.std.specs.Prelude.{decimal}
use Rattle.vf_base.specs.Lists.{joined, map_numbered, has, AllHold}
use Rattle.v_design.specs.Trees.{Expressions, no_expressions, more_expressions}
use Rattle.v_design.specs.Expressions.{up_from}
use Rattle.v_design.specs.Paths.{net_pieces}
use Rattle.v_design.specs.Designs.{FlatObject, FlatNodeKind, AssignNode, GateNode, BlockNode, FlatNode, FlatDesign, width_in, StuckAt, FaultSite, VariableBit, OutputBit, GateTerminal}
use Rattle.four_value.specs.declared.operator.GateKind.{GateKind}
use Rattle.four_value.specs.declared.operator.GateKind.TheVariants.{And, Nand, Or, Nor, Xor, Xnor, Buf, Not}
use Rattle.v_design.specs.declared.logic.ObjectKind.{ObjectKind}
use Rattle.v_design.specs.declared.logic.ObjectKind.TheVariants.{Var, Word, Net}

-- the declared index of a bit that is counted from the least significant
abbrev pub index_of_bit : ℕ → ℕ → ℕ → ℕ
index_of_bit high low bit = elim (nat_le low high) [ true ↦ low + bit | false ↦ low - bit ]

-- an index between `[` (91) and `]` (93), where the name has a range
abbrev pub index_text : Bool → ℕ → List ℕ
index_text true index = 91 ∷ decimal index ++ 93 ∷ []
index_text false index = []

-- how a bit of an object is spelled
abbrev pub bit_name : Option FlatObject → ℕ → List ℕ
bit_name None bit = []
bit_name (Some object) bit = object.name ++ index_text object.ranged (index_of_bit object.high object.low bit)

-- how a terminal of a gate is spelled, after `.` (46)
abbrev pub terminal_name : Option FlatNode → ℕ → List ℕ
terminal_name None terminal = []
terminal_name (Some node) terminal = node.name ++ 46 ∷ decimal terminal

-- how a site is spelled: NAME, NAME[INDEX] or GATE.TERMINAL
abbrev pub site_name : FlatDesign → FaultSite → List ℕ
site_name design (VariableBit object bit) = bit_name (slice_get design.objects object) bit
site_name design (OutputBit node object bit) = bit_name (slice_get design.objects object) bit
site_name design (GateTerminal node terminal) = terminal_name (slice_get design.nodes node) terminal

-- The sites of a design: the bits of variables, then the output bits of nodes, then the terminals of gates

-- whether an object is a variable
abbrev pub is_variable : ObjectKind → Bool
is_variable Var = true
is_variable Word = false
is_variable Net = false

-- the number of some expressions
abbrev pub expressions_count : Expressions → ℕ
expressions_count no_expressions = 0
expressions_count (more_expressions first rest) = 1 + expressions_count rest

-- the sites of all bits of a width, where a test holds
abbrev pub bits_if : Bool → (ℕ → FaultSite) → ℕ → List FaultSite
bits_if true site width = map site (up_from 0 width)
bits_if false site width = []

-- the bits of a variable, from the least significant
abbrev pub variable_sites : ℕ → FlatObject → List FaultSite
variable_sites number object = bits_if (is_variable object.kind) (VariableBit number) object.width

-- the output bits of a node, by object, from the least significant
abbrev pub output_sites : FlatDesign → ℕ → FlatNode → List FaultSite
output_sites design number node =
    joined (map (λ object. map (OutputBit number object) (up_from 0 (width_in design object))) (filter (has node.outputs) (net_pieces design)))

-- the number of a node's terminals
abbrev pub terminal_count : FlatNodeKind → ℕ
terminal_count (AssignNode value places) = 0
terminal_count (GateNode kind terminals) = expressions_count terminals
terminal_count (BlockNode statement) = 0

-- the terminals of a gate, from 1
abbrev pub terminal_sites : ℕ → FlatNode → List FaultSite
terminal_sites number node = map (GateTerminal number) (up_from 1 (terminal_count node.kind))

-- all sites of a design
abbrev pub sites_of : FlatDesign → List FaultSite
sites_of design =
    joined (map_numbered variable_sites 0 design.objects)
    ++ (joined (map_numbered (output_sites design) 0 design.nodes) ++ joined (map_numbered terminal_sites 0 design.nodes))

-- each site held at 0, then at 1
abbrev pub faults_of : FlatDesign → List StuckAt
faults_of design = joined (map (λ site. record { site = site; value = false } ∷ record { site = site; value = true } ∷ []) (sites_of design))

-- each differs from all later ones
abbrev pub AllDiffer : List (List ℕ) → Type 0
AllDiffer [] = Unit {0}
AllDiffer (name ∷ names) = AllHold (λ other. name ≢ other) names × AllDiffer names

-- no two sites have one name
abbrev pub SitesDiffer : FlatDesign → Type 0
SitesDiffer design = AllDiffer (map (site_name design) (sites_of design))

-- Classes of faults

-- whether an input terminal held at a value holds the gate's output at another
abbrev pub forces : GateKind → Bool → Bool → Bool
forces And input output = not input && not output
forces Nand input output = not input && output
forces Or input output = input && output
forces Nor input output = input && not output
forces Xor input output = false
forces Xnor input output = false
forces Buf input output = (input && output) || (not input && not output)
forces Not input output = (input && not output) || (not input && output)

-- the same of a node
abbrev pub kind_forces : FlatNodeKind → Bool → Bool → Bool
kind_forces (AssignNode value places) input output = false
kind_forces (GateNode kind terminals) input output = forces kind input output
kind_forces (BlockNode statement) input output = false

-- whether a terminal of a gate that is held at a value holds the gate's output bit at another
abbrev pub gate_forces : FlatNode → ℕ → Bool → ℕ → ℕ → Bool → Bool
gate_forces node terminal input object bit output =
    kind_forces node.kind input output && nat_le 1 terminal && nat_le terminal (terminal_count node.kind) && has node.outputs object && nat_eq bit 0

-- the same of a node that is there
abbrev pub node_forces : Option FlatNode → ℕ → Bool → ℕ → ℕ → Bool → Bool
node_forces None terminal input object bit output = false
node_forces (Some node) terminal input object bit output = gate_forces node terminal input object bit output

-- a terminal's fault and the output's fault of one gate that have one effect
abbrev pub is_gate_pair : FlatDesign → FaultSite → Bool → FaultSite → Bool → Bool
is_gate_pair design (GateTerminal node terminal) input (OutputBit driver object bit) output =
    nat_eq node driver && node_forces (slice_get design.nodes node) terminal input object bit output
is_gate_pair design (GateTerminal node terminal) input (VariableBit object bit) output = false
is_gate_pair design (GateTerminal node terminal) input (GateTerminal other number) output = false
is_gate_pair design (VariableBit object bit) input other output = false
is_gate_pair design (OutputBit node object bit) input other output = false

-- a terminal's fault and the output's fault of one gate, in either order
abbrev pub are_gate_pair : FlatDesign → StuckAt → StuckAt → Bool
are_gate_pair design one other = is_gate_pair design one.site one.value other.site other.value || is_gate_pair design other.site other.value one.site one.value

-- equal, or joined by a chain of such pairs
pub data AreOneClass (design : FlatDesign) : StuckAt → StuckAt → Type 0 where
  same_fault : (fault : StuckAt) → AreOneClass design fault fault
  joined_by : (one other last : StuckAt) → IsTrue (are_gate_pair design one other) → AreOneClass design other last → AreOneClass design one last

-- One fault that stands for each class, and the places of the first listed faults (gates by IEEE 1364-2001, clause 7).
use Rattle.std.specs.Prelude.{◌≡◌, ℕ, ◌≤◌, ◌<◌, Bool, true, false, not, ◌&&◌, List, [], ◌∷◌, Option, Some, None, nat_le, slice_get}
use Rattle.four_value.specs.declared.operator.GateKind.{GateKind}
use Rattle.four_value.specs.declared.operator.GateKind.TheVariants.{And, Nand, Or, Nor, Xor, Xnor, Buf, Not}
use Rattle.v_design.specs.Designs.{FlatNodeKind, AssignNode, GateNode, BlockNode, FlatNode, FlatDesign, StuckAt, FaultSite, VariableBit, OutputBit, GateTerminal}
use Rattle.v_design.specs.Sites.{terminal_count, AreOneClass}

-- a value, where a test holds
abbrev pub value_if : Bool → Bool → Option Bool
value_if true value = Some value
value_if false value = None

-- the value at which an input terminal that is held holds the gate's output, if it does
abbrev pub output_of : GateKind → Bool → Option Bool
output_of And input = value_if (not input) false
output_of Nand input = value_if (not input) true
output_of Or input = value_if input true
output_of Nor input = value_if input false
output_of Xor input = None
output_of Xnor input = None
output_of Buf input = Some input
output_of Not input = Some (not input)

-- the same of a node
abbrev pub output_of_kind : FlatNodeKind → Bool → Option Bool
output_of_kind (AssignNode value places) input = None
output_of_kind (GateNode kind terminals) input = output_of kind input
output_of_kind (BlockNode statement) input = None

-- a terminal's fault, or that of the output that it holds
abbrev pub held_fault : ℕ → ℕ → Bool → List ℕ → Option Bool → Bool → StuckAt
held_fault node terminal input [] output there = record { site = GateTerminal node terminal; value = input }
held_fault node terminal input (object ∷ objects) None there = record { site = GateTerminal node terminal; value = input }
held_fault node terminal input (object ∷ objects) (Some output) true = record { site = OutputBit node object 0; value = output }
held_fault node terminal input (object ∷ objects) (Some output) false = record { site = GateTerminal node terminal; value = input }

-- the same of a node that may be there
abbrev pub held_at : ℕ → ℕ → Bool → Option FlatNode → StuckAt
held_at number terminal input None = record { site = GateTerminal number terminal; value = input }
held_at number terminal input (Some node) =
    held_fault number terminal input node.outputs (output_of_kind node.kind input) (nat_le 1 terminal && nat_le terminal (terminal_count node.kind))

-- the fault that stands for the class of a site's fault: that of the gate's output, where the terminal holds it
abbrev pub standing_site : FlatDesign → FaultSite → Bool → StuckAt
standing_site design (VariableBit object bit) value = record { site = VariableBit object bit; value = value }
standing_site design (OutputBit node object bit) value = record { site = OutputBit node object bit; value = value }
standing_site design (GateTerminal node terminal) value = held_at node terminal value (slice_get design.nodes node)

-- the fault that stands for a fault's class
abbrev pub standing : FlatDesign → StuckAt → StuckAt
standing design fault = standing_site design fault.site fault.value

-- a place is that of the first listed fault of a fault's class
pub record IsFirstOfClass (design : FlatDesign) (faults : List StuckAt) (fault : StuckAt) (place : ℕ) : Type 0 where
  pub first : StuckAt
  pub stands : slice_get faults place ≡ Some first
  pub alike : AreOneClass design first fault
  pub least : (earlier : ℕ) (other : StuckAt) → earlier < place → slice_get faults earlier ≡ Some other → AreOneClass design other fault → ⊥

-- for each of some faults the place of the first listed one of its class
abbrev pub AreClasses : FlatDesign → List StuckAt → List ℕ → Type 0
AreClasses design faults places =
    (number : ℕ) (fault : StuckAt) → slice_get faults number ≡ Some fault → (place : ℕ) × (slice_get places number ≡ Some place) × (place ≤ number) × IsFirstOfClass design faults fault place

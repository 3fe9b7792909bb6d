-- Which states the values of the objects and the marks of the nodes are those of (IEEE 1364-2001, clause 5).
use Rattle.std.specs.Prelude.{◌≡◌, ℕ, ◌<◌, Bool, true, ◌&&◌, ◌||◌, List, [], length, map, get_or, None}
use Rattle.vf_base.specs.Lists.{zip_with, has, AllHold}
use Rattle.four_value.specs.Values.{LogicValue}
use Rattle.v_design.specs.Designs.{FlatNode, FlatDesign, width_in}
use Rattle.v_design.specs.Paths.{net_pieces}
use Rattle.v_design.specs.States.{NodeState, State}
use Rattle.net_state.specs.declared.objects.Objects.{Objects}

-- a node without a pending update
abbrev pub node_marked : Bool → NodeState
node_marked marked = record { marked = marked; pending = None }

-- the marks after an object got a value, which changed it or not
abbrev pub marks_with : FlatDesign → ℕ → Bool → List Bool → List Bool
marks_with design object changed marks = zip_with (λ (node : FlatNode) marked. marked || (changed && has node.inputs object)) design.nodes marks

-- the values and the nodes of a state, in which no update is pending
pub record Holds (objects : Objects) (state : State) : Type 0 where
  pub values : objects.values.items ≡ state.values
  pub nodes : map node_marked objects.settle.marks.items ≡ state.nodes

-- some objects are net pieces
abbrev pub AreNets : FlatDesign → List ℕ → Type 0
AreNets design objects = AllHold (λ object. has (net_pieces design) object ≡ true) objects

-- one value for each of some objects, of its width
pub record HaveWidths (design : FlatDesign) (objects : List ℕ) (values : List LogicValue) : Type 0 where
  pub count : length values ≡ length objects
  pub widths : (k : ℕ) → k < length objects → length (get_or values k []) ≡ width_in design (get_or objects k 0)

-- Moments of a window before which no event touches a copy (events and slots by IEEE 1364-2001, clause 5).
use Rattle.std.specs.Prelude.{◌≡◌, ℕ, ◌<◌, ◌≤◌, Bool, true, false, List, Some, is_some, length, slice_get}
use Rattle.four_value.specs.Values.{LogicValue}
use Rattle.vf_base.specs.Lists.{has}
use Rattle.v_design.specs.Designs.{FlatDesign, FlatNode, FaultSite, VariableBit, OutputBit, GateTerminal, good_machine}
use Rattle.copy_laws.specs.Differences.{own_of}
use Rattle.trace_window.specs.Acted.{evaluated_at}
use Rattle.trace_window.specs.Moments.{Seen}
use Rattle.trace_window.specs.Touched.{touched_at}

-- no number from one to before another passes a test
abbrev pub NoneBetween : (ℕ → Bool) → ℕ → ℕ → Type 0
NoneBetween test first limit = (number : ℕ) → first ≤ number → number < limit → test number ≡ false

-- no event from one moment to before another reads or writes an object
abbrev pub NoneTouches : FlatDesign → List Seen → ℕ → ℕ → ℕ → Type 0
NoneTouches design events object first limit = NoneBetween (touched_at (good_machine design) events object) first limit

-- and none evaluates a node
abbrev pub NoneEvaluates : List Seen → ℕ → ℕ → ℕ → Type 0
NoneEvaluates events node first limit = NoneBetween (evaluated_at events node) first limit

-- none evaluates a node that reads an object
abbrev pub NoneReads : FlatDesign → List Seen → ℕ → ℕ → ℕ → Type 0
NoneReads design events object first limit =
    (number : ℕ) (node : FlatNode) → slice_get design.nodes number ≡ Some node → has node.inputs object ≡ true → NoneEvaluates events number first limit

-- an object is left alone: no event reads or writes it, and no node that reads it is evaluated
pub record IsLeftAlone (design : FlatDesign) (events : List Seen) (object first limit : ℕ) : Type 0 where
  pub touches : NoneTouches design events object first limit
  pub reads : NoneReads design events object first limit

-- so are all objects below one that have an own value
abbrev pub AreLeftAlone : FlatDesign → List Seen → List (ℕ × LogicValue) → ℕ → ℕ → ℕ → Type 0
AreLeftAlone design events values below first limit =
    (object : ℕ) → object < below → is_some (own_of values object) ≡ true → IsLeftAlone design events object first limit

-- so is the site of a fault: its variable isn't read or written, its node isn't evaluated
abbrev pub SiteLeftAlone : FlatDesign → List Seen → FaultSite → ℕ → ℕ → Type 0
SiteLeftAlone design events (VariableBit object bit) first limit = NoneTouches design events object first limit
SiteLeftAlone design events (OutputBit node object bit) first limit = NoneEvaluates events node first limit
SiteLeftAlone design events (GateTerminal node terminal) first limit = NoneEvaluates events node first limit

-- a site names an object or a node that is there
abbrev pub SiteIsThere : FlatDesign → FaultSite → Type 0
SiteIsThere design (VariableBit object bit) = object < length design.objects
SiteIsThere design (OutputBit node object bit) = node < length design.nodes
SiteIsThere design (GateTerminal node terminal) = node < length design.nodes

-- own values are those of objects that are there
abbrev pub AreThere : FlatDesign → List (ℕ × LogicValue) → Type 0
AreThere design values = (object : ℕ) → is_some (own_of values object) ≡ true → object < length design.objects

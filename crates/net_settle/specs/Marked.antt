-- Marked nodes: those that are still to be evaluated (continuous assignments and gates of IEEE 1364-2001, clause 6 and clause 7).
use Rattle.std.specs.Prelude.{◌≡◌, ℕ, ◌<◌, Bool, true, false, not, ◌&&◌, ◌||◌, List, get_or, nat_eq}
use Rattle.v_design.specs.Designs.{FlatDesign}
use Rattle.net_graph.specs.Tables.{node_reads_at}

-- whether a node is marked, no node past the last
abbrev pub marked_at : List Bool → ℕ → Bool
marked_at marks node = get_or marks node false

-- exactly the readers of an object are marked besides
abbrev pub MarksReaders : FlatDesign → ℕ → List Bool → List Bool → Type 0
MarksReaders design object before later = (node : ℕ) → marked_at later node ≡ (marked_at before node || node_reads_at design object node)

-- no node is marked
abbrev pub NoneMarked : List Bool → Type 0
NoneMarked marks = (node : ℕ) → marked_at marks node ≡ false

-- the least marked node
pub record IsLeastMarked (node : ℕ) (marks : List Bool) : Type 0 where
  pub is_marked : marked_at marks node ≡ true
  pub none_below : (lower : ℕ) → lower < node → marked_at marks lower ≡ false

-- the least marked node, and its mark is taken away
pub record TakesLeast (node : ℕ) (before later : List Bool) : Type 0 where
  pub was_marked : marked_at before node ≡ true
  pub least : (lower : ℕ) → lower < node → marked_at before lower ≡ false
  pub taken : (other : ℕ) → marked_at later other ≡ (marked_at before other && not (nat_eq other node))

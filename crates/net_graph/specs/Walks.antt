-- Walks over the nodes that an object reaches (continuous assignments and gates of IEEE 1364-2001, clause 6 and clause 7).
use Rattle.std.specs.Prelude.{◌≡◌, ℕ, ◌*◌, ◌≤◌, true, false, List, min, get_or, Some, Option, slice_get, sum_by, ◌||◌}
use Rattle.std.specs.Option.{ForSome}
use Rattle.vf_base.specs.declared.ids.ObjectId.{ObjectId}
use Rattle.vf_base.specs.Base.{object_number}
use Rattle.vf_base.specs.Lists.{has}
use Rattle.v_design.specs.Designs.{FlatNode, FlatDesign}
use Rattle.v_design.specs.Paths.{path_weight}
use Rattle.number_set.specs.Members.{NumberBits, is_member}
use Rattle.net_graph.specs.Tables.{distinct_inputs}
use Rattle.net_graph.specs.CountLaws.{WritesCounts, CountsBefore}

-- no node of a set, from a number on, drives an object
abbrev pub IsDrivenByNone : List FlatNode → NumberBits → ℕ → ℕ → Type 0
IsDrivenByNone nodes set k object = (i : ℕ) (node : FlatNode) → k ≤ i → slice_get nodes i ≡ Some node → is_member set i ≡ true → has node.outputs object ≡ false

-- only objects that such a node drives have counts
abbrev pub OnlyDrivenCount : List FlatNode → NumberBits → ℕ → List ℕ → Type 0
OnlyDrivenCount nodes set k counts = (object : ℕ) → IsDrivenByNone nodes set k object → get_or counts object 0 ≡ 0

-- only the object at which the paths begin, if one is told, and objects that a node of a set drives have counts
abbrev pub OnlyWalkedCount : List FlatNode → NumberBits → Option ObjectId → List ℕ → Type 0
OnlyWalkedCount nodes set from counts =
    (object : ℕ) → ForSome from (λ start. object_number start ≡ object → ⊥) → IsDrivenByNone nodes set 0 object → get_or counts object 0 ≡ 0

-- a node from a number on that isn't in a set reads no object that has a count
abbrev pub ReadersAreIn : List FlatNode → NumberBits → ℕ → List ℕ → Type 0
ReadersAreIn nodes set k counts =
    (i : ℕ) (node : FlatNode) → k ≤ i → slice_get nodes i ≡ Some node → is_member set i ≡ false → (object : ℕ) → has node.inputs object ≡ true → get_or counts object 0 ≡ 0

-- some numbers are members besides
pub record InsertsAll (numbers : List ℕ) (old new : NumberBits) : Type 0 where
  pub bound_is : new.bound ≡ old.bound
  pub members : (other : ℕ) → is_member new other ≡ (has numbers other || is_member old other)

-- the nodes that read one of some objects are in a set besides
pub record AddsReaders (nodes : List FlatNode) (objects : List ℕ) (old new : NumberBits) : Type 0 where
  pub bound_is : new.bound ≡ old.bound
  pub kept : (i : ℕ) → is_member old i ≡ true → is_member new i ≡ true
  pub added : (i : ℕ) (node : FlatNode) → slice_get nodes i ≡ Some node → (object : ℕ) → has objects object ≡ true → has node.inputs object ≡ true → is_member new i ≡ true

-- what going through one node does: the counts of its outputs are written, and the nodes that read those are in the set besides
pub record PassesNode (nodes : List FlatNode) (from k : ℕ) (before later : List ℕ) (old new : NumberBits) : Type 0 where
  pub node : FlatNode
  pub is : slice_get nodes k ≡ Some node
  pub written : WritesCounts from (min 2 (path_weight node.kind * sum_by (λ object. get_or before object 0) (distinct_inputs node))) node.outputs before later
  pub added : AddsReaders nodes node.outputs old new

-- the counts of some objects are taken away
pub record ClearsCounts (objects before later : List ℕ) : Type 0 where
  pub cleared : (object : ℕ) → has objects object ≡ true → get_or later object 0 ≡ 0
  pub kept : (object : ℕ) → has objects object ≡ false → get_or later object 0 ≡ get_or before object 0

-- a walk before the node of a number
pub record IsWalked (design : FlatDesign) (from : ObjectId) (k : ℕ) (counts : List ℕ) (set : NumberBits) : Type 0 where
  pub counted : CountsBefore design (object_number from) k counts
  pub readers : ReadersAreIn design.nodes set k counts
  pub only : OnlyWalkedCount design.nodes set (Some from) counts

-- What a change of an object reaches through continuous assignments, gates and combinational blocks (IEEE 1364-2001, clauses 6 and 7).
use Rattle.std.specs.Prelude.{◌≡◌, ℕ, Bool, true, ◌||◌, List, [], Option, Some, None, length, nat_lt, slice_get}
use Rattle.std.specs.List.{list_any, flat_map}
use Rattle.vf_base.specs.Lists.{has}
use Rattle.v_design.specs.declared.plan.Design.{Design}
use Rattle.v_design.specs.Designs.{FlatNode, FlatDesign}
use Rattle.v_design.specs.Paths.{paths}
use Rattle.v_design.specs.PlainDesigns.{design_of}
use Rattle.net_graph.specs.Tables.{readers_of}
use Rattle.object_set.specs.Ordered.{OrderedObjects}

-- whether a change of an object reaches another: a path of nodes leads to it, or it is the object itself
abbrev pub reaches : FlatDesign → ℕ → ℕ → Bool
reaches design from to = nat_lt 0 (paths design from to)

-- some node reads an object
pub record SomeNodeReads (design : FlatDesign) (object : ℕ) : Type 0 where
  pub number : ℕ
  pub node : FlatNode
  pub is : slice_get design.nodes number ≡ Some node
  pub reads : has node.inputs object ≡ true

-- what contracts see of the objects that are reached: the design, and their numbers
pub record ReachKept : Type 0 where
  pub design : Design
  pub objects : List ℕ

-- whether an object is reached
abbrev pub is_reached : ReachKept → ℕ → Bool
is_reached reached object = has reached.objects object

-- what a change of an object reaches is reached besides
pub record ReachesToo (object : ℕ) (old new : ReachKept) : Type 0 where
  pub design_is : new.design ≡ old.design
  pub reached : (other : ℕ) → is_reached new other ≡ (is_reached old other || reaches (design_of old.design) object other)

-- what changes of some objects reach is reached besides
pub record ReachesAllToo (objects : List ℕ) (old new : ReachKept) : Type 0 where
  pub design_is : new.design ≡ old.design
  pub reached : (other : ℕ) → is_reached new other ≡ (is_reached old other || list_any (λ from. reaches (design_of old.design) from other) objects)

-- what a node drives, if it is there
abbrev pub driven_by : Option FlatNode → List ℕ
driven_by None = []
driven_by (Some node) = node.outputs

-- what the node of a number drives
abbrev pub outputs_at : FlatDesign → ℕ → List ℕ
outputs_at design number = driven_by (slice_get design.nodes number)

-- what the nodes that read an object drive
abbrev pub successors : FlatDesign → ℕ → List ℕ
successors design object = flat_map (outputs_at design) (readers_of design object)

-- with each object what the nodes that read it drive
abbrev pub IsClosed : FlatDesign → List ℕ → Type 0
IsClosed design objects = (from to : ℕ) → has objects from ≡ true → has (successors design from) to ≡ true → has objects to ≡ true

-- a set of the design's objects that has, with each of them, what it reaches
pub record IsReach (design : Design) (found : OrderedObjects) : Type 0 where
  pub sized : found.bound ≡ length (design_of design).objects
  pub closed : IsClosed (design_of design) found.objects

-- Directed graphs as lists: for each vertex, by its number, those that it needs (nothing of the language).
use Rattle.std.specs.Prelude.{◌≡◌, ℕ, ◌+◌, ◌<◌, Bool, true, false, List, [], ◌∷◌, map, length, get_or, take, Vec, nat_lt, Option, Some, None}
use Rattle.std.specs.declared.alloc.Global.{Global}
use Rattle.vf_base.specs.Lists.{has}
use Rattle.vf_base.specs.Lists.{greatest}

-- lists of numbers
abbrev pub lists_of : List (Vec ℕ Global) → List (List ℕ)
lists_of lists = map (λ (list : Vec ℕ Global). list.items) lists

-- what a vertex needs; nothing, where there is no such vertex
abbrev pub needs_of : List (List ℕ) → ℕ → List ℕ
needs_of needs vertex = get_or needs vertex []

-- each vertex needs vertices
abbrev pub NeedVertices : List (List ℕ) → Type 0
NeedVertices needs = (vertex need : ℕ) → has (needs_of needs vertex) need ≡ true → need < length needs

-- from one vertex to another over some between, each of which is needed by the one before
abbrev pub IsWalk : List (List ℕ) → ℕ → List ℕ → ℕ → Type 0
IsWalk needs from [] to = has (needs_of needs from) to ≡ true
IsWalk needs from (next ∷ rest) to = (has (needs_of needs from) next ≡ true) × IsWalk needs next rest to

-- a vertex needs itself, directly or over others
abbrev pub IsOnLoop : List (List ℕ) → ℕ → Type 0
IsOnLoop needs vertex = (between : List ℕ) × IsWalk needs vertex between vertex

-- each vertex stands after those that it needs
abbrev pub IsInOrder : List (List ℕ) → List ℕ → Type 0
IsInOrder needs vertices = (i need : ℕ) → i < length vertices → has (needs_of needs (get_or vertices i 0)) need ≡ true → has (take i vertices) need ≡ true

-- whether each vertex stands in an order
abbrev pub Places : List (List ℕ) → List Bool → List ℕ → Type 0
Places needs placed vertices = (vertex : ℕ) → vertex < length needs → get_or placed vertex false ≡ has vertices vertex

-- a vertex that has no place needs another that has none
abbrev pub LeavesLoops : List (List ℕ) → List Bool → Type 0
LeavesLoops needs placed =
    (vertex : ℕ) → vertex < length needs → get_or placed vertex false ≡ false → (need : ℕ) × (has (needs_of needs vertex) need ≡ true) × (get_or placed need false ≡ false)

-- the vertices that no loop is needed for, each after those that it needs, and no others
pub record IsOrder (needs : List (List ℕ)) (placed : List Bool) (vertices : List ℕ) : Type 0 where
  pub same_length : length placed ≡ length needs
  pub in_order : IsInOrder needs vertices
  pub are_vertices : (i : ℕ) → i < length vertices → get_or vertices i 0 < length needs
  pub places : Places needs placed vertices
  pub left : LeavesLoops needs placed

-- no vertex below a number is on a loop
abbrev pub NoneOnLoop : List (List ℕ) → ℕ → Type 0
NoneOnLoop needs bound = (vertex : ℕ) → vertex < bound → IsOnLoop needs vertex → ⊥

-- the least vertex on a loop among those below a number, if there is one
abbrev pub IsLeastOnLoop : List (List ℕ) → ℕ → Option ℕ → Type 0
IsLeastOnLoop needs bound None = NoneOnLoop needs bound
IsLeastOnLoop needs bound (Some vertex) = (vertex < bound) × IsOnLoop needs vertex × NoneOnLoop needs vertex

-- a step to a vertex below a number counts
abbrev pub step_to : ℕ → ℕ → ℕ
step_to counted vertex = elim (nat_lt vertex counted) [ true ↦ 1 | false ↦ 0 ]

-- the depth of a vertex over those of what it needs, 0 where it needs nothing
abbrev pub depth_over : List (List ℕ) → ℕ → List ℕ → ℕ → ℕ
depth_over needs counted depths vertex = greatest (map (λ need. get_or depths need 0 + step_to counted vertex) (needs_of needs vertex))

-- the depths of all vertices: the most steps to counted vertices on a walk that ends there
abbrev pub AreDepths : List (List ℕ) → ℕ → List ℕ → Type 0
AreDepths needs counted depths = (vertex : ℕ) → vertex < length needs → get_or depths vertex 0 ≡ depth_over needs counted depths vertex

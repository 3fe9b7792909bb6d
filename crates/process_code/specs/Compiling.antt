-- How code grows while a statement is compiled (IEEE 1364-2001, clause 9).
use Rattle.std.specs.Prelude.{◌≡◌, ◌≢◌, ℕ, suc, zero, ◌+◌, ◌≤◌, ◌<◌, List, [], ◌∷◌, ◌++◌, length, slice_get, Option, Some, None}
use Rattle.v_design.specs.Trees.{Statement, CaseItems}
use Rattle.v_design.specs.Plain.{statement_of}
use Rattle.v_design.specs.Sized.{IsSizedStatement}
use Rattle.process_code.specs.Rests.{Part, opened_parts, NumbersFall}
use Rattle.process_code.specs.Positions.{part_of_head, rests_of, StandsAt, ItemsLead, PartLeads}
use Rattle.process_code.specs.Marks.{Mark, marks_at, marks_of, marks_of_items}
use Rattle.process_code.specs.Layouts.{Layout, laid_out, laid_out_items}
use Rattle.process_code.specs.declared.code.Head.{Head}
use Rattle.process_code.specs.declared.code.Head.TheVariants.{Statement as Begins, Test, Advance, Turns}
use Rattle.process_code.specs.declared.code.Spot.{Spot}
use Rattle.process_code.specs.declared.code.Ways.{Ways}
use Rattle.process_code.specs.declared.builder.Builder.{Builder}

-- a spot stands before the rest of an earlier position, and its ways lead where its steps go
pub record Leads (repeats : ℕ) (rests : List (List Part)) (spot : Spot) (ways : Ways) : Type 0 where
  pub after : List Part
  pub stands : StandsAt rests spot.next after
  pub leads : PartLeads repeats rests ways (part_of_head spot.head) after

-- the rests of a builder's positions
abbrev pub rests_in : Builder → List (List Part)
rests_in b = rests_of b.spots.items

-- the marks of a builder's spots
abbrev pub marks_in : Builder → List Mark
marks_in b = marks_at b.spots.items

-- what stands at a builder's positions
abbrev pub layout_in : Builder → Layout
layout_in b = record { rests = rests_in b; repeats = b.repeats }

-- the statement of what is first in a rest is sized
abbrev pub IsSizedHead : Head → Type 0
IsSizedHead (Begins s) = IsSizedStatement (statement_of s.now)
IsSizedHead (Test s) = IsSizedStatement (statement_of s.now)
IsSizedHead (Advance s) = IsSizedStatement (statement_of s.now)
IsSizedHead (Turns s number) = IsSizedStatement (statement_of s.now)

-- the statements of some spots are sized
abbrev pub AreSizedSpots : List Spot → Type 0
AreSizedSpots spots = (i : ℕ) (spot : Spot) → slice_get spots i ≡ Some spot → IsSizedHead spot.head

-- each spot has its ways and a statement that is sized, and there are no more repeats than spots
pub record IsInStep (b : Builder) : Type 0 where
  pub sized : AreSizedSpots b.spots.items
  pub ways : length b.spots.items ≡ length b.ways.items
  pub repeats : b.repeats ≤ length b.spots.items

-- more spots are added, each of which leads on and stands before an earlier position, and what was there stays
pub record Grows (old new : Builder) : Type 0 where
  pub added : List Spot
  pub spots : new.spots.items ≡ old.spots.items ++ added
  pub kept : (i : ℕ) → i < length old.spots.items → slice_get new.ways.items i ≡ slice_get old.ways.items i
  pub repeats : old.repeats ≤ new.repeats
  pub led : (i : ℕ) (spot : Spot) (ways : Ways) → length old.spots.items ≤ i → slice_get new.spots.items i ≡ Some spot → slice_get new.ways.items i ≡ Some ways →
      Leads new.repeats (rests_in new) spot ways
  pub falls : (i : ℕ) (spot : Spot) → length old.spots.items ≤ i → slice_get new.spots.items i ≡ Some spot → spot.next ≤ i

-- one spot more, whose ways are open
pub record Places (old new : Builder) (head : Head) (next own : ℕ) : Type 0 where
  pub spot : Spot
  pub way : Ways
  pub head_is : spot.head ≡ head
  pub next_is : spot.next ≡ next
  pub spots : new.spots.items ≡ old.spots.items ++ (spot ∷ [])
  pub ways : new.ways.items ≡ old.ways.items ++ (way ∷ [])
  pub repeats : new.repeats ≡ old.repeats
  pub own_is : own ≡ length old.spots.items + 1

-- the ways of one spot are set
pub record Turned (old new : Builder) (own : ℕ) (ways : Ways) : Type 0 where
  pub spots : new.spots.items ≡ old.spots.items
  pub set : slice_get new.ways.items own ≡ Some ways
  pub kept : (i : ℕ) → i ≢ own → slice_get new.ways.items i ≡ slice_get old.ways.items i
  pub lengths : length new.ways.items ≡ length old.ways.items
  pub repeats : new.repeats ≡ old.repeats

-- the numbers of the repeats in the rest of a position are below that of the builder
abbrev pub IsBelow : Builder → ℕ → Type 0
IsBelow b next = (rest : List Part) → StandsAt (rests_in b) next rest → NumbersFall b.repeats rest

-- a statement may be compiled before the rest of a position
pub record MayCompile (b : Builder) (next : ℕ) : Type 0 where
  pub in_step : IsInStep b
  pub there : next ≤ length b.spots.items
  pub below : IsBelow b next

-- a statement is compiled before the rest of a position, and begins at another
pub record Compiles (old new : Builder) (statement : Statement) (next entry : ℕ) : Type 0 where
  pub in_step : IsInStep new
  pub grows : Grows old new
  pub there : entry ≤ length new.spots.items
  pub opens : (rest : List Part) → StandsAt (rests_in old) next rest → StandsAt (rests_in new) entry (opened_parts statement rest)
  pub marks : marks_in new ≡ marks_in old ++ marks_of statement
  pub layout : (rest : List Part) → StandsAt (rests_in old) next rest → layout_in new ≡ laid_out statement rest (layout_in old)

-- the items of a case are compiled before the rest of a position
pub record CompilesItems (old new : Builder) (items : CaseItems) (next : ℕ) (positions : List ℕ) : Type 0 where
  pub in_step : IsInStep new
  pub grows : Grows old new
  pub lead : (rest : List Part) → StandsAt (rests_in old) next rest → ItemsLead (rests_in new) positions items rest
  pub marks : marks_in new ≡ marks_in old ++ marks_of_items items
  pub layout : (rest : List Part) → StandsAt (rests_in old) next rest → layout_in new ≡ laid_out_items items rest (layout_in old)

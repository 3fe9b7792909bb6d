-- The changes of a window by object (nothing of the language).
use Rattle.std.specs.Prelude.{ℕ, List, map}
use Rattle.vf_base.specs.Base.{object_number}
use Rattle.vf_base.specs.Lists.{map_numbered}
use Rattle.window_index.specs.declared.occurrence.Occurrence.{Occurrence}
use Rattle.window_index.specs.Moments.{IsIndexOf}
use Rattle.trace_window.specs.declared.change.Change.{Change}
use Rattle.trace_window.specs.Writes.{Written}

-- what contracts see of them: how many objects there are, and what was written, in order
pub record ChangesKept : Type 0 where
  pub count : ℕ
  pub writes : List Written

abbrev pub change_moment : Change → ℕ
change_moment change = change.moment

-- a write as an occurrence of its object
abbrev pub occurrence_of : Written → Occurrence
occurrence_of write = record { number = write.object; moment = write.moment }

-- a change as an occurrence of its object, at its moment or at its place among all
abbrev pub at_moment : Change → Occurrence
at_moment change = record { number = object_number change.object; moment = change.moment }

abbrev pub at_place : ℕ → Change → Occurrence
at_place place change = record { number = object_number change.object; moment = place }

-- some changes, the first of which has a place
abbrev pub at_places : ℕ → List Change → List Occurrence
at_places place changes = map_numbered at_place place changes

-- one index has the moments of the changes of each of so many objects, the other their places
pub record AreChanges (objects : ℕ) (changes : List Change) (moments places : List (List ℕ)) : Type 0 where
  pub moments_are : IsIndexOf objects (map at_moment changes) moments
  pub places_are : IsIndexOf objects (at_places 0 changes) places

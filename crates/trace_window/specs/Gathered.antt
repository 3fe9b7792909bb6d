-- What is gathered event by event (IEEE 1364-2001, clause 5).
use Rattle.std.specs.Prelude.{◌≡◌, ℕ, ◌+◌, ◌≤◌, List, [], ◌++◌, map, length, vec_len, vec_capacity}
use Rattle.v_design.specs.Accesses.{ObjectAccess}
use Rattle.v_design.specs.States.{Event}
use Rattle.trace_window.specs.Acted.{evaluations_from, steps_from}
use Rattle.trace_window.specs.Occurring.{below}
use Rattle.trace_window.specs.Touched.{touches_from}
use Rattle.trace_window.specs.Writes.{written_of, writes_from}
use Rattle.trace_window.specs.declared.list.EventList.{EventList}
use Rattle.trace_window.specs.declared.sizes.Sizes.{Sizes}

-- a list has some events more of a design of these sizes, which are given with their accesses; objects, nodes and processes that the design hasn't are left out
pub record Gathers (sizes : Sizes) (accesses : List (List ObjectAccess)) (events : List Event) (old new : EventList) : Type 0 where
  pub as_many : length events ≡ length accesses
  pub moment : new.moment ≡ old.moment + length accesses
  pub changes : map written_of new.changes.items ≡ map written_of old.changes.items ++ writes_from old.moment accesses
  pub touches : new.touches.items ≡ old.touches.items ++ below sizes.objects (touches_from old.moment accesses)
  pub evaluations : new.evaluations.items ≡ old.evaluations.items ++ below sizes.nodes (evaluations_from old.moment events)
  pub steps : new.steps.items ≡ old.steps.items ++ below sizes.processes (steps_from old.moment events)

-- a list has what another has
pub record IsSameList (old new : EventList) : Type 0 where
  pub moment : new.moment ≡ old.moment
  pub changes : new.changes.items ≡ old.changes.items
  pub touches : new.touches.items ≡ old.touches.items
  pub evaluations : new.evaluations.items ≡ old.evaluations.items
  pub steps : new.steps.items ≡ old.steps.items

-- a list has room for the events of another
pub record HasRoom (more list : EventList) : Type 0 where
  pub changes : vec_len list.changes + vec_len more.changes ≤ vec_capacity list.changes
  pub touches : vec_len list.touches + vec_len more.touches ≤ vec_capacity list.touches
  pub evaluations : vec_len list.evaluations + vec_len more.evaluations ≤ vec_capacity list.evaluations
  pub steps : vec_len list.steps + vec_len more.steps ≤ vec_capacity list.steps

-- a list has nothing, and its next event has a moment
pub record BeginsAt (moment : ℕ) (list : EventList) : Type 0 where
  pub moment_is : list.moment ≡ moment
  pub changes : list.changes.items ≡ []
  pub touches : list.touches.items ≡ []
  pub evaluations : list.evaluations.items ≡ []
  pub steps : list.steps.items ≡ []

-- the events of another list stand behind those of a list
pub record Joins (old more new : EventList) : Type 0 where
  pub moment : new.moment ≡ more.moment
  pub changes : new.changes.items ≡ old.changes.items ++ more.changes.items
  pub touches : new.touches.items ≡ old.touches.items ++ more.touches.items
  pub evaluations : new.evaluations.items ≡ old.evaluations.items ++ more.evaluations.items
  pub steps : new.steps.items ≡ old.steps.items ++ more.steps.items

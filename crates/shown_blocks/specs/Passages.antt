-- A block is passed from a place that is shown: what its changes and wakes come to (blocks by IEEE 1364-2001, clause 5; waits by clause 9.7).
use Rattle.std.specs.Prelude.{◌≡◌, ℕ, ◌+◌, List, ◌∷◌, ◌++◌, length}
use Rattle.std.specs.List.{list_any}
use Rattle.vf_base.specs.Lists.{has}
use Rattle.v_design.specs.Designs.{FlatDesign, TestPlan, good_machine}
use Rattle.v_design.specs.States.{State, Event}
use Rattle.v_design.specs.Runs.{happened}
use Rattle.trace_window.specs.Moments.{seen_from, window_events}
use Rattle.trace_window.specs.Touched.{event_writes}
use Rattle.block_changes.specs.Changes.{ends_wait_of}
use Rattle.moment_laws.specs.window_wakes.Wakes.{WakeTold, has_wake, woken_at}
use Rattle.moment_laws.specs.lockstep_slots.Places.{Place, state_there}
use Rattle.shown_blocks.specs.Blocks.{BlockAt}
use Rattle.moment_laws.specs.Places.{IsShownAt}
use Rattle.moment_laws.specs.Shown.{MomentKept}
use Rattle.moment_laws.specs.Steps.{untold, woken_within, PutsBlock, Takes}

-- the block at a place that is shown begins with an event and ends at a limit; its changes and wakes are put, and then what it takes is taken
pub record Passage (design : FlatDesign) (plan : TestPlan) (place : Place) (old put taken : MomentKept) (block rest : List Event) (first : Event) (limit : ℕ) (wakes : List WakeTold) : Type 0 where
  pub shown : IsShownAt design plan place old
  pub at : BlockAt (good_machine design) place block rest
  pub limit_is : limit ≡ old.moment + length block
  pub more : List Event
  pub begins : block ≡ first ∷ more
  pub puts : PutsBlock design plan limit wakes (untold old) put
  pub takes : Takes design plan first put taken
  pub each : (moment process : ℕ) → has_wake wakes moment process ≡ woken_at (good_machine design) (window_events design plan old.before old.through) process moment

-- the state behind it
abbrev pub behind : FlatDesign → Place → List Event → State
behind design place block = happened (good_machine design) place.phase.begins (place.passed ++ block)

-- the values are those behind the block; just the objects are told that it wrote, and just the processes are woken whose waits it ended
pub record PassagesTell : Type 0 where
  pub values : (design : FlatDesign) (plan : TestPlan) (place : Place) (old put taken : MomentKept) (block rest : List Event) (first : Event) (limit : ℕ) (wakes : List WakeTold) →
      Passage design plan place old put taken block rest first limit wakes → put.values ≡ (behind design place block).values
  pub changed : (design : FlatDesign) (plan : TestPlan) (place : Place) (old put taken : MomentKept) (block rest : List Event) (first : Event) (limit : ℕ) (wakes : List WakeTold) (object : ℕ) →
      Passage design plan place old put taken block rest first limit wakes →
      has put.changed object ≡ list_any (event_writes (good_machine design) object) (seen_from (good_machine design) (state_there (good_machine design) place) block)
  pub woken : (design : FlatDesign) (plan : TestPlan) (place : Place) (old put taken : MomentKept) (block rest : List Event) (first : Event) (limit : ℕ) (wakes : List WakeTold) (process : ℕ) →
      Passage design plan place old put taken block rest first limit wakes →
      has (woken_within old.moment limit wakes) process ≡ ends_wait_of (good_machine design) (state_there (good_machine design) place) block process

-- What the tables of a window tell of a stretch of a phase, and of the stretches among pairs of blocks (accesses by IEEE 1364-2001, clause 5).
use Rattle.std.specs.Prelude.{◌≡◌, ◌⊎◌, ◌&&◌, ℕ, ◌+◌, ◌<◌, ◌≤◌, Bool, true, false, List, [], ◌∷◌, ◌++◌, length, nat_eq}
use Rattle.vf_base.specs.Lists.{AllHold}
use Rattle.v_design.specs.Designs.{FlatDesign, Machine, StuckAt, TestPlan, good_machine, faulty_machine}
use Rattle.v_design.specs.States.{State, Event}
use Rattle.v_design.specs.Runs.{happened}
use Rattle.v_design.specs.Accesses.{AccessAct}
use Rattle.v_design.specs.PhaseLogs.{log_of}
use Rattle.trace_window.specs.Moments.{Seen, seen_from, window_events}
use Rattle.trace_window.specs.Touched.{is_touching, event_touches, event_writes, touched_at, written_at}
use Rattle.block_filter.specs.Blocks.{BlockPair, Alike, Unlike, good_phase, all_accesses}
use Rattle.free_objects.specs.Stretches.{NonePasses, IsUnwritten}
use Rattle.lockstep_race.specs.Alike.{PairsPassNone}
use Rattle.lockstep_race.specs.Reads.{ReadsObject}
use Rattle.lockstep_slots.specs.Places.{Place, state_there}
use Rattle.window_places.specs.Windows.{IsAtMoment}
use Rattle.window_tests.specs.Between.{NoMoment, SomeMoment, read_at}

-- One stretch

-- some events are the next ones at a place, which has a moment in a window
pub record IsStretchAt (design : FlatDesign) (plan : TestPlan) (begins ends first : ℕ) (place : Place) (events : List Event) : Type 0 where
  pub at : IsAtMoment design plan begins ends first place
  pub more : List Event
  pub left : place.left ≡ events ++ more

-- some events neither read nor write an object
abbrev pub IsUntouched : Machine → State → List Event → ℕ → Type 0
IsUntouched machine state events object = NonePasses (λ other act. nat_eq other object && is_touching act) machine state events

-- each of some events that reads or writes an object writes it
abbrev pub IsOnlyWrittenTo : Machine → State → List Event → ℕ → Type 0
IsOnlyWrittenTo machine state events object = AllHold (λ (seen : Seen). event_touches machine object seen ≡ true → event_writes machine object seen ≡ true) (seen_from machine state events)

-- Stretches among pairs of blocks

-- a fact of each stretch that both machines take, from the states of one machine
abbrev pub StretchesHold : (State → List Event → Type 0) → Machine → State → List BlockPair → Type 0
StretchesHold P machine state [] = Unit {0}
StretchesHold P machine state (Alike events ∷ pairs) = P state events × StretchesHold P machine (happened machine state events) pairs
StretchesHold P machine state (Unlike first ones others ∷ pairs) = StretchesHold P machine (happened machine state (first ∷ ones)) pairs

-- no access of the machine in them passes a test
abbrev pub StretchesPassNone : (ℕ → AccessAct → Bool) → Machine → State → List BlockPair → Type 0
StretchesPassNone test machine state pairs = StretchesHold (NonePasses test machine) machine state pairs

-- each of their events that reads or writes an object writes it
abbrev pub StretchesOnlyWrite : Machine → State → List BlockPair → ℕ → Type 0
StretchesOnlyWrite machine state pairs object = StretchesHold (λ (at : State) (events : List Event). IsOnlyWrittenTo machine at events object) machine state pairs

-- no access of a faulty machine in its own blocks passes a test
abbrev pub OwnBlocksPassNone : (ℕ → AccessAct → Bool) → Machine → State → List BlockPair → Type 0
OwnBlocksPassNone test machine state [] = Unit {0}
OwnBlocksPassNone test machine state (Alike events ∷ pairs) = OwnBlocksPassNone test machine (happened machine state events) pairs
OwnBlocksPassNone test machine state (Unlike first ones others ∷ pairs) =
    NonePasses test machine state (first ∷ others) × OwnBlocksPassNone test machine (happened machine state (first ∷ others)) pairs

-- a moment of the good machine lies in a stretch, where the pairs begin with a moment
abbrev pub IsInStretch : ℕ → List BlockPair → ℕ → Type 0
IsInStretch first [] moment = ⊥
IsInStretch first (Alike events ∷ pairs) moment = ((first ≤ moment) × (moment < first + length events)) ⊎ IsInStretch (first + length events) pairs moment
IsInStretch first (Unlike one ones others ∷ pairs) moment = IsInStretch (first + length (one ∷ ones)) pairs moment

-- the moments of the good machine's blocks beside own ones: that of the first event, and the one behind the last
abbrev pub own_spans : ℕ → List BlockPair → List (ℕ × ℕ)
own_spans first [] = []
own_spans first (Alike events ∷ pairs) = own_spans (first + length events) pairs
own_spans first (Unlike one ones others ∷ pairs) = (first, first + length (one ∷ ones)) ∷ own_spans (first + length (one ∷ ones)) pairs

-- a moment of a phase that lies in no such span
pub record IsOutside (first : ℕ) (pairs : List BlockPair) (moment : ℕ) : Type 0 where
  pub since : first ≤ moment
  pub before : moment < first + length (good_phase pairs)
  pub outside : AllHold (λ (span : ℕ × ℕ). (moment < span.0) ⊎ (span.1 ≤ moment)) (own_spans first pairs)

-- The laws

-- what none of the moments of a stretch passes tells what its events don't do; and one that reads tells of a read
pub record StretchesAreTold : Type 0 where
  pub untouched : (design : FlatDesign) (plan : TestPlan) (begins ends first : ℕ) (place : Place) (events : List Event) (object : ℕ) → IsStretchAt design plan begins ends first place events →
      NoMoment (touched_at (good_machine design) (window_events design plan begins ends) object) first (first + length events) →
      IsUntouched (good_machine design) (state_there (good_machine design) place) events object
  pub unwritten : (design : FlatDesign) (plan : TestPlan) (begins ends first : ℕ) (place : Place) (events : List Event) (object : ℕ) → IsStretchAt design plan begins ends first place events →
      NoMoment (written_at (good_machine design) (window_events design plan begins ends) object) first (first + length events) →
      IsUnwritten (good_machine design) (state_there (good_machine design) place) events object
  pub unread : (design : FlatDesign) (plan : TestPlan) (begins ends first : ℕ) (place : Place) (events : List Event) (object : ℕ) → IsStretchAt design plan begins ends first place events →
      NoMoment (read_at (good_machine design) (window_events design plan begins ends) object) first (first + length events) →
      IsOnlyWrittenTo (good_machine design) (state_there (good_machine design) place) events object
  pub reads : (design : FlatDesign) (plan : TestPlan) (begins ends first : ℕ) (place : Place) (events : List Event) (object : ℕ) → IsStretchAt design plan begins ends first place events →
      SomeMoment (read_at (good_machine design) (window_events design plan begins ends) object) first (first + length events) →
      ReadsObject (all_accesses (log_of (good_machine design) (state_there (good_machine design) place) events)) object

-- the same of the stretches among pairs of blocks
pub record PairsAreTold : Type 0 where
  pub untouched : (design : FlatDesign) (plan : TestPlan) (begins ends first : ℕ) (place : Place) (pairs : List BlockPair) (object : ℕ) →
      IsStretchAt design plan begins ends first place (good_phase pairs) →
      ((moment : ℕ) → IsInStretch first pairs moment → touched_at (good_machine design) (window_events design plan begins ends) object moment ≡ false) →
      StretchesPassNone (λ other act. nat_eq other object && is_touching act) (good_machine design) (state_there (good_machine design) place) pairs
  pub unwritten : (design : FlatDesign) (plan : TestPlan) (begins ends first : ℕ) (place : Place) (pairs : List BlockPair) (object : ℕ) →
      IsStretchAt design plan begins ends first place (good_phase pairs) →
      ((moment : ℕ) → IsInStretch first pairs moment → written_at (good_machine design) (window_events design plan begins ends) object moment ≡ false) →
      StretchesHold (λ (at : State) (events : List Event). IsUnwritten (good_machine design) at events object) (good_machine design) (state_there (good_machine design) place) pairs
  pub unread : (design : FlatDesign) (plan : TestPlan) (begins ends first : ℕ) (place : Place) (pairs : List BlockPair) (object : ℕ) →
      IsStretchAt design plan begins ends first place (good_phase pairs) →
      ((moment : ℕ) → IsInStretch first pairs moment → read_at (good_machine design) (window_events design plan begins ends) object moment ≡ false) →
      StretchesOnlyWrite (good_machine design) (state_there (good_machine design) place) pairs object
  -- a moment in a stretch lies in no own block's span
  pub outside : (first : ℕ) (pairs : List BlockPair) (moment : ℕ) → IsInStretch first pairs moment → IsOutside first pairs moment
  -- what none of the stretches does, and none of the own blocks, none of the pairs does
  pub parts : (test : ℕ → AccessAct → Bool) (design : FlatDesign) (fault : StuckAt) (good faulty : State) (pairs : List BlockPair) → StretchesPassNone test (good_machine design) good pairs →
      OwnBlocksPassNone test (faulty_machine design fault) faulty pairs → PairsPassNone test design fault good faulty pairs

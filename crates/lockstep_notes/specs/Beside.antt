-- A block of the good machine beside one of the faulty machine's own, and what the marks take in of both (accesses by IEEE 1364-2001, clause 5).
use Rattle.std.specs.Prelude.{◌≡◌, ◌+◌, ℕ, true, List, ◌∷◌, ◌++◌, length, map}
use Rattle.std.specs.List.{list_any}
use Rattle.vf_base.specs.Base.{object_number}
use Rattle.vf_base.specs.Lists.{AllHold, has}
use Rattle.vf_base.specs.declared.ids.ObjectId.{ObjectId}
use Rattle.v_design.specs.Designs.{FlatDesign, StuckAt, TestPlan, good_machine, faulty_machine}
use Rattle.v_design.specs.States.{State, Event}
use Rattle.v_design.specs.Runs.{happened}
use Rattle.v_design.specs.Logs.{phase_changes}
use Rattle.v_design.specs.PhaseLogs.{log_of}
use Rattle.block_filter.specs.Likes.{Marks}
use Rattle.block_filter.specs.Blocks.{all_accesses, ReachesSuspects, IsSuspectOrMet}
use Rattle.trace_window.specs.Moments.{seen_from}
use Rattle.trace_window.specs.Touched.{event_writes}
use Rattle.window_tests.specs.lockstep_slots.Places.{Place, state_there}
use Rattle.window_tests.specs.window_places.Windows.{IsAtMoment}

-- blocks of both machines begin with one event
pub record BeginAlike (ones others : List Event) : Type 0 where
  pub first : Event
  pub good_rest : List Event
  pub own_rest : List Event
  pub good_is : ones ≡ first ∷ good_rest
  pub own_is : others ≡ first ∷ own_rest

-- a block of the good machine, from a place to before a moment of a window: what it writes is among some objects, and the state behind it is shown
pub record IsGoodBlock (design : FlatDesign) (plan : TestPlan) (begins ends first end : ℕ) (written : List ObjectId) (shows : State → Type 0) (place : Place) (ones more : List Event) : Type 0 where
  pub at : IsAtMoment design plan begins ends first place
  pub left : place.left ≡ ones ++ more
  pub end_is : end ≡ first + length ones
  pub writes : (object : ℕ) → list_any (event_writes (good_machine design) object) (seen_from (good_machine design) (state_there (good_machine design) place) ones) ≡ true →
      has (map object_number written) object ≡ true
  pub shown : shows (happened (good_machine design) (state_there (good_machine design) place) ones)

-- the marks take in what blocks of both machines do: what they change reaches suspect net pieces alone, and each access of the faulty machine's is of a suspect object, or of a met one with its like
-- (of `TakeIn` all but the causes)
pub record TakesIn (design : FlatDesign) (fault : StuckAt) (marks : Marks) (good faulty : State) (ones others : List Event) : Type 0 where
  pub good_reaches : AllHold (ReachesSuspects design marks) (phase_changes design (log_of (good_machine design) good ones))
  pub own_reaches : AllHold (ReachesSuspects design marks) (phase_changes design (log_of (faulty_machine design fault) faulty others))
  pub accesses :
      AllHold (IsSuspectOrMet marks (all_accesses (log_of (good_machine design) good ones))) (all_accesses (log_of (faulty_machine design fault) faulty others))

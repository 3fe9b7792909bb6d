-- A block of each machine by what is told of it: which objects it writes, which processes step, themselves or their lanes, and whose waits end (events by IEEE 1364-2001, clause 5).
use Rattle.std.specs.Prelude.{◌≡◌, ℕ, ◌+◌, ◌≤◌, ◌||◌, List, [], ◌∷◌, ◌++◌, sum_by}
use Rattle.vf_base.specs.Lists.{AllHold}
use Rattle.v_design.specs.Designs.{FlatDesign, StuckAt, good_machine, faulty_machine}
use Rattle.v_design.specs.States.{State, Event}
use Rattle.v_design.specs.Runs.{FirstSlot, happened, most_steps}
use Rattle.v_design.specs.Logs.{phase_changes}
use Rattle.v_design.specs.PhaseLogs.{log_of}
use Rattle.machine_laws.specs.SlotLoop.{Moment, steps_of, after_events}
use Rattle.copy_laws.specs.Moves.{Parts}
use Rattle.block_filter.specs.Likes.{Marks}
use Rattle.block_filter.specs.Blocks.{BlockPair, all_accesses, ReachesSuspects, IsSuspectOrMet}
use Rattle.block_changes.specs.Changes.{steps_process, steps_lane, ends_wait_of, parts_changed}
use Rattle.phase_blocks.specs.Blocks.{IsWholeBlock}
use Rattle.lockstep_laws.specs.Blocks.{either_parts}
use Rattle.lockstep_slots.specs.Kept.{LockstepKept}
use Rattle.lockstep_slots.specs.Pairs.{unlike_pair}
use Rattle.lockstep_slots.specs.Places.{Place, state_there, steps_left, behind_events}
use Rattle.lockstep_slots.specs.Standing.{StandsInLockstep, AreCompared}

-- the parts that either block changes
abbrev pub parts_told : FlatDesign → StuckAt → State → State → List Event → List Event → Parts
parts_told design fault good faulty ones others = either_parts (parts_changed (good_machine design) good ones) (parts_changed (faulty_machine design fault) faulty others)

-- what the comparison of two blocks finds: in the parts that either changes; they step or wake the same processes, and step the same lanes; and the marks take in what they do
pub record BlocksAreTold (design : FlatDesign) (fault : StuckAt) (marks : Marks) (good faulty : State) (ones others : List Event) (old new : LockstepKept) : Type 0 where
  pub compared : AreCompared (parts_told design fault good faulty ones others) (happened (good_machine design) good ones) (happened (faulty_machine design fault) faulty others) old new
  pub steps : (process : ℕ) →
      (steps_process ones process || ends_wait_of (good_machine design) good ones process) ≡ (steps_process others process || ends_wait_of (faulty_machine design fault) faulty others process)
  pub lanes : (process : ℕ) → steps_lane ones process ≡ steps_lane others process
  pub good_reaches : AllHold (ReachesSuspects design marks) (phase_changes design (log_of (good_machine design) good ones))
  pub own_reaches : AllHold (ReachesSuspects design marks) (phase_changes design (log_of (faulty_machine design fault) faulty others))
  pub accesses :
      AllHold (IsSuspectOrMet marks (all_accesses (log_of (good_machine design) good ones))) (all_accesses (log_of (faulty_machine design fault) faulty others))

-- each machine takes a block of its own, and what is told of both is all that has to be known of them
abbrev pub ToldBlocksRun : Type 0
ToldBlocksRun =
    (design : FlatDesign) (fault : StuckAt) (slot : FirstSlot) (begins : State) (place : Place) (own : Moment) (pairs : List BlockPair) (marks : Marks) (old new : LockstepKept)
    (ones more others : List Event) → StandsInLockstep design fault slot begins place own pairs marks old → place.left ≡ ones ++ more →
    IsWholeBlock (good_machine design) (state_there (good_machine design) place) ones → IsWholeBlock (faulty_machine design fault) own.state others →
    BlocksAreTold design fault marks (state_there (good_machine design) place) own.state ones others old new →
    own.steps + sum_by steps_of others + steps_left (behind_events ones more place) ≤ most_steps →
    StandsInLockstep design fault slot begins (behind_events ones more place) (after_events (faulty_machine design fault) others own) (pairs ++ unlike_pair ones others ∷ []) marks new

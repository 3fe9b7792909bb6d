-- Pairs of blocks of both machines in a phase in lockstep, and what marks have to take in of them, so that the phase has no race (conflicts and causes by IEEE 1364-2001, clause 5).
use Rattle.std.specs.Prelude.{◌≡◌, ℕ, true, false, List, [], ◌∷◌}
use Rattle.vf_base.specs.Lists.{AllHold}
use Rattle.v_design.specs.Designs.{FlatDesign, StuckAt, good_machine, faulty_machine}
use Rattle.v_design.specs.States.{State, Event, Step, LaneStep}
use Rattle.v_design.specs.Logs.{PhaseAccess, phase_changes, log_accesses, conflict}
use Rattle.v_design.specs.PhaseLogs.{log_of}
use Rattle.copy_laws.specs.Filter.{IsIn}
use Rattle.block_filter.specs.Likes.{Marks}
use Rattle.block_filter.specs.Blocks.{BlockPair, Alike, Unlike, faulty_phase, may_cause_later, all_accesses, ReachesSuspects, IsSuspectOrMet}
use Rattle.block_filter.specs.Suffice.{ObjectIsFree, WaitsAreAwaited, AreLeft}

-- a block of each machine, both of which begin with one event, as a pair
abbrev pub unlike_pair : List Event → List Event → BlockPair
unlike_pair [] others = Alike []
unlike_pair (first ∷ ones) [] = Alike (first ∷ ones)
unlike_pair (first ∷ ones) (other ∷ others) = Unlike first ones others

-- the marks take in what blocks of both machines do: what they change reaches suspect net pieces alone, later steps may have their causes in the one just where they may in the other, and each
-- access of the faulty machine's is of a suspect object, or of a met one with its like in the good machine's
pub record TakeIn (design : FlatDesign) (fault : StuckAt) (marks : Marks) (good faulty : State) (ones others : List Event) : Type 0 where
  pub good_reaches : AllHold (ReachesSuspects design marks) (phase_changes design (log_of (good_machine design) good ones))
  pub own_reaches : AllHold (ReachesSuspects design marks) (phase_changes design (log_of (faulty_machine design fault) faulty others))
  pub steps : (process : ℕ) → may_cause_later (good_machine design) good ones (Step process) ≡ may_cause_later (faulty_machine design fault) faulty others (Step process)
  pub lanes : (process : ℕ) → may_cause_later (good_machine design) good ones (LaneStep process) ≡ may_cause_later (faulty_machine design fault) faulty others (LaneStep process)
  pub accesses :
      AllHold (IsSuspectOrMet marks (all_accesses (log_of (good_machine design) good ones))) (all_accesses (log_of (faulty_machine design fault) faulty others))

-- nothing is marked, and every entry may be waited on
abbrev pub no_marks : Marks
no_marks = record { suspect = λ object. false; met = λ object. false; awaited = λ entry. true }

-- what the marks leave open of the faulty machine's phase: accesses of suspect objects, and of met ones from an own block on, don't conflict
pub record LeavesNoConflict (design : FlatDesign) (fault : StuckAt) (marks : Marks) (faulty : State) (pairs : List BlockPair) : Type 0 where
  pub waits : WaitsAreAwaited design marks (log_of (faulty_machine design fault) faulty (faulty_phase pairs))
  pub suspects : (object : ℕ) → marks.suspect object ≡ true → ObjectIsFree design (log_of (faulty_machine design fault) faulty (faulty_phase pairs)) object
  pub others : (first second : PhaseAccess) → IsIn first (log_accesses design (log_of (faulty_machine design fault) faulty (faulty_phase pairs))) →
      IsIn second (log_accesses design (log_of (faulty_machine design fault) faulty (faulty_phase pairs))) → AreLeft marks pairs first second →
      conflict (log_of (faulty_machine design fault) faulty (faulty_phase pairs)) first second ≡ false

-- so it is where nothing is marked
abbrev pub NoMarksLeaveNone : Type 0
NoMarksLeaveNone = (design : FlatDesign) (fault : StuckAt) (faulty : State) (pairs : List BlockPair) → LeavesNoConflict design fault no_marks faulty pairs

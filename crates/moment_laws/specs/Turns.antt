-- A turn within a slot: the state in which the next phase begins is shown (turns by IEEE 1364-2001, clauses 5.3 and 5.4; nonblocking updates by clause 9.2.2).
use Rattle.std.specs.Prelude.{◌≡◌, ℕ, ◌+◌, ◌<◌, true, false, List, [], ◌∷◌, length, get_or}
use Rattle.std.specs.List.{list_any}
use Rattle.v_design.specs.Designs.{FlatDesign, TestPlan}
use Rattle.v_design.specs.Grades.{Phase}
use Rattle.process_code.specs.declared.code.Code.{Code}
use Rattle.process_code.specs.declared.state.ProcState.{ProcState}
use Rattle.run_ends.specs.RunEnds.{AreCodesOf}
use Rattle.between_slots.specs.Between.{window_phases}
use Rattle.lockstep_slots.specs.Places.{Place}
use Rattle.moment_parts.specs.Turned.{at_postponed, AreWokenWhere, left_pending, activated}
use Rattle.moment_laws.specs.Passing.{HasTurn, TakesTurn}
use Rattle.moment_laws.specs.Places.{IsShownAt}
use Rattle.moment_laws.specs.Shown.{MomentKept}

-- the postponed processes are made ready, where there are some
pub record ResumesAll (old new : MomentKept) : Type 0 where
  pub some : list_any (λ (state : ProcState). at_postponed state.stage) old.states ≡ true
  pub states : AreWokenWhere at_postponed old.states new.states
  pub later : new.later ≡ old.later
  pub lanes : new.lanes ≡ old.lanes

-- the updates that are due are activated, where no process is postponed
pub record ActivatesAll (now : ℕ) (old new : MomentKept) : Type 0 where
  pub none : list_any (λ (state : ProcState). at_postponed state.stage) old.states ≡ false
  pub states : new.states ≡ old.states
  pub later_count : length new.later ≡ length old.later
  pub lane_count : length new.lanes ≡ length old.lanes
  pub later : (process : ℕ) → get_or new.later process [] ≡ left_pending now (get_or old.later process [])
  pub lanes : (process : ℕ) → get_or new.lanes process [] ≡ activated now (get_or old.later process [])

-- and what stays
pub record SameButTurned (old new : MomentKept) : Type 0 where
  pub before : new.before ≡ old.before
  pub through : new.through ≡ old.through
  pub slot : new.slot ≡ old.slot
  pub phase : new.phase ≡ old.phase + 1
  pub moment : new.moment ≡ old.moment
  pub time : new.time ≡ old.time
  pub values : new.values ≡ old.values
  pub runs : new.runs ≡ old.runs
  pub ran_count : length new.ran ≡ length old.ran
  pub ran : (process : ℕ) → get_or new.ran process 0 ≡ 0

pub record TurnsAreShown : Type 0 where
  pub resumes : (design : FlatDesign) (plan : TestPlan) (codes : List Code) (place : Place) (next : Phase) (later : List Phase) (old new : MomentKept) → AreCodesOf design codes →
      IsShownAt design plan place old → place.left ≡ [] → place.later ≡ next ∷ later → SameButTurned old new → ResumesAll old new → TakesTurn design plan place next later old new
  pub activates : (design : FlatDesign) (plan : TestPlan) (codes : List Code) (place : Place) (next : Phase) (later : List Phase) (old new : MomentKept) → AreCodesOf design codes →
      IsShownAt design plan place old → place.left ≡ [] → place.later ≡ next ∷ later → SameButTurned old new → ActivatesAll old.time old new → TakesTurn design plan place next later old new
  -- there is a phase more in the window
  pub fits : (design : FlatDesign) (plan : TestPlan) (kept : MomentKept) → HasTurn design plan kept → kept.phase + 1 < length (window_phases design plan kept.before kept.through)

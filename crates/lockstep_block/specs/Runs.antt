-- The good machine's runs beside a block of the faulty machine's own, and how many runs of each process ended (phases and blocks by IEEE 1364-2001, clause 5; process runs by clause 9).
use Rattle.std.specs.Prelude.{◌≡◌, ℕ, ◌+◌, List, ◌++◌, length}
use Rattle.v_design.specs.Designs.{FlatDesign, TestPlan, good_machine}
use Rattle.v_design.specs.OwnSteps.{process_runs}
use Rattle.v_design.specs.States.{Event}
use Rattle.window_runs.specs.OfPhase.{TellsRuns}
use Rattle.faulty_block.specs.block_runner.declared.goods.GoodPhase.{GoodPhase}
use Rattle.run_numbers.specs.Numbers.{good_more, own_more, times_of}
use Rattle.run_numbers.specs.declared.numbers.RunApart.{RunApart}
use Rattle.good_moment.specs.moment_laws.Passing.{SameSlot}
use Rattle.good_moment.specs.moment_laws.Places.{IsInWindow, IsShownAt}
use Rattle.good_moment.specs.moment_laws.Shown.{MomentKept}
use Rattle.lockstep_steps.specs.lockstep_slots.Places.{Place, behind_events}

-- a moment of a window shows a place
pub record IsPlaceShown (design : FlatDesign) (plan : TestPlan) (from until : ℕ) (before : MomentKept) : Type 0 where
  pub place : Place
  pub within : IsInWindow from until before
  pub shown : IsShownAt design plan place before

-- two moments of a window show a place, and the one behind some events of its phase
pub record ArePlacesShown (design : FlatDesign) (plan : TestPlan) (from until : ℕ) (before behind : MomentKept) : Type 0 where
  pub place : Place
  pub block : List Event
  pub rest : List Event
  pub within : IsInWindow from until before
  pub parts : place.left ≡ block ++ rest
  pub before_at : IsShownAt design plan place before
  pub behind_at : IsShownAt design plan (behind_events block rest place) behind
  pub same : SameSlot before behind

-- the good machine's runs of the phase of a place, how many of each process ended before it by a moment, which runs one machine alone ended, and the number of the phase in its slot
pub record IsGoodPhase (design : FlatDesign) (place : Place) (before : MomentKept) (apart : List RunApart) (kept : GoodPhase) : Type 0 where
  pub tells : TellsRuns design place.phase.begins.time (λ process. process_runs (good_machine design) process place.phase) kept.goods
  pub ran_is : kept.numbers.ran.now ≡ before.ran
  pub apart_is : kept.numbers.apart.now ≡ apart
  pub phase_is : kept.phase ≡ length place.ended

-- of each process so many runs more ended in the one machine, and so many in the other
abbrev pub NotesEnded : List RunApart → List RunApart → List ℕ → List ℕ → Type 0
NotesEnded old new own good = (process : ℕ) → own_more new process + (good_more old process + times_of process good) ≡ (own_more old process + times_of process own) + good_more new process

-- A block is passed: what it takes is there, and the state behind it is shown (blocks by IEEE 1364-2001, clause 5).
use Rattle.std.specs.Prelude.{◌≡◌, ℕ, List, ◌∷◌}
use Rattle.v_design.specs.Designs.{FlatDesign, TestPlan, good_machine}
use Rattle.v_design.specs.States.{Event}
use Rattle.shown_blocks.specs.window_wakes.Wakes.{WakeTold}
use Rattle.shown_blocks.specs.lockstep_slots.Places.{Place}
use Rattle.shown_blocks.specs.Blocks.{BlockAt}
use Rattle.shown_blocks.specs.moment_laws.Passing.{PassesBlock}
use Rattle.shown_blocks.specs.moment_laws.Places.{IsShownAt}
use Rattle.shown_blocks.specs.moment_laws.Shown.{MomentKept}
use Rattle.shown_blocks.specs.moment_laws.Steps.{untold, PutsBlock, CanTake}
use Rattle.shown_blocks.specs.Passages.{Passage}

-- what is shown at a moment of the window, all else as it is
abbrev pub at_moment : ℕ → MomentKept → MomentKept
at_moment moment kept = record kept { moment = moment }

-- what a block takes that begins with an event is there, behind its changes and wakes
abbrev pub BlocksCanBeTaken : Type 0
BlocksCanBeTaken =
    (design : FlatDesign) (plan : TestPlan) (place : Place) (old put : MomentKept) (block rest more : List Event) (first : Event) (limit : ℕ) (wakes : List WakeTold) →
    IsShownAt design plan place old → BlockAt (good_machine design) place block rest → block ≡ first ∷ more → PutsBlock design plan limit wakes (untold old) put → CanTake design plan first put

-- and when it is taken, the block was passed
abbrev pub BlocksArePassed : Type 0
BlocksArePassed =
    (design : FlatDesign) (plan : TestPlan) (place : Place) (old put taken : MomentKept) (block rest : List Event) (first : Event) (limit : ℕ) (wakes : List WakeTold) →
    Passage design plan place old put taken block rest first limit wakes → PassesBlock design plan place old (at_moment limit taken)

-- A slot of a faulty machine run beside the good machine's slot of its time (slots by IEEE 1364-2001, clause 5).
use Rattle.std.specs.Prelude.{◌≡◌, ℕ, ◌+◌, List, Option, Some}
use Rattle.v_design.specs.Designs.{Machine, good_machine}
use Rattle.v_design.specs.Grades.{Phase}
use Rattle.v_design.specs.OwnSteps.{ProcessRun}
use Rattle.v_design.specs.States.{State}
use Rattle.machine_events.specs.Steps.{raised_by}
use Rattle.own_counts.specs.Counts.{AtMostOwn}
use Rattle.own_slots.specs.Slots.{WereTried}
use Rattle.good_runs.specs.declared.tried.TriedStep.{TriedStep}
use Rattle.window_runs.specs.OfSlot.{TellsSlot}
use Rattle.window_runs.specs.declared.slot.SlotRuns.{SlotRuns}

-- the next slot, if there is one, may be run beside these runs of the good machine, where these steps were tried in it before
abbrev pub MayGoBeside : Machine → Option State → SlotRuns → List TriedStep → Type 0
MayGoBeside machine next goods tried =
    (others : List Phase) × ((begins : State) → next ≡ Some begins →
    TellsSlot machine.design begins.time others goods × WereTried (good_machine machine.design) machine others begins tried)

-- a counter ticked at most once for each own step of these runs, where so many were tried before
abbrev pub TicksAtMostOwn : List (Option ProcessRun × ProcessRun) → ℕ → ℕ → ℕ → Type 0
TicksAtMostOwn pairs tried before now = (ticked : ℕ) × (now ≡ raised_by ticked before) × AtMostOwn pairs (ticked + tried)

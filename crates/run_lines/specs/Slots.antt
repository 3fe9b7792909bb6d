-- The lines of a slot, phase by phase (the format is this program's own; slots and phases by IEEE 1364-2001, clause 5).
use Rattle.std.specs.Prelude.{◌≡◌, ℕ, zero, suc, ◌+◌, List, [], ◌∷◌, ◌++◌}
use Rattle.vf_base.specs.Lists.{AllHold}
use Rattle.v_design.specs.Designs.{Machine}
use Rattle.v_design.specs.States.{Event}
use Rattle.v_design.specs.Runs.{FirstSlot}
use Rattle.v_design.specs.Grades.{phases}
use Rattle.causal_monitor.specs.declared.slot.Turn.{Turn}
use Rattle.causal_monitor.specs.declared.slot.SlotLog.{SlotLog}
use Rattle.slot_record.specs.SlotLogs.{IsSlotLog}
use Rattle.cert_laws.specs.Replays.{RunLine, SlotAt, PhaseNumber}
use Rattle.cert_laws.specs.Written.{slot_lines}
use Rattle.cert_text.specs.Fits.{RunFits}
use Rattle.run_lines.specs.Open.{lines_text, with_events}

-- the line with which the phase of a place in a slot of a time begins
abbrev pub first_line : ℕ → ℕ → RunLine
first_line time zero = SlotAt time
first_line time (suc place) = PhaseNumber (suc place + 1)

-- the lines of a phase
abbrev pub phase_lines : ℕ → ℕ → List Event → List RunLine
phase_lines time place events = first_line time place ∷ with_events events []

-- the lines of phases, the first of them of a place
abbrev pub phases_lines : ℕ → ℕ → List (List Event) → List RunLine
phases_lines time place [] = []
phases_lines time place (events ∷ rest) = phase_lines time place events ++ phases_lines time (place + 1) rest

-- the text of the lines of the slot whose log it is was added, and their numbers fit
abbrev pub AddsLinesOf : SlotLog → List ℕ → List ℕ → Type 0
AddsLinesOf log old new =
    (machine : Machine) (first : Turn) (slot : FirstSlot) → IsSlotLog machine first (phases machine slot) log → log.time ≡ slot.begins.time →
    (new ≡ old ++ lines_text (slot_lines slot)) × AllHold RunFits (slot_lines slot)

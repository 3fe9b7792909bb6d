-- A machine's first run as it is written (slots by IEEE 1364-2001, clause 5).
use Rattle.std.specs.Prelude.{◌≡◌, ℕ, List, ◌++◌, Some}
use Rattle.vf_base.specs.Lists.{AllHold}
use Rattle.v_design.specs.Designs.{Machine}
use Rattle.v_design.specs.States.{State}
use Rattle.v_design.specs.Runs.{FirstSlot}
use Rattle.order_laws.specs.FirstRuns.{Follow, Rise}
use Rattle.machine_laws.specs.SlotLoop.{slot_from}
use Rattle.machine.specs.Standing.{IsStanding, machine_kept, begins_next, begun_within, following}
use Rattle.machine.specs.declared.parts.Machine.{Machine as Simulated}
use Rattle.cert_laws.specs.Replays.{RunLine}
use Rattle.cert_laws.specs.Written.{slot_lines}
use Rattle.cert_text.specs.Fits.{RunFits}
use Rattle.run_lines.specs.Open.{lines_text}

-- the text of some lines of a run was added, and their numbers fit
abbrev pub AddsLines : List RunLine → List ℕ → List ℕ → Type 0
AddsLines lines old new = (new ≡ old ++ lines_text lines) × AllHold RunFits lines

-- the next slot of a machine, at a time, was run, and its lines were added
pub record AddsSlot (machine : Machine) (time : ℕ) (old new : Simulated) (before after : List ℕ) : Type 0 where
  pub same_machine : machine_kept new ≡ machine
  pub standing : IsStanding new
  pub begins : State
  pub begins_is : begins_next old ≡ Some begins
  pub time_is : begins.time ≡ time
  pub next_is : begins_next new ≡ following machine (slot_from machine begins)
  pub adds : AddsLines (slot_lines (slot_from machine begins)) before after

-- a machine stands in its first run, and these slots are left of it up to an end
pub record IsLeft (machine : Machine) (end : ℕ) (m : Simulated) (slots : List FirstSlot) : Type 0 where
  pub same_machine : machine_kept m ≡ machine
  pub standing : IsStanding m
  pub follow : Follow machine end (begun_within end (begins_next m)) slots
  pub rise : Rise slots

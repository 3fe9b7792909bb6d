-- The blocks of slots of the good first run (slots by IEEE 1364-2001, clause 5).
use Rattle.std.specs.Prelude.{◌≡◌, ℕ, ◌^◌, ◌<◌, ◌≤◌, false, List, [], map, length, Some, slice_get}
use Rattle.vf_base.specs.Lists.{AllHold}
use Rattle.v_design.specs.Designs.{FlatDesign, TestPlan, Machine, good_machine}
use Rattle.v_design.specs.Grades.{Phase, phases}
use Rattle.v_design.specs.Runs.{FirstSlot, is_hyper}
use Rattle.v_design.specs.States.{Event}
use Rattle.v_design.specs.WellFormed.{KeepsRules}
use Rattle.copy_laws.specs.Beside.{AreFirst}
use Rattle.copy_laws.specs.Windows.{good_slots}
use Rattle.between_slots.specs.Between.{window_phases}
use Rattle.causal_monitor.specs.declared.slot.SlotLog.{SlotLog}
use Rattle.causal_monitor.specs.declared.slot.Turn.{Turn}
use Rattle.slot_record.specs.Records.{event_of}
use Rattle.slot_record.specs.SlotLogs.{IsSlotLog}
use Rattle.window_blocks.specs.Blocks.{AreBlockMoments, AreFirstEvents, ArePhaseEnds}
use Rattle.window_blocks.specs.Gathered.{all_beginnings, all_firsts, all_ends, moment_behind, phase_events}
use Rattle.window_blocks.specs.declared.table.BlockTable.{BlockTable}

-- what contracts see of them: how many slots stand before them, and before their end; the moment with which each block begins, and its first event; and the moment at which each phase ends
pub record BlocksKept : Type 0 where
  pub before : ℕ
  pub through : ℕ
  pub moments : List ℕ
  pub firsts : List Event
  pub ends : List ℕ

-- no slot behind so many
abbrev pub no_blocks : ℕ → BlocksKept
no_blocks number = record { before = number; through = number; moments = []; firsts = []; ends = [] }

-- a log is that of the slot of the good first run before which so many stand, and that isn't hyperactive
pub record IsLoggedAt (design : FlatDesign) (plan : TestPlan) (number : ℕ) (log : SlotLog) : Type 0 where
  pub slot : FirstSlot
  pub stands : slice_get (good_slots design plan) number ≡ Some slot
  pub first : Turn
  pub logged : IsSlotLog (good_machine design) first (phases (good_machine design) slot) log
  pub few_steps : is_hyper slot ≡ false

-- the blocks of the slots from one number to before another are these, and their phases end so
pub record AreBlocksOf (design : FlatDesign) (plan : TestPlan) (kept : BlocksKept) : Type 0 where
  pub moments : AreBlockMoments (good_machine design) (window_phases design plan kept.before kept.through) kept.moments
  pub firsts : AreFirstEvents (window_phases design plan kept.before kept.through) kept.moments kept.firsts
  pub ends : ArePhaseEnds (window_phases design plan kept.before kept.through) kept.ends

-- a phase takes the events of the first order
abbrev pub IsInOrder : Machine → Phase → Type 0
IsInOrder machine phase = AreFirst machine phase.begins phase.events

-- all that is kept of these slots
pub record KeepsBlocks (design : FlatDesign) (plan : TestPlan) (before through : ℕ) (table : BlockTable) : Type 0 where
  pub rules : KeepsRules design
  pub run_fits : length (good_slots design plan) < 2 ^ 63
  pub order : before ≤ through
  pub in_order : AllHold (IsInOrder (good_machine design)) (window_phases design plan before through)
  pub moments_are : table.moments.items ≡ all_beginnings 0 (phase_events (window_phases design plan before through))
  pub firsts_are : map event_of table.actors.items ≡ all_firsts (phase_events (window_phases design plan before through))
  pub ends_are : table.ends.items ≡ all_ends 0 (phase_events (window_phases design plan before through))
  pub moment_is : table.moment ≡ moment_behind 0 (phase_events (window_phases design plan before through))

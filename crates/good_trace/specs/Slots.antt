-- A slot of the good first run as it is pushed, and when and how a window ends (slots by IEEE 1364-2001, clause 5).
use Rattle.std.specs.Prelude.{◌≡◌, ℕ, Bool, true, false, ◌||◌, List, Some, nat_eq, nat_le, slice_get}
use Rattle.vf_base.specs.Base.{reported_pair}
use Rattle.vf_base.specs.declared.limits.TheConstants.{WINDOW_SLOTS, WINDOW_STEPS}
use Rattle.v_design.specs.Designs.{FlatDesign, TestPlan, good_machine}
use Rattle.v_design.specs.Runs.{FirstSlot, is_hyper}
use Rattle.v_design.specs.Grades.{phases}
use Rattle.causal_monitor.specs.declared.slot.SlotLog.{SlotLog}
use Rattle.causal_monitor.specs.declared.slot.Turn.{Turn}
use Rattle.causal_monitor.specs.declared.slot.Turn.TheVariants.{Start, Time}
use Rattle.slot_record.specs.SlotLogs.{IsSlotLog}
use Rattle.process_code.specs.declared.code.Code.{Code}
use Rattle.process_code.specs.declared.state.RunEnd.{RunEnd}
use Rattle.run_ends.specs.RunEnds.{AreRunEnds}
use Rattle.copy_laws.specs.Windows.{WindowEnd, IsOpen, IsThrough, IsRaced, good_slots}
use Rattle.good_trace.specs.declared.ending.GoodEnd.{GoodEnd}
use Rattle.good_trace.specs.declared.ending.GoodEnd.TheVariants as ends

-- the turn before the first phase of the slot of a number
abbrev pub first_turn : ℕ → Turn
first_turn number = elim (nat_eq number 0) [ true ↦ Start | false ↦ Time ]

-- a slot's log and its runs' ends are those of the slot of the good first run before which so many slots stand
pub record IsSlotAt (codes : List Code) (design : FlatDesign) (plan : TestPlan) (number : ℕ) (log : SlotLog) (runs : List RunEnd) : Type 0 where
  pub slot : FirstSlot
  pub stands : slice_get (good_slots design plan) number ≡ Some slot
  pub logged : IsSlotLog (good_machine design) (first_turn number) (phases (good_machine design) slot) log
  pub log_time : log.time ≡ slot.begins.time
  pub runs_are : AreRunEnds codes (good_machine design) (phases (good_machine design) slot) runs
  -- a slot that is hyperactive is no slot of a window
  pub few_steps : is_hyper slot ≡ false

-- a window that has so many slots and steps is full
abbrev pub is_full : ℕ → ℕ → Bool
is_full slots steps = nat_le WINDOW_SLOTS slots || nat_le WINDOW_STEPS steps

-- how a window ends, as the definitions name it
abbrev pub end_of : GoodEnd → WindowEnd
end_of ends.Open = IsOpen
end_of ends.Through = IsThrough
end_of (ends.Raced pair) = IsRaced (reported_pair pair)

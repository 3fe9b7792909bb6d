-- Slots that are put behind others (slots by IEEE 1364-2001, clause 5).
use Rattle.std.specs.Prelude.{◌≡◌, ℕ, List, [], ◌∷◌, ◌++◌, length}
use Rattle.causal_monitor.specs.declared.slot.SlotLog.{SlotLog}
use Rattle.process_code.specs.declared.state.RunEnd.{RunEnd}
use Rattle.trace_window.specs.declared.sizes.Sizes.{Sizes}
use Rattle.trace_window.specs.Gathered.{Gathers, IsSameList}
use Rattle.trace_window.specs.Listed.{log_accesses, log_events}
use Rattle.good_trace.specs.declared.pushed.PushedSlots.{PushedSlots}
use Rattle.good_trace.specs.declared.pushed.SlotTable.{SlotTable}
use Rattle.good_trace.specs.Beginnings.{first_beginning}

-- a table has no slot
pub record HasNoSlot (table : SlotTable) : Type 0 where
  pub times : table.times.items ≡ []
  pub beginnings : table.beginnings.items ≡ first_beginning ∷ []
  pub runs : table.runs.items ≡ []

-- one slot more is put at the end, by its log and the ends of its runs, with which there are so many phases
pub record PushesSlot (sizes : Sizes) (log : SlotLog) (runs : List RunEnd) (phases : ℕ) (old new : PushedSlots) : Type 0 where
  pub times : new.table.times.items ≡ old.table.times.items ++ log.time ∷ []
  pub runs_are : new.table.runs.items ≡ old.table.runs.items ++ runs
  pub gathers : Gathers sizes (log_accesses log) (log_events log) old.list new.list
  pub beginnings : new.table.beginnings.items ≡ old.table.beginnings.items ++ record { moment = new.list.moment; changes = length new.list.changes.items; phases = phases } ∷ []

-- the same slots are there
pub record HasSameSlots (old new : PushedSlots) : Type 0 where
  pub times : new.table.times.items ≡ old.table.times.items
  pub beginnings : new.table.beginnings.items ≡ old.table.beginnings.items
  pub runs : new.table.runs.items ≡ old.table.runs.items
  pub list : IsSameList old.list new.list

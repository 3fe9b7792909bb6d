-- What a turn does to the rows of a table and to what its queue holds (IEEE 1364-2001, clauses 5.3 and 5.4).
use Rattle.std.specs.Prelude.{◌≡◌, ℕ, List, [], ◌∷◌, map, cond}
use Rattle.vf_base.specs.Lists.{AllHold, change_at}
use Rattle.v_design.specs.Assignments.{ValueUpdate}
use Rattle.v_design.specs.States.{TurnKind, PostponedTurn, UpdatesTurn, TimeTurn, is_any}
use Rattle.event_queue.specs.Queues.{HeldProcess, is_postponed, wakes_by, updates_due}
use Rattle.process_table.specs.declared.row.Row.{Row}
use Rattle.process_table.specs.Rows.{RowState, row_states, row_text, IsGoodRow, made_ready, with_lane}

-- the elements with some numbers are changed, one after another
abbrev pub each_changed : {A : Type 0} → (A → A) → List ℕ → List A → List A
each_changed change [] xs = xs
each_changed change (number ∷ numbers) xs = each_changed change numbers (change_at xs number change)

-- each of some rows is made ready, and all rows stay good rows of the same processes
pub record ReadiesRows (old new : List Row) (numbers : List ℕ) : Type 0 where
  pub texts : map row_text new ≡ map row_text old
  pub good : AllHold IsGoodRow old → AllHold IsGoodRow new
  pub states : row_states new ≡ each_changed made_ready numbers (row_states old)

-- some rows get lanes, one after another
abbrev pub lanes_put : List (ℕ × List ValueUpdate) → List RowState → List RowState
lanes_put [] states = states
lanes_put (lane ∷ lanes) states = lanes_put lanes (change_at states lane.0 (with_lane lane.1))

-- some rows get lanes, and all rows stay good rows of the same processes
pub record FillsLanes (old new : List Row) (lanes : List (ℕ × List ValueUpdate)) : Type 0 where
  pub texts : map row_text new ≡ map row_text old
  pub good : AllHold IsGoodRow old → AllHold IsGoodRow new
  pub states : row_states new ≡ lanes_put lanes (row_states old)

-- the row of a process after a turn, by what was held of the process
abbrev pub row_after : ℕ → TurnKind → RowState → HeldProcess → RowState
row_after now PostponedTurn row held = cond (is_postponed held.holding) (made_ready row) row
row_after now UpdatesTurn row held = cond (is_any (updates_due now held.later)) (with_lane (updates_due now held.later) row) row
row_after now (TimeTurn time) row held = cond (wakes_by time held.holding) (made_ready row) row

-- the present time after a turn
abbrev pub time_after : ℕ → TurnKind → ℕ
time_after now PostponedTurn = now
time_after now UpdatesTurn = now
time_after now (TimeTurn time) = time

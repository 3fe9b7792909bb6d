-- A table with a process that came to stand elsewhere, with other updates, or ready (nothing of the language).
use Rattle.std.proofs.Common.{◌≡◌, ◌≤◌, ◌<◌, ℕ, zero, suc, Bool, true, List, [], ◌∷◌, length, get_or, refl, sym, ap, ◌∙◌, subst, arith}
use Rattle.vf_base.specs.Lists.{AllHold, change_at}
use Rattle.v_design.specs.Accesses.{is_waiting}
use Rattle.v_design.specs.Assignments.{ValueUpdate}
use Rattle.v_design.specs.Designs.{FlatDesign}
use Rattle.v_design.specs.Processes as does
use Rattle.v_design.specs.Processes.{Activity}
use Rattle.v_design.specs.States.{ProcessState, LaterUpdate, is_any, is_ready}
use Rattle.event_queue.specs.declared.held.Holding.{Holding}
use Rattle.event_queue.specs.declared.held.Holding.TheVariants as held
use Rattle.event_queue.specs.Queues.{HeldProcess, held_with, holding_of, with_updates, WakesAfter}
use Rattle.process_code.specs.Points.{activity_of}
use Rattle.process_code.specs.declared.state.Stage.{Stage}
use Rattle.process_code.specs.declared.state.ProcState.{ProcState}
use Rattle.process_table.specs.declared.row.Row.{Row}
use Rattle.process_table.specs.Puts.{StandsAt}
use Rattle.process_table.specs.Replaces.{row_of, ReplacesRow, state_with, with_pending, process_readied}
use Rattle.process_table.specs.Rows.{RowState, row_states, state_at, RowsChange, with_lane, made_ready, readied}
use Rattle.process_table.specs.Waited.{IsWaitable, body_of}
use Rattle.process_table.specs.Arranged.{processes_of, row_ready, row_busy, row_holding, IsTable, HasStage, stage_holding}
use Rattle.event_queue.specs.ChangeLaws.{at-change}
use Rattle.process_table.proofs.Changed.{no_row, processes-change, processes-change_row, changed, ready-unseen, lanes-unseen, queue-unseen, holding-at, after-at, waits-at, rows-length}
use Rattle.process_table.proofs.Steps.{waitable-readied, readied-free}

-- the queue holds a process in the same way, told otherwise
pub held-as : (queue queue1 : List HeldProcess) (p : ℕ) (one other : Holding) (later : List LaterUpdate) →
    queue1 ≡ change_at queue p (λ (old : HeldProcess). held_with one later) → one ≡ other →
    queue1 ≡ change_at queue p (λ (old : HeldProcess). held_with other later)
held-as queue queue1 p one other later is same = is ∙ ap (λ (holding : Holding). change_at queue p (λ (old : HeldProcess). held_with holding later)) same

-- a process that waits is there
pub waiting-low : (states : List RowState) (p : ℕ) → is_waiting (state_at states p).activity ≡ true → p < length states
waiting-low [] p e = absurd (cc)
waiting-low (s ∷ states) zero e = omega arith
waiting-low (s ∷ states) (suc p) e = omega (arith, waiting-low states p e)

module _ (design : FlatDesign) (time : ℕ) (rows : List Row) (waiters : List (List ℕ)) (ready lanes : List Bool) (queue : List HeldProcess)
    (table : IsTable design time rows waiters ready lanes queue) (p : ℕ)
  where
    -- Another state
    module _ (row : Row) (is : row ≡ get_or rows p row) (low : p < length rows) (state : ProcState) (later : List LaterUpdate) (lane : List ValueUpdate)
        (stands : StandsAt design time p state later row.code) (rows1 : List Row) (replaces : ReplacesRow rows rows1 p state lane)
      where
        replaced-at : state_at (row_states rows1) p ≡ row_of (activity_of row.code state) lane
        replaced-at =
            ap (λ states. state_at states p) (replaces row is).states
            ∙ at-change no_row (row_states rows) p (λ (before : RowState). row_of (activity_of row.code state) lane) (omega (arith, low, rows-length rows))

        pub replaced-table : (stage : Stage) (told_ready told_waits busy : Bool) (ready1 lanes1 : List Bool) (queue1 : List HeldProcess) →
            HasStage (state_at (row_states rows1) p).activity stage told_ready told_waits → busy ≡ is_any (state_at (row_states rows1) p).lane →
            ready1 ≡ change_at ready p (λ (old : Bool). told_ready) → lanes1 ≡ change_at lanes p (λ (old : Bool). busy) →
            queue1 ≡ change_at queue p (λ (old : HeldProcess). held_with (stage_holding stage) later) → IsTable design time rows1 waiters ready1 lanes1 queue1
        replaced-table stage told_ready told_waits busy ready1 lanes1 queue1 has any marked filled kept =
            let there : RowState = row_of (activity_of row.code state) lane in
            let hold : stage_holding stage ≡ row_holding there = sym has.holding ∙ ap row_holding replaced-at in
            changed design time rows waiters ready lanes queue table rows1 ready1 lanes1 queue1 p (λ (before : RowState). there)
            (λ (old : HeldProcess). held_with (stage_holding stage) later) (replaces row is)
            (marked ∙ ap (λ (b : Bool). change_at ready p (λ (old : Bool). b)) (sym has.ready ∙ ap row_ready replaced-at))
            (filled ∙ ap (λ (b : Bool). change_at lanes p (λ (old : Bool). b)) (any ∙ ap row_busy replaced-at))
            kept hold (subst (WakesAfter time) (sym hold) stands.may.after.0, stands.may.after.1) stands.may.waits

        pub replaced-processes : (holding : Holding) (queue1 : List HeldProcess) → queue1 ≡ change_at queue p (λ (old : HeldProcess). held_with holding later) →
            processes_of (row_states rows1) queue1 ≡ change_at (processes_of (row_states rows) queue) p (λ (old : ProcessState). state_with row.code state later lane)
        replaced-processes holding queue1 kept =
            let there : RowState = row_of (activity_of row.code state) lane in
            ap (λ states. processes_of states queue1) (replaces row is).states ∙ ap (processes_of (change_at (row_states rows) p (λ (before : RowState). there))) kept
            ∙ processes-change (row_states rows) queue p (λ (before : RowState). there) (λ (old : HeldProcess). held_with holding later)
            (λ (old : ProcessState). state_with row.code state later lane) refl

    -- Other updates
    module _ (later : List LaterUpdate) (lane : List ValueUpdate) (rows1 : List Row) (fills : RowsChange rows rows1 p (with_lane lane))
        (queue1 : List HeldProcess) (kept : queue1 ≡ change_at queue p (with_updates later))
      where
        pub filled-at : p < length rows → state_at (row_states rows1) p ≡ with_lane lane (state_at (row_states rows) p)
        filled-at low = ap (λ states. state_at states p) fills.states ∙ at-change no_row (row_states rows) p (with_lane lane) (omega (arith, low, rows-length rows))

        pub pending-table : (lanes1 : List Bool) → lanes1 ≡ change_at lanes p (λ (old : Bool). is_any lane) → AllHold (λ (l : LaterUpdate). time ≤ l.time) later →
            IsTable design time rows1 waiters ready lanes1 queue1
        pending-table lanes1 marked after =
            changed design time rows waiters ready lanes queue table rows1 ready lanes1 queue1 p (with_lane lane) (with_updates later) fills
            (ready-unseen design time rows waiters ready lanes queue table p (with_lane lane) refl) marked kept (holding-at design time rows waiters ready lanes queue table p)
            ((after-at design time rows waiters ready lanes queue table p).0, after) (waits-at design time rows waiters ready lanes queue table p)

        pub pending-processes : processes_of (row_states rows1) queue1 ≡ change_at (processes_of (row_states rows) queue) p (with_pending later lane)
        pending-processes =
            ap (λ states. processes_of states queue1) fills.states ∙ ap (processes_of (change_at (row_states rows) p (with_lane lane))) kept
            ∙ processes-change (row_states rows) queue p (with_lane lane) (with_updates later) (with_pending later lane) refl

    -- A process that waits becomes ready
    waiting-ready : (activity : Activity) → is_waiting activity ≡ true → is_ready (readied activity) ≡ true
    waiting-ready (does.Ready tasks operands) e = refl
    waiting-ready (does.Waiting place entries tasks) e = refl
    waiting-ready (does.Asleep wake tasks) e = refl
    waiting-ready (does.Postponed tasks) e = refl
    waiting-ready does.Done e = absurd (cc)

    waiting-free : (activity : Activity) → is_waiting activity ≡ true → holding_of activity ≡ held.Free
    waiting-free (does.Ready tasks operands) e = refl
    waiting-free (does.Waiting place entries tasks) e = refl
    waiting-free (does.Asleep wake tasks) e = absurd (cc)
    waiting-free (does.Postponed tasks) e = absurd (cc)
    waiting-free does.Done e = refl

    pub woken-one : (rows1 : List Row) (ready1 : List Bool) → is_waiting (state_at (row_states rows) p).activity ≡ true → RowsChange rows rows1 p made_ready →
        ready1 ≡ change_at ready p (λ (member : Bool). true) → IsTable design time rows1 waiters ready1 lanes queue
    woken-one rows1 ready1 waits row marked =
        changed design time rows waiters ready lanes queue table rows1 ready1 lanes queue p made_ready (λ (h : HeldProcess). h) row
        (marked ∙ ap (λ (b : Bool). change_at ready p (λ (member : Bool). b)) (sym (waiting-ready (state_at (row_states rows) p).activity waits)))
        (lanes-unseen design time rows waiters ready lanes queue table p made_ready refl)
        (queue-unseen design time rows waiters ready lanes queue table p)
        (holding-at design time rows waiters ready lanes queue table p ∙ waiting-free (state_at (row_states rows) p).activity waits ∙ readied-free (state_at (row_states rows) p).activity)
        (after-at design time rows waiters ready lanes queue table p)
        (waitable-readied (IsWaitable design (body_of design p)) (state_at (row_states rows) p).activity (waits-at design time rows waiters ready lanes queue table p))

    pub woken-one-processes : (rows1 : List Row) → RowsChange rows rows1 p made_ready → processes_of (row_states rows1) queue ≡ change_at (processes_of (row_states rows) queue) p process_readied
    woken-one-processes rows1 row = ap (λ states. processes_of states queue) row.states ∙ processes-change_row (row_states rows) queue p made_ready process_readied refl

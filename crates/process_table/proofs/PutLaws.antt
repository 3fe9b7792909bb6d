-- A table that is cleared, and a process that is put into it (nothing of the language).
use Rattle.std.proofs.Common.{◌≡◌, ℕ, zero, suc, ◌<◌, ◌≤◌, Bool, false, List, [], ◌∷◌, ◌++◌, length, map, get_or, refl, sym, ap, ◌∙◌, subst, arith}
use Rattle.std.specs.Prelude.{slice_get}
use Rattle.vf_base.specs.Lists.{AllHold, change_at}
use Rattle.v_design.specs.Designs.{FlatDesign, FlatProcess}
use Rattle.v_design.specs.Processes.{Done}
use Rattle.v_design.specs.States.{ProcessState, LaterUpdate, found_or, idle_process}
use Rattle.event_queue.specs.declared.held.Holding.{Holding}
use Rattle.event_queue.specs.declared.held.Holding.TheVariants.{Free}
use Rattle.event_queue.specs.Queues.{HeldProcess, nothing_held, repeated, held_at, holding_of, ComesAfter, WakesAfter}
use Rattle.process_code.specs.Points.{activity_of}
use Rattle.process_code.specs.declared.state.Stage.{Stage}
use Rattle.process_code.specs.declared.state.ProcState.{ProcState}
use Rattle.process_table.specs.declared.row.Row.{Row}
use Rattle.process_table.specs.Waited.{IsWaitable, WaitsAreWaitable, activity_entries, body_of}
use Rattle.process_table.specs.Rows.{row_states, idle_row, state_at}
use Rattle.process_table.specs.Arranged.{with_held, processes_of, row_ready, row_busy, row_holding, row_activity, IsTable, HasStage, stage_holding, held_so}
use Rattle.process_table.specs.Puts.{StandsAt, process_at_state, doing, PutsState, ClearsRows}
use Rattle.event_queue.specs.ChangeLaws.{at-change}
use Rattle.process_table.proofs.Changed.{no_row, processes-change, changed, lanes-unseen, holding-at, after-at, rows-length}
use Rattle.process_table.proofs.TableCalls.{process-row, count-ready, count-lanes, count-queue, count-texts}
use Rattle.process_table.proofs.Steps.{hold-more}

-- Lists of one element

map-repeated : {A B : Type 0} (f : A → B) (x : A) (n : ℕ) → map f (repeated x n) ≡ repeated (f x) n
map-repeated f x zero = refl
map-repeated f x (suc n) = ap (λ ys. f x ∷ ys) (map-repeated f x n)

map-one : {A B : Type 0} (y : B) (xs : List A) → map (λ (x : A). y) xs ≡ repeated y (length xs)
map-one y [] = refl
map-one y (x ∷ xs) = ap (λ ys. y ∷ ys) (map-one y xs)

repeated-found : {A : Type 0} (x : A) (n k : ℕ) → found_or x (slice_get (repeated x n) k) ≡ x
repeated-found x zero k = refl
repeated-found x (suc n) zero = refl
repeated-found x (suc n) (suc k) = repeated-found x n k

all-false : (members : List Bool) → ((k : ℕ) → k < length members → get_or members k false ≡ false) → members ≡ repeated false (length members)
all-false [] none = refl
all-false (m ∷ members) none = λ i. none 0 (omega arith) i ∷ all-false members (λ k low. none (suc k) (omega (arith, low))) i

-- a set from which each member was taken
pub none-left : (old new : List Bool) → length new ≡ length old → ((k : ℕ) → k < length new → get_or new k false ≡ false) → new ≡ repeated false (length old)
none-left old new long none = all-false new none ∙ ap (repeated false) long

-- A table that is cleared

idle-processes : (n : ℕ) → processes_of (repeated idle_row n) (repeated nothing_held n) ≡ repeated idle_process n
idle-processes zero = refl
idle-processes (suc n) = ap (λ ps. idle_process ∷ ps) (idle-processes n)

none-after : (time n : ℕ) → AllHold (ComesAfter time) (repeated nothing_held n)
none-after time zero = tt
none-after time (suc n) = ((tt, tt), none-after time n)

done-waits : (design : FlatDesign) (n : ℕ) → WaitsAreWaitable design (repeated Done n)
done-waits design n = λ number. subst (λ a. AllHold (IsWaitable design (body_of design number)) (activity_entries a)) (sym (repeated-found Done n number)) tt

module _ (design : FlatDesign) (time : ℕ) (rows : List Row) (waiters : List (List ℕ)) (ready lanes : List Bool) (queue : List HeldProcess)
    (table : IsTable design time rows waiters ready lanes queue) (rows1 : List Row) (clears : ClearsRows rows rows1)
  where
    states-now : row_states rows1 ≡ repeated idle_row (length rows)
    states-now = clears.states ∙ map-one idle_row (row_states rows) ∙ ap (repeated idle_row) (rows-length rows)

    pub cleared-table : (now : ℕ) → IsTable design now rows1 waiters (repeated false (length ready)) (repeated false (length lanes)) (repeated nothing_held (length queue))
    cleared-table now = record {
      texts = clears.texts ∙ table.texts;
      good = clears.good table.good;
      index = table.index;
      ready = ap (repeated false) (count-ready design time rows waiters ready lanes queue table)
          ∙ sym (ap (map row_ready) states-now ∙ map-repeated row_ready idle_row (length rows));
      lanes = ap (repeated false) (count-lanes design time rows waiters ready lanes queue table)
          ∙ sym (ap (map row_busy) states-now ∙ map-repeated row_busy idle_row (length rows));
      holdings =
          map-repeated (λ (h : HeldProcess). h.holding) nothing_held (length queue) ∙ ap (repeated Free) (count-queue design time rows waiters ready lanes queue table)
          ∙ sym (ap (map row_holding) states-now ∙ map-repeated row_holding idle_row (length rows));
      after = none-after now (length queue);
      waits =
          subst (WaitsAreWaitable design) (sym (ap (map row_activity) states-now ∙ map-repeated row_activity idle_row (length rows))) (done-waits design (length rows));
    }

    pub cleared-processes : processes_of (row_states rows1) (repeated nothing_held (length queue)) ≡ map (λ (process : FlatProcess). idle_process) design.processes
    cleared-processes =
        ap (λ states. processes_of states (repeated nothing_held (length queue))) states-now
        ∙ ap (λ n. processes_of (repeated idle_row (length rows)) (repeated nothing_held n)) (count-queue design time rows waiters ready lanes queue table)
        ∙ idle-processes (length rows) ∙ ap (repeated idle_process) (count-texts design time rows waiters ready lanes queue table) ∙ sym (map-one idle_process design.processes)

-- A process that is put

module _ (design : FlatDesign) (time : ℕ) (rows : List Row) (waiters : List (List ℕ)) (ready lanes : List Bool) (queue : List HeldProcess)
    (table : IsTable design time rows waiters ready lanes queue) (p : ℕ)
    (idle : found_or idle_process (slice_get (processes_of (row_states rows) queue) p) ≡ idle_process)
  where
    -- its row is idle, and nothing of it is held
    was-idle : with_held (state_at (row_states rows) p) (held_at queue p) ≡ idle_process
    was-idle = sym (process-row design time rows waiters ready lanes queue table p) ∙ idle

    pub idle-free : (held_at queue p).holding ≡ Free
    idle-free = holding-at design time rows waiters ready lanes queue table p ∙ ap (λ (process : ProcessState). holding_of process.activity) was-idle

    module _ (row : Row) (is : row ≡ get_or rows p row) (low : p < length rows) (state : ProcState) (later : List LaterUpdate) (stands : StandsAt design time p state later row.code)
        (rows1 : List Row) (puts : PutsState rows rows1 p state)
      where
        put-at : state_at (row_states rows1) p ≡ doing (activity_of row.code state) (state_at (row_states rows) p)
        put-at =
            ap (λ states. state_at states p) (puts row is).states
            ∙ at-change no_row (row_states rows) p (doing (activity_of row.code state)) (omega (arith, low, rows-length rows))

        pub put-table : (stage : Stage) (told_ready told_waits : Bool) (ready1 : List Bool) (queue1 : List HeldProcess) →
            HasStage (state_at (row_states rows1) p).activity stage told_ready told_waits →
            ready1 ≡ change_at ready p (λ member. told_ready) → queue1 ≡ change_at queue p (held_so (stage_holding stage) later) → IsTable design time rows1 waiters ready1 lanes queue1
        put-table stage told_ready told_waits ready1 queue1 has marked kept =
            let hold : stage_holding stage ≡ row_holding (doing (activity_of row.code state) (state_at (row_states rows) p)) = sym has.holding ∙ ap row_holding put-at in
            changed design time rows waiters ready lanes queue table rows1 ready1 lanes queue1 p (doing (activity_of row.code state)) (held_so (stage_holding stage) later) (puts row is)
            (marked ∙ ap (λ (b : Bool). change_at ready p (λ (member : Bool). b)) (sym has.ready ∙ ap row_ready put-at))
            (lanes-unseen design time rows waiters ready lanes queue table p (doing (activity_of row.code state)) refl)
            kept hold (
              subst (WakesAfter time) (sym hold) stands.may.after.0,
              hold-more (λ (l : LaterUpdate). time ≤ l.time) (held_at queue p).later later (after-at design time rows waiters ready lanes queue table p).1 stands.may.after.1,
            )
            stands.may.waits

        pub put-processes : (holding : Holding) (queue1 : List HeldProcess) → queue1 ≡ change_at queue p (held_so holding later) →
            processes_of (row_states rows1) queue1 ≡ change_at (processes_of (row_states rows) queue) p (λ (old : ProcessState). process_at_state row.code state later)
        put-processes holding queue1 kept =
            ap (λ states. processes_of states queue1) (puts row is).states ∙ ap (processes_of (change_at (row_states rows) p (doing (activity_of row.code state)))) kept
            ∙ processes-change (row_states rows) queue p (doing (activity_of row.code state)) (held_so holding later) (λ (old : ProcessState). process_at_state row.code state later)
            (λ i. record { activity = activity_of row.code state; later = (was-idle i).later ++ later; lane = (was-idle i).lane })

-- A table with one row changed (nothing of the language).
use Rattle.std.proofs.Common.{◌≡◌, ℕ, zero, suc, ◌<◌, Bool, true, List, [], ◌∷◌, length, map, get_or, set, refl, sym, ap, ◌∙◌, subst, arith}
use Rattle.std.specs.Prelude.{slice_get}
use Rattle.std.proofs.lemmas.List.{length-map}
use Rattle.vf_base.specs.Lists.{AllHold, change_at}
use Rattle.v_design.specs.Designs.{FlatDesign, FlatProcess}
use Rattle.four_value.specs.Values.{LogicValue}
use Rattle.v_design.specs.Processes.{Activity, Done, ProcessStep}
use Rattle.process_code.specs.Points.{StepSaid, said_of}
use Rattle.v_design.specs.States.{ProcessState, found_or, idle_process, is_ready}
use Rattle.event_queue.specs.declared.held.Holding.{Holding}
use Rattle.event_queue.specs.Queues.{HeldProcess, nothing_held, held_at, ComesAfter}
use Rattle.process_table.specs.declared.row.Row.{Row}
use Rattle.process_table.specs.Waited.{IsWaitable, WaitsAreWaitable, activity_entries, body_of}
use Rattle.process_table.specs.Rows.{RowState, row_state, row_states, row_text, state_at, text_at, IsGoodRow, RowChanges, RowsChange, StepsRow, StepsRows, step_from, step_at, after_row_step}
use Rattle.process_table.specs.Arranged.{with_held, processes_of, row_ready, row_busy, row_holding, row_activity, IsTable}
use Rattle.process_table.proofs.Lists.{map-change, change-unseen, each-changed, AllHold-change, AllHold-at, AllHold-set, map-set, map-set_same}

-- a row state with nothing behind it
abbrev pub no_row : RowState
no_row = record { activity = Done; lane = [] }

-- A change of one row is one of the rows
pub rows-change : (rows : List Row) (p : ℕ) (old new : Row) (change : RowState → RowState) → p < length rows → old ≡ get_or rows p old → RowChanges old new (change (row_state old)) →
    RowsChange rows (set rows p new) p change
rows-change rows p old new change low is row = record {
  texts = map-set_same row_text rows p old new low is row.text;
  good = λ h. AllHold-set IsGoodRow rows p new (row.good (AllHold-at IsGoodRow rows p old h low is)) h;
  states = map-set row_state change rows p old new low is row.state;
}

-- The processes of a table with one row changed

pub processes-change : (states : List RowState) (queue : List HeldProcess) (p : ℕ) (change : RowState → RowState) (hold : HeldProcess → HeldProcess) (g : ProcessState → ProcessState) →
    with_held (change (state_at states p)) (hold (held_at queue p)) ≡ g (with_held (state_at states p) (held_at queue p)) →
    processes_of (change_at states p change) (change_at queue p hold) ≡ change_at (processes_of states queue) p g
processes-change [] queue p change hold g e = refl
processes-change (s ∷ states) [] zero change hold g e = refl
processes-change (s ∷ states) [] (suc p) change hold g e = refl
processes-change (s ∷ states) (h ∷ queue) zero change hold g e = ap (λ x. x ∷ processes_of states queue) e
processes-change (s ∷ states) (h ∷ queue) (suc p) change hold g e = ap (λ xs. with_held s h ∷ xs) (processes-change states queue p change hold g e)

-- the same where the queue stays
pub processes-change_row : (states : List RowState) (queue : List HeldProcess) (p : ℕ) (change : RowState → RowState) (g : ProcessState → ProcessState) →
    with_held (change (state_at states p)) (held_at queue p) ≡ g (with_held (state_at states p) (held_at queue p)) →
    processes_of (change_at states p change) queue ≡ change_at (processes_of states queue) p g
processes-change_row [] queue p change g e = refl
processes-change_row (s ∷ states) [] zero change g e = refl
processes-change_row (s ∷ states) [] (suc p) change g e = refl
processes-change_row (s ∷ states) (h ∷ queue) zero change g e = ap (λ x. x ∷ processes_of states queue) e
processes-change_row (s ∷ states) (h ∷ queue) (suc p) change g e = ap (λ xs. with_held s h ∷ xs) (processes-change_row states queue p change g e)

-- the process at a place
pub at-process : (states : List RowState) (queue : List HeldProcess) (p : ℕ) → length queue ≡ length states →
    found_or idle_process (slice_get (processes_of states queue) p) ≡ with_held (state_at states p) (held_at queue p)
at-process [] [] p e = refl
at-process [] (h ∷ queue) p e = absurd (omega (arith, e))
at-process (s ∷ states) [] p e = absurd (omega (arith, e))
at-process (s ∷ states) (h ∷ queue) zero e = refl
at-process (s ∷ states) (h ∷ queue) (suc p) e = at-process states queue p (omega (arith, e))

-- as many processes as rows
pub length-processes : (states : List RowState) (queue : List HeldProcess) → length queue ≡ length states → length (processes_of states queue) ≡ length states
length-processes [] queue e = refl
length-processes (s ∷ states) [] e = absurd (omega (arith, e))
length-processes (s ∷ states) (h ∷ queue) e = ap suc (length-processes states queue (omega (arith, e)))

-- what is seen of the rows alone
pub map-processes : {B : Type 0} (f : ProcessState → B) (g : RowState → B) → ((s : RowState) (h : HeldProcess) → f (with_held s h) ≡ g s) → (states : List RowState) (queue : List HeldProcess) →
    length queue ≡ length states →
    map f (processes_of states queue) ≡ map g states
map-processes f g same [] queue e = refl
map-processes f g same (s ∷ states) [] e = absurd (omega (arith, e))
map-processes f g same (s ∷ states) (h ∷ queue) e = ap (λ y. y ∷ map f (processes_of states queue)) (same s h) ∙ ap (λ ys. g s ∷ ys) (map-processes f g same states queue (omega (arith, e)))

module _ (design : FlatDesign) (time : ℕ) (rows : List Row) (index : List (List ℕ)) (ready lanes : List Bool) (queue : List HeldProcess)
    (table : IsTable design time rows index ready lanes queue) where
  -- the queue has as many processes as there are rows
  pub queue-length : length queue ≡ length (row_states rows)
  queue-length = sym (length-map queue (λ (h : HeldProcess). h.holding)) ∙ ap length table.holdings ∙ length-map (row_states rows) row_holding

  -- how a process is held
  pub holding-at : (p : ℕ) → (held_at queue p).holding ≡ row_holding (state_at (row_states rows) p)
  holding-at p = go queue (row_states rows) p table.holdings
    where
      go : (queue : List HeldProcess) (states : List RowState) (p : ℕ) → map (λ (h : HeldProcess). h.holding) queue ≡ map row_holding states →
          (held_at queue p).holding ≡ row_holding (state_at states p)
      go [] [] p e = refl
      go [] (s ∷ states) p e = absurd (cc)
      go (h ∷ queue) [] p e = absurd (cc)
      go (h ∷ queue) (s ∷ states) zero e = cc
      go (h ∷ queue) (s ∷ states) (suc p) e = go queue states p (cc)

  -- each part changes at one place
  pub changed : (rows1 : List Row) (ready1 lanes1 : List Bool) (queue1 : List HeldProcess) (p : ℕ) (change : RowState → RowState) (hold : HeldProcess → HeldProcess) → RowsChange rows rows1 p change →
      ready1 ≡ change_at ready p (λ member. row_ready (change (state_at (row_states rows) p))) →
      lanes1 ≡ change_at lanes p (λ member. row_busy (change (state_at (row_states rows) p))) →
      queue1 ≡ change_at queue p hold → (hold (held_at queue p)).holding ≡ row_holding (change (state_at (row_states rows) p)) → ComesAfter time (hold (held_at queue p)) →
      AllHold (IsWaitable design (body_of design p)) (activity_entries (change (state_at (row_states rows) p)).activity) →
      IsTable design time rows1 index ready1 lanes1 queue1
  changed rows1 ready1 lanes1 queue1 p change hold row is_ready is_lanes is_queue held after waits =
      let states = row_states rows in
      record {
        texts = row.texts ∙ table.texts;
        good = row.good table.good;
        index = table.index;
        ready = is_ready ∙ ap (λ l. change_at l p (λ (member : Bool). row_ready (change (state_at states p)))) table.ready
            ∙ sym (ap (map row_ready) row.states ∙ map-change no_row row_ready states p change);
        lanes = is_lanes ∙ ap (λ l. change_at l p (λ (member : Bool). row_busy (change (state_at states p)))) table.lanes
            ∙ sym (ap (map row_busy) row.states ∙ map-change no_row row_busy states p change);
        holdings =
            ap (map (λ (h : HeldProcess). h.holding)) is_queue ∙ map-change nothing_held (λ (h : HeldProcess). h.holding) queue p hold
            ∙ ap (λ l. change_at l p (λ (b : Holding). (hold (held_at queue p)).holding)) table.holdings
            ∙ ap (λ (k : Holding). change_at (map row_holding states) p (λ b. k)) held
            ∙ sym (ap (map row_holding) row.states ∙ map-change no_row row_holding states p change);
        after = subst (AllHold (ComesAfter time)) (sym is_queue) (AllHold-change nothing_held (ComesAfter time) queue p hold after table.after);
        waits =
            subst (WaitsAreWaitable design) (sym (ap (map row_activity) row.states ∙ map-change no_row row_activity states p change))
            (each-changed Done (λ n activity. AllHold (IsWaitable design (body_of design n)) (activity_entries activity)) (map row_activity states) p
            (λ activity. (change (state_at states p)).activity) waits table.waits);
      }

  -- a set that doesn't see the change
  pub ready-unseen : (p : ℕ) (change : RowState → RowState) → row_ready (change (state_at (row_states rows) p)) ≡ row_ready (state_at (row_states rows) p) →
      ready ≡ change_at ready p (λ member. row_ready (change (state_at (row_states rows) p)))
  ready-unseen p change e =
      table.ready ∙ change-unseen no_row row_ready (row_states rows) p (row_ready (change (state_at (row_states rows) p))) e
      ∙ ap (λ l. change_at l p (λ (member : Bool). row_ready (change (state_at (row_states rows) p)))) (sym table.ready)

  pub lanes-unseen : (p : ℕ) (change : RowState → RowState) → row_busy (change (state_at (row_states rows) p)) ≡ row_busy (state_at (row_states rows) p) →
      lanes ≡ change_at lanes p (λ member. row_busy (change (state_at (row_states rows) p)))
  lanes-unseen p change e =
      table.lanes ∙ change-unseen no_row row_busy (row_states rows) p (row_busy (change (state_at (row_states rows) p))) e
      ∙ ap (λ l. change_at l p (λ (member : Bool). row_busy (change (state_at (row_states rows) p)))) (sym table.lanes)

  -- a queue that stays
  pub queue-unseen : (p : ℕ) → queue ≡ change_at queue p (λ h. h)
  queue-unseen p = go queue p
    where
      go : (xs : List HeldProcess) (p : ℕ) → xs ≡ change_at xs p (λ h. h)
      go [] p = refl
      go (x ∷ xs) zero = refl
      go (x ∷ xs) (suc p) = ap (λ ys. x ∷ ys) (go xs p)

  -- what comes after the present time
  pub after-at : (p : ℕ) → ComesAfter time (held_at queue p)
  after-at p = go queue p table.after
    where
      go : (xs : List HeldProcess) (p : ℕ) → AllHold (ComesAfter time) xs → ComesAfter time (held_at xs p)
      go [] p h = (tt, tt)
      go (x ∷ xs) zero h = h.0
      go (x ∷ xs) (suc p) h = go xs p h.1

  -- the entries for which a process may wait
  pub waits-at : (p : ℕ) → AllHold (IsWaitable design (body_of design p)) (activity_entries (state_at (row_states rows) p).activity)
  waits-at p = go (λ n activity. AllHold (IsWaitable design (body_of design n)) (activity_entries activity)) (row_states rows) p table.waits
    where
      go : (Q : ℕ → Activity → Type 0) (states : List RowState) (p : ℕ) → ((n : ℕ) → Q n (found_or Done (slice_get (map row_activity states) n))) → Q p (state_at states p).activity
      go Q [] p h = h p
      go Q (s ∷ states) zero h = h 0
      go Q (s ∷ states) (suc p) h = go (λ n. Q (suc n)) states p (λ n. h (suc n))

-- What stands at a place

-- the state and the text of a row
pub state-is : (rows : List Row) (p : ℕ) (row : Row) → p < length rows → row ≡ get_or rows p row → state_at (row_states rows) p ≡ row_state row
state-is [] p row low is = absurd (omega (arith, low))
state-is (r ∷ rows) zero row low is = ap row_state (sym is)
state-is (r ∷ rows) (suc p) row low is = state-is rows p row (omega (arith, low)) is

pub text-is : (rows : List Row) (p : ℕ) (row : Row) → p < length rows → row ≡ get_or rows p row → text_at (map row_text rows) p ≡ row_text row
text-is [] p row low is = absurd (omega (arith, low))
text-is (r ∷ rows) zero row low is = ap row_text (sym is)
text-is (r ∷ rows) (suc p) row low is = text-is rows p row (omega (arith, low)) is

-- a process that is ready is there
pub ready-low : (states : List RowState) (p : ℕ) → is_ready (state_at states p).activity ≡ true → p < length states
ready-low [] p e = absurd (cc)
ready-low (s ∷ states) zero e = omega arith
ready-low (s ∷ states) (suc p) e = omega (arith, ready-low states p e)

pub rows-length : (rows : List Row) → length (row_states rows) ≡ length rows
rows-length rows = length-map rows row_state

-- A step of one row is one of the rows
pub rows-step : (rows : List Row) (p : ℕ) (old new : Row) (now : ℕ) (values : List LogicValue) (line : ℕ) (said : StepSaid) → p < length rows → old ≡ get_or rows p old →
    StepsRow now values old new line said →
    StepsRows now values p rows (set rows p new) line said
rows-step rows p old new now values line said low is steps =
    let st : step_at now rows p ≡ step_from (row_text old) now (row_state old).activity =
    ap (λ (text : FlatProcess). step_from text now (state_at (row_states rows) p).activity) (text-is rows p old low is)
    ∙ ap (λ (row : RowState). step_from (row_text old) now row.activity) (state-is rows p old low is) in
    record {
      line = steps.line ∙ ap (λ (s : ProcessStep). s.line) (sym st);
      said = steps.said ∙ ap (λ (s : ProcessStep). said_of now s.action s.next) (sym st);
      rows = rows-change rows p old new (after_row_step values (step_at now rows p)) low is
          (subst (λ (s : ProcessStep). RowChanges old new (after_row_step values s (row_state old))) (sym st) steps.row);
    }

-- What the calls of a table need of its parts (nothing of the language).
use Rattle.std.proofs.Common.{◌≡◌, ℕ, zero, suc, Bool, true, false, List, [], ◌∷◌, length, map, get_or, Option, refl, sym, ap, ◌∙◌, subst, arith}
use Rattle.std.specs.Prelude.{slice_get}
use Rattle.std.proofs.lemmas.List.{length-map, get_or_past}
use Rattle.four_value.specs.Values.{IsWidth}
use Rattle.vf_base.specs.Lists.{AllHold, change_at, first_place}
use Rattle.v_design.specs.Trees.{Entry}
use Rattle.v_design.specs.Designs.{FlatDesign, FlatProcess, Machine}
use Rattle.v_design.specs.Processes as does
use Rattle.v_design.specs.Processes.{Activity, opened}
use Rattle.v_design.specs.States.{State, ProcessState, found_or, idle_process, is_ready, is_any, some_entry, turn_of, turn_by, some_in, is_due}
use Rattle.v_design.specs.Accesses.{waiting_entries}
use Rattle.event_queue.specs.declared.held.Holding.{Holding}
use Rattle.event_queue.specs.declared.held.Holding.TheVariants as held
use Rattle.event_queue.specs.Queues.{HeldProcess, nothing_held, repeated, held_at, held_of, holding_of, ComesAfter, is_postponed, next_time, next_turn}
use Rattle.event_queue.specs.TurnLaws.{next_turn-held}
use Rattle.wait_index.specs.Waits.{IsIndexOf}
use Rattle.value_change.specs.Changes.{ObjectChange, matches_one, woken_by}
use Rattle.process_table.specs.declared.row.Row.{Row}
use Rattle.process_table.specs.Tables.{IsTableOf}
use Rattle.process_table.specs.Waited.{IsWaitable, WaitsAreWaitable, waited_entries, tasks_entries, activity_entries, body_of}
use Rattle.process_table.specs.WaitedLaws.{opened-waits, hold-left}
use Rattle.process_table.specs.Rows.{RowState, row_states, row_text, state_at, text_at, new_state, made_ready, readied, after_update, IsGoodRow, RowsChange}
use Rattle.process_table.specs.Arranged.{with_held, processes_of, row_ready, row_busy, row_holding, row_activity, IsTable}
use Rattle.process_table.proofs.Lists.{first_place-map}
use Rattle.process_table.proofs.Woken.{wakes}
use Rattle.process_table.proofs.Changed.{no_row, processes-change_row, at-process, map-processes, length-processes, queue-length, holding-at, changed, ready-unseen, lanes-unseen, queue-unseen}
use Rattle.process_table.proofs.Changed.{after-at, waits-at, rows-length}
use Rattle.process_table.proofs.Steps.{waitable-readied, readied-free}

-- A new table

all-ready : (ps : List FlatProcess) → repeated true (length ps) ≡ map row_ready (map new_state ps)
all-ready [] = refl
all-ready (p ∷ ps) = ap (λ bs. true ∷ bs) (all-ready ps)

none-busy : (ps : List FlatProcess) → repeated false (length ps) ≡ map row_busy (map new_state ps)
none-busy [] = refl
none-busy (p ∷ ps) = ap (λ bs. false ∷ bs) (none-busy ps)

none-held : (ps : List FlatProcess) → map (λ (h : HeldProcess). h.holding) (repeated nothing_held (length ps)) ≡ map row_holding (map new_state ps)
none-held [] = refl
none-held (p ∷ ps) = ap (λ hs. held.Free ∷ hs) (none-held ps)

none-later : (n : ℕ) → AllHold (ComesAfter 0) (repeated nothing_held n)
none-later zero = tt
none-later (suc n) = ((tt, tt), none-later n)

new-waits : (P : ℕ → Entry → Type 0) (ps : List FlatProcess) → ((n : ℕ) → AllHold (P n) (waited_entries (text_at ps n).body)) → (n : ℕ) →
    AllHold (P n) (activity_entries (found_or does.Done (slice_get (map row_activity (map new_state ps)) n)))
new-waits P [] h n = tt
new-waits P (p ∷ ps) h zero = opened-waits (P 0) p.body [] (h 0) tt
new-waits P (p ∷ ps) h (suc n) = new-waits (λ m. P (suc m)) ps (λ m. h (suc m)) n

pub table-new : (design : FlatDesign) (rows : List Row) (waiters : List (List ℕ)) (ready lanes : List Bool) (queue : List HeldProcess) (n : ℕ) →
    ((n : ℕ) → AllHold (IsWaitable design (body_of design n)) (waited_entries (body_of design n))) → map row_text rows ≡ design.processes → AllHold IsGoodRow rows →
    row_states rows ≡ map new_state design.processes →
    IsIndexOf design waiters → ready ≡ repeated true n → lanes ≡ repeated false n → queue ≡ repeated nothing_held n → n ≡ length design.processes → IsTable design 0 rows waiters ready lanes queue
table-new design rows waiters ready lanes queue n bodies texts good states index all none empty count = record {
  texts = texts;
  good = good;
  index = index;
  ready = all ∙ ap (repeated true) count ∙ all-ready design.processes ∙ ap (map row_ready) (sym states);
  lanes = none ∙ ap (repeated false) count ∙ none-busy design.processes ∙ ap (map row_busy) (sym states);
  holdings = ap (map (λ (h : HeldProcess). h.holding)) (empty ∙ ap (repeated nothing_held) count) ∙ none-held design.processes ∙ ap (map row_holding) (sym states);
  after = subst (AllHold (ComesAfter 0)) (sym empty) (none-later n);
  waits = subst (WaitsAreWaitable design) (ap (map row_activity) (sym states)) (new-waits (λ m. IsWaitable design (body_of design m)) design.processes bodies);
}

-- its processes are those of the start
pub start-processes : (ps : List FlatProcess) → processes_of (map new_state ps) (repeated nothing_held (length ps)) ≡ map
    (λ (process : FlatProcess). record { activity = does.Ready (opened process.body []) []; later = []; lane = [] }) ps
start-processes [] = refl
start-processes (p ∷ ps) = ap (λ xs. record { activity = does.Ready (opened p.body []) []; later = []; lane = [] } ∷ xs) (start-processes ps)

-- A process that is ready isn't held
pub ready-free : (activity : Activity) → is_ready activity ≡ true → holding_of activity ≡ held.Free
ready-free (does.Ready tasks operands) e = refl
ready-free (does.Waiting place entries tasks) e = absurd (cc)
ready-free (does.Asleep time tasks) e = absurd (cc)
ready-free (does.Postponed tasks) e = absurd (cc)
ready-free does.Done e = absurd (cc)

-- Members of a set
pub member-at : {A : Type 0} (test : A → Bool) (default : A) (xs : List A) (p : ℕ) → test default ≡ false → get_or (map test xs) p false ≡ test (found_or default (slice_get xs p))
member-at test default [] p none = get_or_past [] p false (omega arith) ∙ sym none
member-at test default (x ∷ xs) zero none = refl
member-at test default (x ∷ xs) (suc p) none = member-at test default xs p none

module _ (design : FlatDesign) (time : ℕ) (rows : List Row) (waiters : List (List ℕ)) (ready lanes : List Bool) (queue : List HeldProcess)
    (table : IsTable design time rows waiters ready lanes queue) where
  pub long : length queue ≡ length (row_states rows)
  long = queue-length design time rows waiters ready lanes queue table

  -- the first of the sets
  pub first-ready : first_place (λ (member : Bool). member) ready ≡ first_place (λ (p : ProcessState). is_ready p.activity) (processes_of (row_states rows) queue)
  first-ready =
      ap (first_place (λ (member : Bool). member)) (table.ready ∙ sym (map-processes (λ (p : ProcessState). is_ready p.activity) row_ready (λ s h. refl) (row_states rows) queue long))
      ∙ first_place-map (λ (p : ProcessState). is_ready p.activity) (λ (member : Bool). member) (processes_of (row_states rows) queue)

  pub first-lane : first_place (λ (member : Bool). member) lanes ≡ first_place (λ (p : ProcessState). is_any p.lane) (processes_of (row_states rows) queue)
  first-lane =
      ap (first_place (λ (member : Bool). member)) (table.lanes ∙ sym (map-processes (λ (p : ProcessState). is_any p.lane) row_busy (λ s h. refl) (row_states rows) queue long))
      ∙ first_place-map (λ (p : ProcessState). is_any p.lane) (λ (member : Bool). member) (processes_of (row_states rows) queue)

  -- as many of each part
  pub count-processes : length (processes_of (row_states rows) queue) ≡ length rows
  count-processes = length-processes (row_states rows) queue long ∙ rows-length rows

  pub count-texts : length rows ≡ length design.processes
  count-texts = sym (length-map rows row_text) ∙ ap length table.texts

  pub count-ready : length ready ≡ length rows
  count-ready = ap length table.ready ∙ length-map (row_states rows) row_ready ∙ rows-length rows

  pub count-lanes : length lanes ≡ length rows
  count-lanes = ap length table.lanes ∙ length-map (row_states rows) row_busy ∙ rows-length rows

  pub count-queue : length queue ≡ length rows
  count-queue = long ∙ rows-length rows

  -- what a process of the table does is what its row does
  pub process-row : (p : ℕ) → found_or idle_process (slice_get (processes_of (row_states rows) queue) p) ≡ with_held (state_at (row_states rows) p) (held_at queue p)
  process-row p = at-process (row_states rows) queue p long

  -- and it is ready, or its lane has an update, as the sets say
  pub ready-member : (p : ℕ) → get_or ready p false ≡ is_ready (found_or idle_process (slice_get (processes_of (row_states rows) queue) p)).activity
  ready-member p =
      ap (λ bs. get_or bs p false) table.ready ∙ member-at row_ready no_row (row_states rows) p refl ∙ ap (λ (q : ProcessState). is_ready q.activity) (sym (process-row p))

  pub lane-member : (p : ℕ) → get_or lanes p false ≡ is_any (found_or idle_process (slice_get (processes_of (row_states rows) queue) p)).lane
  lane-member p =
      ap (λ bs. get_or bs p false) table.lanes ∙ member-at row_busy no_row (row_states rows) p refl ∙ ap (λ (q : ProcessState). is_any q.lane) (sym (process-row p))

  -- the widths of the entries for which a process waits
  pub widths-at : (p : ℕ) → AllHold (λ (entry : Entry). IsWidth entry.width) (waiting_entries (state_at (row_states rows) p).activity)
  widths-at p = go (state_at (row_states rows) p).activity (waits-at design time rows waiters ready lanes queue table p)
    where
      widths : (entries : List Entry) → AllHold (IsWaitable design (body_of design p)) entries → AllHold (λ (entry : Entry). IsWidth entry.width) entries
      widths [] h = tt
      widths (entry ∷ entries) h = (h.0.width, widths entries h.1)

      go : (activity : Activity) → AllHold (IsWaitable design (body_of design p)) (activity_entries activity) → AllHold (λ (entry : Entry). IsWidth entry.width) (waiting_entries activity)
      go (does.Ready tasks operands) h = tt
      go (does.Waiting place entries tasks) h = widths entries (hold-left (IsWaitable design (body_of design p)) entries (tasks_entries tasks) h)
      go (does.Asleep time tasks) h = tt
      go (does.Postponed tasks) h = tt
      go does.Done h = tt

  -- A step of a lane
  pub lane-table : (p : ℕ) (rows1 : List Row) (lanes1 : List Bool) → RowsChange rows rows1 p after_update → lanes1 ≡ change_at lanes p (λ member. is_any (state_at (row_states rows1) p).lane) →
      state_at (row_states rows1) p ≡ after_update (state_at (row_states rows) p) → IsTable design time rows1 waiters ready lanes1 queue
  lane-table p rows1 lanes1 row marked at =
      changed design time rows waiters ready lanes queue table rows1 ready lanes1 queue p after_update (λ h. h) row
      (ready-unseen design time rows waiters ready lanes queue table p after_update refl)
      (marked ∙ ap (λ (r : RowState). change_at lanes p (λ (member : Bool). is_any r.lane)) at)
      (queue-unseen design time rows waiters ready lanes queue table p) (holding-at design time rows waiters ready lanes queue table p)
      (after-at design time rows waiters ready lanes queue table p) (waits-at design time rows waiters ready lanes queue table p)

  -- A wake
  pub wake-table : (changes : List ObjectChange) (p : ℕ) (rows1 : List Row) (ready1 : List Bool) → some_entry (matches_one changes) (waiting_entries (state_at (row_states rows) p).activity) ≡ true →
      RowsChange rows rows1 p made_ready →
      ready1 ≡ change_at ready p (λ member. true) → IsTable design time rows1 waiters ready1 lanes queue
  wake-table changes p rows1 ready1 some row marked =
      changed design time rows waiters ready lanes queue table rows1 ready1 lanes queue p made_ready (λ h. h) row
      (marked ∙ ap (λ (b : Bool). change_at ready p (λ (member : Bool). b)) (sym (waits-ready (state_at (row_states rows) p).activity some)))
      (lanes-unseen design time rows waiters ready lanes queue table p made_ready refl)
      (queue-unseen design time rows waiters ready lanes queue table p)
      (holding-at design time rows waiters ready lanes queue table p ∙ waits-free (state_at (row_states rows) p).activity some ∙ readied-free (state_at (row_states rows) p).activity)
      (after-at design time rows waiters ready lanes queue table p)
      (waitable-readied (IsWaitable design (body_of design p)) (state_at (row_states rows) p).activity (waits-at design time rows waiters ready lanes queue table p))
    where
      waits-ready : (activity : Activity) → some_entry (matches_one changes) (waiting_entries activity) ≡ true → is_ready (readied activity) ≡ true
      waits-ready (does.Ready tasks operands) e = refl
      waits-ready (does.Waiting place entries tasks) e = refl
      waits-ready (does.Asleep time tasks) e = refl
      waits-ready (does.Postponed tasks) e = refl
      waits-ready does.Done e = absurd (cc)

      waits-free : (activity : Activity) → some_entry (matches_one changes) (waiting_entries activity) ≡ true → holding_of activity ≡ held.Free
      waits-free (does.Ready tasks operands) e = refl
      waits-free (does.Waiting place entries tasks) e = refl
      waits-free (does.Asleep time tasks) e = absurd (cc)
      waits-free (does.Postponed tasks) e = absurd (cc)
      waits-free does.Done e = refl

  -- the processes after it
  pub wake-processes : (changes : List ObjectChange) (p : ℕ) (rows1 : List Row) → some_entry (matches_one changes) (waiting_entries (state_at (row_states rows) p).activity) ≡ true →
      RowsChange rows rows1 p made_ready →
      processes_of (row_states rows1) queue ≡ change_at (processes_of (row_states rows) queue) p (woken_by changes)
  wake-processes changes p rows1 some row =
      ap (λ states. processes_of states queue) row.states
      ∙ processes-change_row (row_states rows) queue p made_ready (woken_by changes)
      (ap (λ (a : Activity). record { activity = a; later = (held_at queue p).later; lane = (state_at (row_states rows) p).lane })
      (sym (wakes (matches_one changes) (state_at (row_states rows) p).activity some)))

-- The next turn

-- the queue holds what the processes leave to it
held-queue : (states : List RowState) (queue : List HeldProcess) → map (λ (h : HeldProcess). h.holding) queue ≡ map row_holding states → map held_of (processes_of states queue) ≡ queue
held-queue [] [] e = refl
held-queue [] (h ∷ queue) e = absurd (cc)
held-queue (s ∷ states) [] e = absurd (cc)
held-queue (s ∷ states) (h ∷ queue) e =
    (let first : h.holding ≡ row_holding s = cc in ap (λ (hd : Holding). record { holding = hd; later = h.later } ∷ map held_of (processes_of states queue)) (sym first))
    ∙ ap (λ hs. h ∷ hs) (held-queue states queue (cc))

-- it has the state's next turn
pub turn-table : (design : FlatDesign) (time : ℕ) (rows : List Row) (waiters : List (List ℕ)) (ready lanes : List Bool) (queue : List HeldProcess) →
    IsTable design time rows waiters ready lanes queue → (machine : Machine) (state : State) →
    IsTableOf machine state (record { design = design; time = time; processes = processes_of (row_states rows) queue }) → next_turn time queue ≡ turn_of state
turn-table design time rows waiters ready lanes queue table machine state of =
    ap (next_turn time) (sym (held-queue (row_states rows) queue table.holdings))
    ∙ ap (λ t. next_turn t (map held_of (processes_of (row_states rows) queue))) of.time
    ∙ ap (λ (ps : List ProcessState). next_turn state.time (map held_of ps)) of.processes ∙ next_turn-held state

-- the turn by what the queue tells
pub turn-told : (time : ℕ) (queue : List HeldProcess) (postponed due : Bool) (next : Option ℕ) → postponed ≡ some_in (λ (h : HeldProcess). is_postponed h.holding) queue →
    due ≡ some_in (λ (h : HeldProcess). some_in (is_due time) h.later) queue → next ≡ next_time queue → turn_by postponed due next ≡ next_turn time queue
turn-told time queue postponed due next p d n =
    ap (λ b. turn_by b due next) p ∙ ap (λ b. turn_by (some_in (λ (h : HeldProcess). is_postponed h.holding) queue) b next) d
    ∙ ap (turn_by (some_in (λ (h : HeldProcess). is_postponed h.holding) queue) (some_in (λ (h : HeldProcess). some_in (is_due time) h.later) queue)) n

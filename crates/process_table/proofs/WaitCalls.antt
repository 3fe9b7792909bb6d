-- What the calls on the waits of a table need of its parts (nothing of the language).
use Rattle.std.proofs.Common.{◌≡◌, ℕ, suc, ◌+◌, ◌<◌, ◌≤◌, Bool, true, false, List, [], ◌∷◌, ◌++◌, length, map, get_or, refl, sym, ap, ◌∙◌, subst, arith, append_assoc}
use Rattle.std.specs.Prelude.{slice_get}
use Rattle.std.specs.List.{All}
use Rattle.std.proofs.lemmas.List.{map_push}
use Rattle.vf_base.specs.Base.{process_number, object_number}
use Rattle.vf_base.specs.declared.ids.ProcId.{ProcId}
use Rattle.vf_base.specs.Lists.{AllHold, joined, map_numbered}
use Rattle.v_design.specs.Trees.{Entry}
use Rattle.v_design.specs.Designs.{FlatDesign}
use Rattle.v_design.specs.Plain.{entry_of}
use Rattle.v_design.specs.States.{ProcessState, found_or, idle_process, some_entry}
use Rattle.v_design.specs.Processes.{Activity}
use Rattle.v_design.specs.Accesses.{ObjectAccess, waiting_entries, waiting_line, ended_of, held_by}
use Rattle.v_design.specs.declared.tree.WaitEntry.{WaitEntry}
use Rattle.causal_monitor.specs.Notes.{noted_access}
use Rattle.causal_monitor.specs.declared.noted.Noted.{Noted}
use Rattle.value_change.specs.Changes.{ObjectChange, matches_one, ended_by_changes}
use Rattle.value_change.specs.declared.change.Change.{Change}
use Rattle.event_queue.specs.Queues.{HeldProcess, numbers_where}
use Rattle.process_table.specs.declared.row.Row.{Row}
use Rattle.process_table.specs.Tables.{TableState, process_in, is_woken}
use Rattle.process_table.specs.Waited.{IsWaitable, body_of, activity_entries}
use Rattle.process_table.specs.Rows.{RowState, row_state, row_states, state_at, made_ready, RowsChange}
use Rattle.process_table.specs.Arranged.{processes_of, IsTable}
use Rattle.process_table.specs.Noted.{EndsWait, IsEntryIn}
use Rattle.process_table.specs.Wakes.{IsWokenAt, HasWoken, HasWaiters, listed_below}
use Rattle.process_table.proofs.Changed.{state-is, waits-at}
use Rattle.process_table.proofs.TableCalls.{process-row, count-processes, wake-processes}
use Rattle.process_table.proofs.Candidates.{waiting-waitable, woken-listed}
use Rattle.process_table.proofs.Numbers.{numbers-below, images-hold, hold-images}
use Rattle.process_table.proofs.NotedLaws.{hold-both}
use Rattle.process_table.proofs.Woken.{one-past, one-none, one-woken, nobody, listed-more, listed-all}

-- an entry for which a process may wait looks at bits of the design
in-design : (design : FlatDesign) (n : ℕ) (entries : List Entry) → AllHold (IsWaitable design (body_of design n)) entries → AllHold (IsEntryIn design) entries
in-design design n [] h = tt
in-design design n (entry ∷ entries) h = (record { there = h.0.there; width = h.0.width }, in-design design n entries h.1)

-- the processes that some changes wake are there
pub ended-below : (changes : List ObjectChange) (processes : List ProcessState) (old new : List ProcId) →
    map process_number new ≡ map process_number old ++ numbers_where (is_woken changes) 0 processes →
    All (λ process. process_number process < length processes) old → All (λ process. process_number process < length processes) new
ended-below changes processes old new is h =
    hold-images process_number (λ n. n < length processes) new
    (subst (AllHold (λ n. n < length processes)) (sym is)
    (hold-both (λ n. n < length processes) (map process_number old) (numbers_where (is_woken changes) 0 processes) (images-hold process_number (λ n. n < length processes) old h)
    (numbers-below (is_woken changes) 0 (length processes) processes (omega arith))))

-- the held entries of one process more
pub held-more : (design : FlatDesign) (n : ℕ) (processes : List ProcessState) (old now new : List ObjectAccess) → now ≡ old ++ listed_below (held_by design) 0 n processes →
    new ≡ now ++ held_by design n (found_or idle_process (slice_get processes n)) → new ≡ old ++ listed_below (held_by design) 0 (n + 1) processes
held-more design n processes old now new had more =
    more ∙ ap (λ xs. xs ++ held_by design n (found_or idle_process (slice_get processes n))) had
    ∙ append_assoc old (listed_below (held_by design) 0 n processes) (held_by design n (found_or idle_process (slice_get processes n)))
    ∙ ap (λ xs. old ++ xs) (sym ((let e : n + 1 ≡ suc n = omega arith in ap (λ k. listed_below (held_by design) 0 k processes) e)
    ∙ listed-more idle_process (held_by design) 0 n n processes (omega arith) refl))

-- those of all processes
pub held-all : (design : FlatDesign) (n : ℕ) (processes : List ProcessState) (old now : List ObjectAccess) → length processes ≤ n → now ≡ old ++ listed_below (held_by design) 0 n processes →
    now ≡ old ++ joined (map_numbered (held_by design) 0 processes)
held-all design n processes old now past had = had ∙ ap (λ xs. old ++ xs) (listed-all (held_by design) 0 n processes past)

module _ (design : FlatDesign) (time : ℕ) (rows : List Row) (waiters : List (List ℕ)) (ready lanes : List Bool) (queue : List HeldProcess)
    (table : IsTable design time rows waiters ready lanes queue) where
  -- the table, as contracts see it
  abbrev seen : TableState
  seen = record { design = design; time = time; processes = processes_of (row_states rows) queue }

  -- the entries of a process's wait look at bits of the design
  pub entries-in : (p : ℕ) → AllHold (IsEntryIn design) (waiting_entries (state_at (row_states rows) p).activity)
  entries-in p = in-design design p (waiting_entries (state_at (row_states rows) p).activity)
      (waiting-waitable design p (state_at (row_states rows) p).activity (waits-at design time rows waiters ready lanes queue table p))

  -- what a process does is what its row does
  pub activity-row : (p : ℕ) → (process_in seen p).activity ≡ (state_at (row_states rows) p).activity
  activity-row p = ap (λ (process : ProcessState). process.activity) (process-row design time rows waiters ready lanes queue table p)

  -- the entries of a process's wait are those of its row
  pub entries-row : (p : ℕ) (row : Row) (entries : List WaitEntry) → p < length rows → row ≡ get_or rows p row → map entry_of entries ≡ waiting_entries (row_state row).activity →
      map entry_of entries ≡ waiting_entries (state_at (row_states rows) p).activity
  entries-row p row entries low is same = same ∙ ap (λ (r : RowState). waiting_entries r.activity) (sym (state-is rows p row low is))

  -- a process that isn't there is done
  pub process-past : (p : ℕ) → length rows ≤ p → process_in seen p ≡ idle_process
  process-past p past = nobody (processes_of (row_states rows) queue) p (omega (arith, past, count-processes design time rows waiters ready lanes queue table))

  -- a process that isn't there isn't woken
  pub woken-past : (changes : List ObjectChange) (entries0 : List ObjectAccess) (ended : List ℕ) (p : ℕ) → length rows ≤ p → IsWokenAt changes seen seen entries0 entries0 ended ended p
  woken-past changes entries0 ended p past = one-past changes seen entries0 ended p (omega (arith, past, count-processes design time rows waiters ready lanes queue table))

  -- whether a process is woken
  woken-told : (changes : List ObjectChange) (p : ℕ) (told : Bool) (before after : List Noted) → EndsWait changes p (state_at (row_states rows) p).activity told before after →
      is_woken changes (process_in seen p) ≡ told
  woken-told changes p told before after ends = ap (λ (a : Activity). some_entry (matches_one changes) (waiting_entries a)) (activity-row p) ∙ sym ends.told_is

  -- the accesses of the wait that ends
  noted-told : (changes : List ObjectChange) (p : ℕ) (told : Bool) (before after : List Noted) → EndsWait changes p (state_at (row_states rows) p).activity told before after →
      map noted_access after ≡ map noted_access before ++ ended_by_changes changes p (process_in seen p)
  noted-told changes p told before after ends =
      ends.accesses
      ∙ ap (λ (a : Activity). map noted_access before ++ ended_of (some_entry (matches_one changes) (waiting_entries a)) (matches_one changes) p (waiting_line a) (waiting_entries a))
      (sym (activity-row p))

  -- one whose wait doesn't end
  pub woken-stays : (changes : List ObjectChange) (p : ℕ) (before after : List Noted) (ended : List ℕ) → EndsWait changes p (state_at (row_states rows) p).activity false before after →
      IsWokenAt changes seen seen (map noted_access before) (map noted_access after) ended ended p
  woken-stays changes p before after ended ends =
      one-none changes seen (map noted_access before) (map noted_access after) ended p (woken-told changes p false before after ends) (noted-told changes p false before after ends)

  -- one whose wait ends
  pub woken-ends : (changes : List ObjectChange) (process : ProcId) (before after : List Noted) (ended0 ended1 : List ProcId) (rows1 : List Row) →
      EndsWait changes (process_number process) (state_at (row_states rows) (process_number process)).activity true before after →
      RowsChange rows rows1 (process_number process) made_ready → ended1 ≡ ended0 ++ process ∷ [] →
      IsWokenAt changes seen (record { design = design; time = time; processes = processes_of (row_states rows1) queue }) (map noted_access before) (map noted_access after)
      (map process_number ended0) (map process_number ended1) (process_number process)
  woken-ends changes process before after ended0 ended1 rows1 ends row pushed =
      let p = process_number process in
      one-woken changes seen (record { design = design; time = time; processes = processes_of (row_states rows1) queue }) (map noted_access before) (map noted_access after)
      (map process_number ended0) (map process_number ended1) p
      (woken-told changes p true before after ends)
      (ap (λ ps. record seen { processes = ps }) (wake-processes design time rows waiters ready lanes queue table changes p rows1 (sym ends.told_is) row))
      (noted-told changes p true before after ends)
      (ap (map process_number) pushed ∙ map_push process_number ended0 process)

  -- each process that some changes wake is one that may wait on an object of one of them
  pub woken-candidates : (changes : List ObjectChange) (numbers : List ℕ) → HasWaiters waiters changes numbers → HasWoken changes (processes_of (row_states rows) queue) numbers
  woken-candidates changes numbers among =
      woken-listed design waiters changes numbers (processes_of (row_states rows) queue) table.index among
      (λ n. subst (λ (a : Activity). AllHold (IsWaitable design (body_of design n)) (activity_entries a)) (sym (activity-row n)) (waits-at design time rows waiters ready lanes queue table n))

  -- the objects of the changes have lists
  pub changes-indexed : (changes : List Change) → All (λ (change : Change). object_number change.object < length design.objects) changes →
      All (λ (change : Change). object_number change.object < length waiters) changes
  changes-indexed changes h = subst (λ n. All (λ (change : Change). object_number change.object < n) changes) (sym table.index.objects) h

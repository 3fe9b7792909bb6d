-- What one event tells, as a block tells it (IEEE 1364-2001, clause 5).
use Rattle.std.proofs.Common.{◌≡◌, ℕ, ◌<◌, ◌≤◌, List, [], ◌∷◌, ◌++◌, length, map, Bool, true, false, not, ◌||◌, ◌&&◌, refl, sym, ap, ◌∙◌, arith}
use Rattle.std.specs.Prelude.{Option, Some, None, slice_get, nat_lt}
use Rattle.std.specs.List.{All}
use Rattle.std.proofs.lemmas.List.{map-append, get_or_past}
use Rattle.std.proofs.lemmas.List.Elements.{All-head, All-tail}
use Rattle.std.proofs.lemmas.Option.{slice_get_past}
use Rattle.std.proofs.lemmas.Bool.{ltb-true, ltb-false, ne_eqb}
use Rattle.vf_base.specs.Base.{object_number, process_number}
use Rattle.vf_base.specs.Lists.{has}
use Rattle.vf_base.specs.declared.ids.ProcId.{ProcId}
use Rattle.four_value.specs.Values.{same_value}
use Rattle.four_value.specs.ValueLaws.{from_same_value}
use Rattle.v_design.specs.Designs.{FlatNode, Machine}
use Rattle.v_design.specs.Assignments.{value_at}
use Rattle.v_design.specs.Processes.{Activity, Ready, Waiting, Asleep, Postponed, Done}
use Rattle.v_design.specs.States.{State, Event, Step, LaneStep, Evaluation, NetUpdate, after, evaluated, found_or, idle_process, process_at, is_ready, is_process_event}
use Rattle.v_design.specs.Accesses.{ObjectAccess, is_waiting, accesses_of}
use Rattle.v_design.specs.PhaseLogs.{writer_process}
use Rattle.event_causes.specs.Causes.{Tells}
use Rattle.value_change.specs.declared.change.Change.{Change}
use Rattle.slot_record.specs.Records.{TellsUpdate, write_of_change}
use Rattle.machine_laws.specs.StepTells.{TellsStep}
use Rattle.block_told.specs.Tells.{Seen, access_seen, write_seen}
use Rattle.block_told.specs.Prefixes.{wait_ends}

-- what an event tells: its accesses, the objects that it changes, and whose waits it ends
pub record TellsEvent (machine : Machine) (state : State) (event : Event) (seen : List Seen) (changed ended : List ℕ) : Type 0 where
  pub accesses : (writer line : ℕ) → seen ≡ map access_seen (accesses_of machine writer line state event)
  pub changes : (object : ℕ) → has changed object ≡ false → value_at (after machine state event).values object ≡ value_at state.values object
  pub waits : (process : ℕ) → has ended process ≡ wait_ends machine state event process

-- before and behind the event there are as many objects and processes as the design has, and the processes that are told are among them
pub record AreCounted (machine : Machine) (state : State) (event : Event) (ended : List ProcId) : Type 0 where
  pub objects : length state.values ≡ length machine.design.objects
  pub objects_after : length (after machine state event).values ≡ length machine.design.objects
  pub processes : length state.processes ≡ length machine.design.processes
  pub processes_after : length (after machine state event).processes ≡ length machine.design.processes
  pub told : All (λ (process : ProcId). process_number process < length machine.design.processes) ended

-- Evaluations

waits-or-ready : (activity : Activity) → (is_waiting activity && is_ready activity) ≡ false
waits-or-ready (Ready tasks operands) = refl
waits-or-ready (Waiting place entries tasks) = refl
waits-or-ready (Asleep time tasks) = refl
waits-or-ready (Postponed tasks) = refl
waits-or-ready Done = refl

pub evaluation-tells : (machine : Machine) (state : State) (node : ℕ) → TellsEvent machine state (Evaluation node) [] [] []
evaluation-tells machine state node = record {
  accesses = λ writer line. refl;
  changes = λ object fails. ap (λ l. value_at l object) (same-values (slice_get machine.design.nodes node));
  waits = λ process. sym (ap (λ l. is_waiting (process_at state process).activity && is_ready (found_or idle_process (slice_get l process)).activity)
      (same-processes (slice_get machine.design.nodes node)) ∙ waits-or-ready (process_at state process).activity);
}
  where
    same-values : (found : Option FlatNode) → (evaluated machine node found state).values ≡ state.values
    same-values None = refl
    same-values (Some text) = refl

    same-processes : (found : Option FlatNode) → (evaluated machine node found state).processes ≡ state.processes
    same-processes None = refl
    same-processes (Some text) = refl

-- Events that are told

-- no process past all that are told is among them
none-past : (count process : ℕ) (ended : List ProcId) → count ≤ process → All (λ (p : ProcId). process_number p < count) ended → has (map process_number ended) process ≡ false
none-past count process [] past all = refl
none-past count process (p ∷ ended) past all =
    (λ i. ne_eqb (process_number p) process (λ e. absurd (omega (arith, past, e, All-head (λ (q : ProcId). process_number q < count) p ended all))) i
    || none-past count process ended past (All-tail (λ (q : ProcId). process_number q < count) p ended all) i)

changes-told : (machine : Machine) (state : State) (event : Event) (changed : List ℕ) (ended : List ProcId) (numbers : List ℕ) → Tells machine state event changed numbers →
    AreCounted machine state event ended → (object : ℕ) → has changed object ≡ false → value_at (after machine state event).values object ≡ value_at state.values object
changes-told machine state event changed ended numbers tells counted object fails = go (nat_lt object (length machine.design.objects)) refl
  where
    not-false : (b : Bool) → not b ≡ false → b ≡ true
    not-false true e = refl
    not-false false e = cc

    go : (b : Bool) → nat_lt object (length machine.design.objects) ≡ b → value_at (after machine state event).values object ≡ value_at state.values object
    go true e =
        sym (from_same_value _ _ (not-false (same_value (value_at state.values object) (value_at (after machine state event).values object))
        (sym (tells.objects object (ltb-true _ _ e)) ∙ fails)))
    go false e =
        let past : length machine.design.objects ≤ object = ltb-false _ _ e in
        get_or_past (after machine state event).values object [] (omega (arith, past, counted.objects_after)) ∙ sym (get_or_past state.values object [] (omega (arith, past, counted.objects)))

waits-told : (machine : Machine) (state : State) (event : Event) (changed : List ℕ) (ended : List ProcId) → Tells machine state event changed (map process_number ended) →
    AreCounted machine state event ended → (process : ℕ) → has (map process_number ended) process ≡ wait_ends machine state event process
waits-told machine state event changed ended tells counted process = go (nat_lt process (length machine.design.processes)) refl
  where
    go : (b : Bool) → nat_lt process (length machine.design.processes) ≡ b → has (map process_number ended) process ≡ wait_ends machine state event process
    go true e = tells.waits process (ltb-true _ _ e)
    go false e =
        let past : length machine.design.processes ≤ process = ltb-false _ _ e in
        let none : slice_get state.processes process ≡ None = slice_get_past state.processes process (omega (arith, past, counted.processes)) in
        none-past (length machine.design.processes) process ended past counted.told
        ∙ sym (ap (λ o. is_waiting (found_or idle_process o).activity && is_ready (process_at (after machine state event) process).activity) none)

-- a process or lane step
pub step-tells : (machine : Machine) (state : State) (event : Event) (line : ℕ) (accesses : List ObjectAccess) (changed : List ℕ) (ended : List ProcId) → is_process_event event ≡ true →
    TellsStep machine state event line accesses changed (map process_number ended) → AreCounted machine state event ended →
    TellsEvent machine state event (map access_seen accesses) changed (map process_number ended)
step-tells machine state event line accesses changed ended own tells counted = record {
  accesses = λ writer other. ap (map access_seen) (tells.accesses_are ∙ any-writer event own writer other);
  changes = changes-told machine state event changed ended (map process_number ended) tells.tells counted;
  waits = waits-told machine state event changed ended tells.tells counted;
}
  where
    any-writer : (event : Event) → is_process_event event ≡ true → (writer other : ℕ) →
        accesses_of machine (writer_process event None) line state event ≡ accesses_of machine writer other state event
    any-writer (Step process) e writer other = refl
    any-writer (LaneStep process) e writer other = refl
    any-writer (Evaluation node) e writer other = cc
    any-writer (NetUpdate node) e writer other = cc

-- the update of a node's nets
pub update-tells : (machine : Machine) (state : State) (node : ℕ) (changes : List Change) (accesses : List ObjectAccess) (ended : List ProcId) →
    TellsUpdate machine state node changes accesses (map process_number ended) → AreCounted machine state (NetUpdate node) ended →
    TellsEvent machine state (NetUpdate node) (map write_seen changes ++ map access_seen accesses) (map (λ (change : Change). object_number change.object) changes) (map process_number ended)
update-tells machine state node changes accesses ended tells counted = record {
  accesses = λ writer line.
      ap (λ l. l ++ map access_seen accesses) (writes writer line changes) ∙ sym (map-append access_seen (map (write_of_change writer line) changes) accesses)
      ∙ ap (map access_seen) (tells.accesses_are writer line);
  changes = changes-told machine state (NetUpdate node) _ ended (map process_number ended) tells.tells counted;
  waits = waits-told machine state (NetUpdate node) _ ended tells.tells counted;
}
  where
    writes : (writer line : ℕ) (changes : List Change) → map write_seen changes ≡ map access_seen (map (write_of_change writer line) changes)
    writes writer line [] = refl
    writes writer line (c ∷ changes) = ap (λ l. write_seen c ∷ l) (writes writer line changes)

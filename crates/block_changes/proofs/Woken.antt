-- An event leaves a process as it is, or ends its wait, where it is no step of it or its lane.
use Rattle.std.proofs.Common.{◌≡◌, ℕ, List, [], ◌∷◌, Bool, true, false, ◌&&◌, refl, sym, ap, ◌∙◌, ◌⊎◌, inl, inr}
use Rattle.std.specs.Prelude.{Option, Some, None, slice_get, nat_eq}
use Rattle.std.proofs.lemmas.Bool.{eq-eqb}
use Rattle.four_value.specs.Values.{LogicValue}
use Rattle.v_design.specs.Designs.{FlatNode, Machine}
use Rattle.v_design.specs.Assignments.{ValueUpdate, value_at}
use Rattle.v_design.specs.Processes.{Activity, Ready, Waiting, Asleep, Postponed, Done}
use Rattle.v_design.specs.States.{State, ProcessState, Event, Step, LaneStep, Evaluation, NetUpdate, after, process_at, node_at, idle_process, is_ready, some_entry, entry_matches, ready_if, woken}
use Rattle.v_design.specs.States.{woken_process, with_value, with_values, with_process, with_node, value_written, written_if, write_of, step_of, after_step, first_update, after_lane_step, evaluated}
use Rattle.v_design.specs.States.{nets_updated}
use Rattle.v_design.specs.Accesses.{is_waiting}
use Rattle.v_design.specs.PhaseLogs.{is_step_of, is_lane_of}
use Rattle.copy_laws.specs.QuietPhases.{ends_its_wait}
use Rattle.copy_laws.proofs.Parts.{true-false, changed-elsewhere, found-mapped}
use Rattle.block_changes.specs.Changes.{OnlyWokenChange}

-- a process is as it was, or was waiting and is ready
abbrev SameOrWoken : State → State → ℕ → Type 0
SameOrWoken before later p =
    (process_at later p ≡ process_at before p) ⊎ ((is_waiting (process_at before p).activity ≡ true) × (is_ready (process_at later p).activity ≡ true))

woken-cases : (object : ℕ) (old new : LogicValue) (process : ProcessState) →
    (woken_process object old new process ≡ process) ⊎ ((is_waiting process.activity ≡ true) × (is_ready (woken_process object old new process).activity ≡ true))
woken-cases object old new process = go process.activity
  where
    with-activity : Activity → ProcessState
    with-activity activity = record process { activity = activity }

    go : (activity : Activity) →
        (woken_process object old new (record process { activity = activity }) ≡ record process { activity = activity })
        ⊎ ((is_waiting activity ≡ true) × (is_ready (woken object old new activity) ≡ true))
    go (Ready tasks operands) = inl refl
    go (Waiting place entries tasks) = waits (some_entry (entry_matches object old new) entries)
      where
        waits : (b : Bool) →
            (record process { activity = ready_if b (Waiting place entries tasks) tasks } ≡ record process { activity = Waiting place entries tasks })
            ⊎ ((true ≡ true) × (is_ready (ready_if b (Waiting place entries tasks) tasks) ≡ true))
        waits true = inr (refl, refl)
        waits false = inl refl
    go (Asleep time tasks) = inl refl
    go (Postponed tasks) = inl refl
    go Done = inl refl

put-cases : (machine : Machine) (object : ℕ) (new : LogicValue) (state : State) (p : ℕ) → SameOrWoken state (with_value machine object new state) p
put-cases machine object new state p = elim (woken-cases object (value_at state.values object) new (process_at state p)) [
  | inl same ↦ inl (mapped ∙ same)
  | inr own ↦ inr (own.0, ap (λ (s : ProcessState). is_ready s.activity) mapped ∙ own.1)
]
  where
    mapped : process_at (with_value machine object new state) p ≡ woken_process object (value_at state.values object) new (process_at state p)
    mapped = found-mapped (woken_process object (value_at state.values object) new) idle_process state.processes p refl

-- one change after another
joined-cases : (one two three : State) (p : ℕ) → (is_ready (process_at two p).activity ≡ true → is_ready (process_at three p).activity ≡ true) → SameOrWoken one two p → SameOrWoken two three p →
    SameOrWoken one three p
joined-cases one two three p stays (inl same) (inl also) = inl (also ∙ same)
joined-cases one two three p stays (inl same) (inr own) = inr (sym (ap (λ (s : ProcessState). is_waiting s.activity) same) ∙ own.0, own.1)
joined-cases one two three p stays (inr own) then = inr (own.0, stays own.1)

ready-woken : (object : ℕ) (old new : LogicValue) (activity : Activity) → is_ready activity ≡ true → is_ready (woken object old new activity) ≡ true
ready-woken object old new (Ready tasks operands) r = refl
ready-woken object old new (Waiting place entries tasks) r = cc
ready-woken object old new (Asleep time tasks) r = cc
ready-woken object old new (Postponed tasks) r = cc
ready-woken object old new Done r = cc

put-ready : (machine : Machine) (object : ℕ) (new : LogicValue) (state : State) (p : ℕ) → is_ready (process_at state p).activity ≡ true →
    is_ready (process_at (with_value machine object new state) p).activity ≡ true
put-ready machine object new state p r =
    ap (λ (s : ProcessState). is_ready s.activity) (found-mapped (woken_process object (value_at state.values object) new) idle_process state.processes p refl)
    ∙ ready-woken object (value_at state.values object) new (process_at state p).activity r

puts-ready : (machine : Machine) (objects : List ℕ) (values : List LogicValue) (state : State) (p : ℕ) → is_ready (process_at state p).activity ≡ true →
    is_ready (process_at (with_values machine objects values state) p).activity ≡ true
puts-ready machine [] values state p r = r
puts-ready machine (object ∷ objects) [] state p r = r
puts-ready machine (object ∷ objects) (value ∷ values) state p r = puts-ready machine objects values (with_value machine object value state) p (put-ready machine object value state p r)

puts-cases : (machine : Machine) (objects : List ℕ) (values : List LogicValue) (state : State) (p : ℕ) → SameOrWoken state (with_values machine objects values state) p
puts-cases machine [] values state p = inl refl
puts-cases machine (object ∷ objects) [] state p = inl refl
puts-cases machine (object ∷ objects) (value ∷ values) state p =
    joined-cases state (with_value machine object value state) (with_values machine objects values (with_value machine object value state)) p
    (puts-ready machine objects values (with_value machine object value state) p) (put-cases machine object value state p)
    (puts-cases machine objects values (with_value machine object value state) p)

written-cases : (machine : Machine) (update : Option ValueUpdate) (before state : State) (p : ℕ) → process_at state p ≡ process_at before p →
    SameOrWoken before (written_if machine update state) p
written-cases machine None before state p same = inl same
written-cases machine (Some update) before state p same = elim (put-cases machine update.object (value_written machine state update) state p) [
  | inl also ↦ inl (also ∙ same)
  | inr own ↦ inr (sym (ap (λ (s : ProcessState). is_waiting s.activity) same) ∙ own.0, own.1)
]

event-cases : (machine : Machine) (state : State) (event : Event) (p : ℕ) → is_step_of p event ≡ false → is_lane_of p event ≡ false → SameOrWoken state (after machine state event) p
event-cases machine state (Step q) p step lane =
    written-cases machine (write_of (step_of machine state q).action) state (with_process q (after_step state (step_of machine state q)) state) p
    (changed-elsewhere idle_process state.processes q (after_step state (step_of machine state q)) p (λ same. true-false (nat_eq p q) (eq-eqb p q (sym same)) step))
event-cases machine state (LaneStep q) p step lane =
    written-cases machine (first_update (process_at state q).lane) state (with_process q after_lane_step state) p
    (changed-elsewhere idle_process state.processes q after_lane_step p (λ same. true-false (nat_eq p q) (eq-eqb p q (sym same)) lane))
event-cases machine state (Evaluation number) p step lane = go (slice_get machine.design.nodes number)
  where
    go : (node : Option FlatNode) → SameOrWoken state (evaluated machine number node state) p
    go None = inl refl
    go (Some node) = inl refl
event-cases machine state (NetUpdate number) p step lane = go (slice_get machine.design.nodes number) (node_at state number).pending
  where
    go : (node : Option FlatNode) (pending : Option (List LogicValue)) → SameOrWoken state (nets_updated machine number node pending state) p
    go None pending = inl refl
    go (Some node) None = inl refl
    go (Some node) (Some values) = puts-cases machine node.outputs values (with_node number (λ old. record old { pending = None }) state) p

pub only_woken_change : OnlyWokenChange
only_woken_change machine state event p step lane wait = elim (event-cases machine state event p step lane) [
  | inl same ↦ same
  | inr own ↦
      true-false (ends_its_wait machine state event p) (λ i. own.0 i && own.1 i) wait
]

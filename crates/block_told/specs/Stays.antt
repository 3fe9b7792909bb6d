-- What an event leaves of a process that takes no step in it (IEEE 1364-2001, clauses 5 and 9.7).
use Rattle.std.proofs.Common.{◌≡◌, ℕ, zero, suc, List, [], ◌∷◌, Bool, true, false, ◌&&◌, refl, sym, ap, ◌∙◌, ◌⊎◌, inl, inr}
use Rattle.std.specs.Prelude.{Option, Some, None, slice_get}
use Rattle.four_value.specs.Values.{LogicValue}
use Rattle.vf_base.specs.Lists.{change_at}
use Rattle.v_design.specs.Designs.{FlatNode, Machine}
use Rattle.v_design.specs.Assignments.{ValueUpdate, value_at}
use Rattle.v_design.specs.Processes.{Activity, Ready, Waiting, Asleep, Postponed, Done, Task}
use Rattle.v_design.specs.States.{State, ProcessState, Event, Step, LaneStep, Evaluation, NetUpdate, after, after_step, after_lane_step, first_update, found_or, idle_process, is_ready, process_at}
use Rattle.v_design.specs.States.{some_entry, entry_matches, ready_if, step_of, with_node, with_process, with_value, with_values, woken, write_of, written_if, evaluated, nets_updated, node_at}
use Rattle.v_design.specs.Accesses.{is_waiting}
use Rattle.machine_laws.specs.Waits.{changed-elsewhere}
use Rattle.order_laws.proofs.Woken.{process-with_value, lane_after_other, later_after}

-- a process does what it did, or its wait has ended
abbrev pub IsOrWoke : Activity → Activity → Type 0
IsOrWoke old new = (new ≡ old) ⊎ ((is_waiting old ≡ true) × (is_ready new ≡ true))

if-woke : (b : Bool) (waits : Activity) (tasks : List Task) → is_waiting waits ≡ true → IsOrWoke waits (ready_if b waits tasks)
if-woke true waits tasks w = inr (w, refl)
if-woke false waits tasks w = inl refl

woke : (object : ℕ) (old new : LogicValue) (activity : Activity) → IsOrWoke activity (woken object old new activity)
woke object old new (Ready tasks operands) = inl refl
woke object old new (Waiting place entries tasks) = if-woke (some_entry (entry_matches object old new) entries) (Waiting place entries tasks) tasks refl
woke object old new (Asleep time tasks) = inl refl
woke object old new (Postponed tasks) = inl refl
woke object old new Done = inl refl

woken-ready : (object : ℕ) (old new : LogicValue) (activity : Activity) → is_ready activity ≡ true → is_ready (woken object old new activity) ≡ true
woken-ready object old new (Ready tasks operands) e = refl
woken-ready object old new (Waiting place entries tasks) e = cc
woken-ready object old new (Asleep time tasks) e = cc
woken-ready object old new (Postponed tasks) e = cc
woken-ready object old new Done e = cc

-- one write more
woke-more : (first middle : Activity) (object : ℕ) (old new : LogicValue) → IsOrWoke first middle → IsOrWoke first (woken object old new middle)
woke-more first middle object old new (inl same) = elim (woke object old new middle) [
  | inl is ↦ inl (is ∙ same)
  | inr ready ↦ inr (ap is_waiting (sym same) ∙ ready.0, ready.1)
]
woke-more first middle object old new (inr ready) = inr (ready.0, woken-ready object old new middle ready.1)

abbrev act_at : State → ℕ → Activity
act_at state process = (process_at state process).activity

put-woke : (machine : Machine) (object : ℕ) (new : LogicValue) (first state : State) (process : ℕ) → IsOrWoke (act_at first process) (act_at state process) →
    IsOrWoke (act_at first process) (act_at (with_value machine object new state) process)
put-woke machine object new first state process is =
    let e : act_at (with_value machine object new state) process ≡ woken object (value_at state.values object) new (act_at state process) =
    ap (λ (p : ProcessState). p.activity) (process-with_value machine object new state process) in
    elim (woke-more (act_at first process) (act_at state process) object (value_at state.values object) new is) [
      | inl same ↦ inl (e ∙ same)
      | inr ready ↦ inr (ready.0, ap is_ready e ∙ ready.1)
    ]

puts-woke : (machine : Machine) (objects : List ℕ) (values : List LogicValue) (first state : State) (process : ℕ) → IsOrWoke (act_at first process) (act_at state process) →
    IsOrWoke (act_at first process) (act_at (with_values machine objects values state) process)
puts-woke machine [] values first state process is = is
puts-woke machine (object ∷ objects) [] first state process is = is
puts-woke machine (object ∷ objects) (value ∷ values) first state process is =
    puts-woke machine objects values first (with_value machine object value state) process (put-woke machine object value first state process is)

written-woke : (machine : Machine) (write : Option ValueUpdate) (first state : State) (process : ℕ) → IsOrWoke (act_at first process) (act_at state process) →
    IsOrWoke (act_at first process) (act_at (written_if machine write state) process)
written-woke machine None first state process is = is
written-woke machine (Some update) first state process is = put-woke machine update.object _ first state process is

evaluated-woke : (machine : Machine) (node : ℕ) (found : Option FlatNode) (state : State) (process : ℕ) → IsOrWoke (act_at state process) (act_at (evaluated machine node found state) process)
evaluated-woke machine node None state process = inl refl
evaluated-woke machine node (Some text) state process = inl refl

updated-woke : (machine : Machine) (node : ℕ) (found : Option FlatNode) (pending : Option (List LogicValue)) (state : State) (process : ℕ) →
    IsOrWoke (act_at state process) (act_at (nets_updated machine node found pending state) process)
updated-woke machine node None pending state process = inl refl
updated-woke machine node (Some text) None state process = inl refl
updated-woke machine node (Some text) (Some values) state process = puts-woke machine text.outputs values state (with_node node (λ old. record old { pending = None }) state) process (inl refl)

-- a lane that goes on leaves what each process does
lane-act : (xs : List ProcessState) (number process : ℕ) →
    (found_or idle_process (slice_get (change_at xs number after_lane_step) process)).activity ≡ (found_or idle_process (slice_get xs process)).activity
lane-act [] number process = refl
lane-act (x ∷ xs) zero zero = refl
lane-act (x ∷ xs) zero (suc process) = refl
lane-act (x ∷ xs) (suc number) zero = refl
lane-act (x ∷ xs) (suc number) (suc process) = lane-act xs number process

-- an event leaves what a process does which takes no step in it, or ends its wait
pub event-woke : (machine : Machine) (state : State) (event : Event) (process : ℕ) → (Step process ≡ event → ⊥) → IsOrWoke (act_at state process) (act_at (after machine state event) process)
event-woke machine state (Step number) process other =
    written-woke machine (write_of (step_of machine state number).action) state (with_process number (after_step state (step_of machine state number)) state) process
    (inl (ap (λ (p : ProcessState). p.activity)
    (changed-elsewhere idle_process state.processes number process (after_step state (step_of machine state number)) (λ same. other (ap Step (sym same))))))
event-woke machine state (LaneStep number) process other =
    written-woke machine (first_update (process_at state number).lane) state (with_process number after_lane_step state) process (inl (lane-act state.processes number process))
event-woke machine state (Evaluation node) process other = evaluated-woke machine node (slice_get machine.design.nodes node) state process
event-woke machine state (NetUpdate node) process other = updated-woke machine node (slice_get machine.design.nodes node) (node_at state node).pending state process

-- a ready process stays ready
pub ready-stays : (machine : Machine) (state : State) (event : Event) (process : ℕ) → (Step process ≡ event → ⊥) → is_ready (act_at state process) ≡ true →
    is_ready (act_at (after machine state event) process) ≡ true
ready-stays machine state event process other ready = elim (event-woke machine state event process other) [ inl same ↦ ap is_ready same ∙ ready | inr woke ↦ woke.1 ]

both-true : (a b : Bool) → a ≡ true → b ≡ true → (a && b) ≡ false → ⊥
both-true true true p q e = cc
both-true true false p q e = cc
both-true false b p q e = cc

-- a process of which no step or lane step is taken, and whose wait doesn't end, stays as it was
pub process-stays : (machine : Machine) (state : State) (event : Event) (process : ℕ) → (Step process ≡ event → ⊥) → (LaneStep process ≡ event → ⊥) →
    (is_waiting (act_at state process) && is_ready (act_at (after machine state event) process)) ≡ false → process_at (after machine state event) process ≡ process_at state process
process-stays machine state event process no_step no_lane no_end =
    let act : act_at (after machine state event) process ≡ act_at state process =
    elim (event-woke machine state event process no_step) [ inl same ↦ same | inr woke ↦ absurd (both-true _ _ woke.0 woke.1 no_end) ] in
    λ i. record { activity = act i; later = later_after machine state event process no_step i; lane = lane_after_other machine state event process no_lane i }

-- At a slot's end nothing is left to do before time moves on.
use Rattle.std.proofs.Common.{◌≡◌, ℕ, zero, suc, ◌<◌, List, [], ◌∷◌, map, length, get_or, true, false, refl, sym, ap, subst, ◌∙◌, inl, inr, arith}
use Rattle.std.specs.Prelude.{Option, Some, None, is_some, slice_get}
use Rattle.std.proofs.lemmas.List.{length-map, ext_get_or}
use Rattle.std.proofs.lemmas.Option.{slice_get_cases, slice_get-get_or}
use Rattle.v_design.specs.Designs.{FlatDesign, FlatProcess, Machine, TestPlan, good_machine}
use Rattle.v_design.specs.Assignments.{ValueUpdate}
use Rattle.v_design.specs.Processes.{Ready, opened}
use Rattle.v_design.specs.States.{State, ProcessState, NodeState, TimeTurn, process_at, node_at, found_or, idle_process, idle_node, some_in, has_event, has_work, is_ready, is_any}
use Rattle.v_design.specs.States.{is_quiescent, start, time_turn, awake_at}
use Rattle.v_design.specs.Runs.{FirstSlot, first_moves, first_run, slot_end, is_hyper, next_slot, all_made}
use Rattle.v_design.specs.WellFormed.{KeepsRules}
use Rattle.v_design.specs.Laws.{BeginsPhase, HaveWidths}
use Rattle.order_laws.specs.FirstRuns.{Follow}
use Rattle.copy_laws.specs.Windows.{good_slots}
use Rattle.between_slots.specs.Updates.{Rests, StatesRest, StatesHaveWidths, RestingStatesAreTold}
use Rattle.between_slots.proofs.Resting.{LoopLaws, Asked, few-steps, next-asked, or-neither, quiet-parts, slot-asked, slot-rests, some-slot}
use Rattle.between_slots.proofs.Leading.{after-is, through-get}

-- Slots that begin as the laws ask

-- a slot begins as the laws ask, and makes the moves of the first order
pub record IsAsked (machine : Machine) (slot : FirstSlot) : Type 0 where
  pub asked : BeginsPhase machine slot.begins
  pub moves : slot.moves ≡ first_moves machine slot.begins

follow-asked : LoopLaws → (machine : Machine) → KeepsRules machine.design → (time : ℕ) (begins : Option State) (slots : List FirstSlot) → Asked machine begins → Follow machine time begins slots →
    (number : ℕ) (slot : FirstSlot) → slice_get slots number ≡ Some slot → IsAsked machine slot
follow-asked laws machine rules time None [] asked follow number slot here = cc
follow-asked laws machine rules time None (first ∷ slots) asked follow number slot here = absurd follow
follow-asked laws machine rules time (Some state) [] asked follow number slot here = absurd follow
follow-asked laws machine rules time (Some state) (first ∷ slots) asked follow zero slot here =
    subst (IsAsked machine) (sym follow.0 ∙ some-slot first slot here) (record { asked = asked; moves = refl })
follow-asked laws machine rules time (Some state) (first ∷ slots) asked follow (suc number) slot here =
    follow-asked laws machine rules time (next_slot machine time first) slots
    (subst (λ s. Asked machine (next_slot machine time s)) (sym follow.0) (slot-asked laws machine rules time state asked)) follow.1 number slot here

-- those of the good first run
pub good-asked : LoopLaws → (design : FlatDesign) (plan : TestPlan) → KeepsRules design → (number : ℕ) (slot : FirstSlot) → slice_get (good_slots design plan) number ≡ Some slot →
    IsAsked (good_machine design) slot
good-asked laws design plan rules number slot here =
    let machine = good_machine design in
    follow-asked laws machine rules plan.end (Some (start machine)) (first_run machine plan.end) (laws.phases.first machine rules) (laws.runs.follow machine plan.end rules) number slot
    (through-get machine (first_run machine plan.end) number slot here)

-- its steps are few where it isn't hyperactive
pub asked-few : (machine : Machine) (slot : FirstSlot) → IsAsked machine slot → is_hyper slot ≡ false → is_hyper (record { begins = slot.begins; moves = first_moves machine slot.begins }) ≡ false
asked-few machine slot asked few = ap (λ moves. is_hyper (record { begins = slot.begins; moves = moves })) (sym asked.moves) ∙ few

-- Nothing is left to do

none-is : {A : Type 0} (o : Option A) → is_some o ≡ false → o ≡ None
none-is None e = refl
none-is (Some x) e = cc

idle-is : (node : NodeState) → has_work node ≡ false → node ≡ idle_node
idle-is node e = let parts = or-neither node.marked (is_some node.pending) e in λ i. record { marked = parts.0 i; pending = none-is node.pending parts.1 i }

quiet-node : (xs : List NodeState) (n : ℕ) → some_in has_work xs ≡ false → has_work (found_or idle_node (slice_get xs n)) ≡ false
quiet-node [] n h = refl
quiet-node (x ∷ xs) zero h = (or-neither (has_work x) (some_in has_work xs) h).0
quiet-node (x ∷ xs) (suc n) h = quiet-node xs n (or-neither (has_work x) (some_in has_work xs) h).1

empty-is : (lane : List ValueUpdate) → is_any lane ≡ false → lane ≡ []
empty-is [] e = refl
empty-is (update ∷ lane) e = cc

quiet-lane : (xs : List ProcessState) (p : ℕ) → some_in has_event xs ≡ false → is_any (found_or idle_process (slice_get xs p)).lane ≡ false
quiet-lane [] p h = refl
quiet-lane (x ∷ xs) zero h = (or-neither (is_ready x.activity) (is_any x.lane) (or-neither (has_event x) (some_in has_event xs) h).0).1
quiet-lane (x ∷ xs) (suc p) h = quiet-lane xs p (or-neither (has_event x) (some_in has_event xs) h).1

-- at a slot's end
end-rests : LoopLaws → (machine : Machine) → KeepsRules machine.design → (slot : FirstSlot) → IsAsked machine slot → is_hyper slot ≡ false → Rests machine.design (slot_end machine slot)
end-rests laws machine rules slot asked few =
    subst (λ moves. Rests machine.design (all_made machine slot.begins moves)) (sym asked.moves) (record {
      value_count = later.fits.values;
      node_count = later.fits.nodes;
      process_count =
          sym (length-map end.processes (λ (process : ProcessState). record process { activity = awake_at 0 process.activity })) ∙ later.fits.processes;
      nodes = λ n. idle-is (node_at end n) (quiet-node end.nodes n later.idle);
      lanes = λ p. empty-is (process_at end p).lane (quiet-lane end.processes p (quiet-parts (some_in has_event end.processes) (some_in has_work end.nodes) rests));
    })
  where
    end : State
    end = all_made machine slot.begins (first_moves machine slot.begins)

    later : BeginsPhase machine (time_turn 0 (all_made machine slot.begins (first_moves machine slot.begins)))
    later = next-asked laws machine rules slot.begins asked.asked (few-steps (record { begins = slot.begins; moves = first_moves machine slot.begins }) (asked-few machine slot asked few))
        (TimeTurn 0)

    rests : is_quiescent (all_made machine slot.begins (first_moves machine slot.begins)) ≡ true
    rests = slot-rests laws machine rules slot.begins asked.asked (few-steps (record { begins = slot.begins; moves = first_moves machine slot.begins }) (asked-few machine slot asked few))

end-widths : LoopLaws → (machine : Machine) → KeepsRules machine.design → (slot : FirstSlot) → IsAsked machine slot → is_hyper slot ≡ false → HaveWidths machine (slot_end machine slot).values
end-widths laws machine rules slot asked few =
    subst (λ moves. HaveWidths machine (all_made machine slot.begins moves).values) (sym asked.moves)
    (next-asked laws machine rules slot.begins asked.asked (few-steps (record { begins = slot.begins; moves = first_moves machine slot.begins }) (asked-few machine slot asked few))
    (TimeTurn 0)).widths

-- and at the start
start-lane : (processes : List FlatProcess) (p : ℕ) →
    (found_or idle_process (slice_get (map (λ (process : FlatProcess). record { activity = Ready (opened process.body []) []; later = []; lane = [] }) processes) p)).lane ≡ []
start-lane [] p = refl
start-lane (process ∷ processes) zero = refl
start-lane (process ∷ processes) (suc p) = start-lane processes p

start-rests : LoopLaws → (machine : Machine) → KeepsRules machine.design → Rests machine.design (start machine)
start-rests laws machine rules =
    let begun = laws.phases.first machine rules in
    record {
      value_count = begun.fits.values;
      node_count = begun.fits.nodes;
      process_count = begun.fits.processes;
      nodes = λ n. idle-is (node_at (start machine) n) (quiet-node (start machine).nodes n begun.idle);
      lanes = λ p. start-lane machine.design.processes p;
    }

pub states_rest : LoopLaws → StatesRest
states_rest laws design plan zero rules low few = start-rests laws (good_machine design) rules
states_rest laws design plan (suc last) rules low few = elim (slice_get_cases (good_slots design plan) last).1 [
  | inl found ↦
      subst (Rests design) (sym (after-is (good_machine design) (start (good_machine design)) (good_slots design plan) last found.0 found.2))
      (end-rests laws (good_machine design) rules found.0 (good-asked laws design plan rules last found.0 found.2) (few found.0 found.2))
  | inr past ↦ absurd (omega (arith, past.0, low))
]

pub states_have_widths : LoopLaws → StatesHaveWidths
states_have_widths laws design plan zero rules low few = (laws.phases.first (good_machine design) rules).widths
states_have_widths laws design plan (suc last) rules low few = elim (slice_get_cases (good_slots design plan) last).1 [
  | inl found ↦
      subst (λ (s : State). HaveWidths (good_machine design) s.values)
      (sym (after-is (good_machine design) (start (good_machine design)) (good_slots design plan) last found.0 found.2))
      (end-widths laws (good_machine design) rules found.0 (good-asked laws design plan rules last found.0 found.2) (few found.0 found.2))
  | inr past ↦ absurd (omega (arith, past.0, low))
]

-- What tells a state

at-process : (state : State) (p : ℕ) → p < length state.processes → process_at state p ≡ get_or state.processes p idle_process
at-process state p within = ap (found_or idle_process) (slice_get-get_or state.processes p idle_process within)

at-node : (state : State) (n : ℕ) → n < length state.nodes → node_at state n ≡ get_or state.nodes n idle_node
at-node state n within = ap (found_or idle_node) (slice_get-get_or state.nodes n idle_node within)

pub resting_states_are_told : RestingStatesAreTold
resting_states_are_told design one other first second time values activities updates =
    λ i. record { time = time i; values = values i; nodes = nodes i; processes = processes i }
  where
    nodes : one.nodes ≡ other.nodes
    nodes =
        ext_get_or idle_node one.nodes other.nodes (first.node_count ∙ sym second.node_count)
        (λ n within.
        sym (at-node one n within) ∙ first.nodes n ∙ sym (second.nodes n) ∙ at-node other n (omega (arith, within, first.node_count, second.node_count)))

    processes : one.processes ≡ other.processes
    processes =
        ext_get_or idle_process one.processes other.processes (first.process_count ∙ sym second.process_count)
        (λ p within.
        let low : p < length design.processes = omega (arith, within, first.process_count) in
        sym (at-process one p within)
        ∙ (λ i. record { activity = activities p low i; later = updates p low i; lane = (first.lanes p ∙ sym (second.lanes p)) i })
        ∙ at-process other p (omega (arith, within, first.process_count, second.process_count)))

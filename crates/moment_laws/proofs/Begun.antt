-- The state in which a slot of the good first run begins, by the state behind the slot before it (slots by IEEE 1364-2001, clause 5).
use Rattle.std.proofs.Common.{◌≡◌, ℕ, zero, suc, ◌<◌, Bool, true, false, List, [], ◌∷◌, length, map, refl, sym, ap, subst, ◌∙◌, arith}
use Rattle.std.specs.Prelude.{Option, Some, None, slice_get, nat_le}
use Rattle.std.proofs.lemmas.Option.{slice_get_within}
use Rattle.v_design.specs.Designs.{FlatDesign, FlatProcess, Machine, TestPlan, good_machine}
use Rattle.v_design.specs.Processes.{Ready, opened}
use Rattle.v_design.specs.States.{State, ProcessState, TurnKind, PostponedTurn, UpdatesTurn, TimeTurn, start, turn_of, time_turn, awake_at}
use Rattle.v_design.specs.Runs.{FirstSlot, first_run, slot_end, is_hyper, next_slot_at, next_slot, only_if}
use Rattle.v_design.specs.WellFormed.{KeepsRules}
use Rattle.order_laws.specs.FirstRuns.{Follow}
use Rattle.copy_laws.specs.Windows.{good_slots}
use Rattle.between_slots.specs.Between.{state_after, state_through}
use Rattle.between_slots.proofs.Leading.{after-rest, through-get, through-after}
use Rattle.between_slots.proofs.Resting.{LoopLaws, some-slot}

-- time has moved on from a state to the time of another
abbrev IsMovedOn : State → State → Type 0
IsMovedOn state before = state ≡ time_turn state.time before

abbrev MayBeMovedOn : Option State → State → Type 0
MayBeMovedOn None before = Unit {0}
MayBeMovedOn (Some state) before = IsMovedOn state before

next-moved : (machine : Machine) (time : ℕ) (slot : FirstSlot) → MayBeMovedOn (next_slot machine time slot) (slot_end machine slot)
next-moved machine time slot = go (is_hyper slot)
  where
    timed : (later : ℕ) (b : Bool) → MayBeMovedOn (only_if b (time_turn later (slot_end machine slot))) (slot_end machine slot)
    timed later true = refl
    timed later false = tt

    at : (turn : Option TurnKind) → MayBeMovedOn (next_slot_at time (slot_end machine slot) turn) (slot_end machine slot)
    at None = tt
    at (Some PostponedTurn) = tt
    at (Some UpdatesTurn) = tt
    at (Some (TimeTurn later)) = timed later (nat_le later time)

    go : (hyper : Bool) → MayBeMovedOn (elim hyper as (λ _. Option State) [ true ↦ None | false ↦ next_slot_at time (slot_end machine slot) (turn_of (slot_end machine slot)) ]) (slot_end machine slot)
    go true = tt
    go false = at (turn_of (slot_end machine slot))

follow-moved : (machine : Machine) (time : ℕ) (begins : Option State) (before : State) (slots : List FirstSlot) → MayBeMovedOn begins before → Follow machine time begins slots →
    (number : ℕ) (slot : FirstSlot) → slice_get slots number ≡ Some slot → IsMovedOn slot.begins (state_after machine before slots number)
follow-moved machine time None before [] moved follow number slot here = cc
follow-moved machine time None before (first ∷ slots) moved follow number slot here = absurd follow
follow-moved machine time (Some state) before [] moved follow number slot here = absurd follow
follow-moved machine time (Some state) before (first ∷ slots) moved follow zero slot here =
    subst (λ (x : FirstSlot). IsMovedOn x.begins before) (sym follow.0 ∙ some-slot first slot here) moved
follow-moved machine time (Some state) before (first ∷ slots) moved follow (suc number) slot here =
    subst (IsMovedOn slot.begins) (sym (after-rest machine before first slots number (slice_get_within slots number slot here)))
    (follow-moved machine time (next_slot machine time first) (slot_end machine first) slots (next-moved machine time first) follow.1 number slot here)

-- at the start every process is ready: so it is one moved on from itself
start-processes : (now : ℕ) (processes : List FlatProcess) →
    map (λ (process : FlatProcess). record { activity = Ready (opened process.body []) []; later = []; lane = [] }) processes
    ≡ map (λ (process : ProcessState). record process { activity = awake_at now process.activity })
    (map (λ (process : FlatProcess). record { activity = Ready (opened process.body []) []; later = []; lane = [] }) processes)
start-processes now [] = refl
start-processes now (process ∷ processes) = ap (λ l. record { activity = Ready (opened process.body []) []; later = []; lane = [] } ∷ l) (start-processes now processes)

start-moved : (machine : Machine) → IsMovedOn (start machine) (start machine)
start-moved machine = ap (λ l. record (start machine) { processes = l }) (start-processes 0 machine.design.processes)

-- each slot of the good first run begins where time has moved on from the state behind those before it
pub begun : LoopLaws → (design : FlatDesign) (plan : TestPlan) → KeepsRules design → (number : ℕ) (slot : FirstSlot) → slice_get (good_slots design plan) number ≡ Some slot →
    slot.begins ≡ time_turn slot.begins.time (state_through design plan number)
begun laws design plan rules number slot here =
    let machine = good_machine design in
    let low : number < length (good_slots design plan) = slice_get_within (good_slots design plan) number slot here in
    subst (IsMovedOn slot.begins) (sym (through-after machine (start machine) (first_run machine plan.end) number (omega arith)))
    (follow-moved machine plan.end (Some (start machine)) (start machine) (first_run machine plan.end) (start-moved machine) (laws.runs.follow machine plan.end rules) number slot
    (through-get machine (first_run machine plan.end) number slot here))

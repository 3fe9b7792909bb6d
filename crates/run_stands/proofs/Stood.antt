-- The state of a first run between two of its slots.
use Rattle.std.proofs.Common.{◌≡◌, ℕ, zero, suc, ◌+◌, ◌<◌, ◌≤◌, List, [], ◌∷◌, map, length, min, Bool, true, false, not, ◌&&◌, ◌||◌, refl, sym, ap, subst, ◌∙◌, inl, inr, arith}
use Rattle.std.specs.Prelude.{Option, Some, None, is_some, slice_get, nat_le}
use Rattle.std.proofs.lemmas.Bool.{cases_lt, le-leb, leb-false}
use Rattle.std.proofs.lemmas.List.{length-map}
use Rattle.vf_base.specs.Lists.{AllHold}
use Rattle.v_design.specs.Trees.{Entry}
use Rattle.v_design.specs.Designs.{FlatNode, Machine}
use Rattle.v_design.specs.Processes.{Activity, Ready, Waiting, Asleep, Postponed, Done}
use Rattle.v_design.specs.States.{State, NodeState, ProcessState, LaterUpdate, Event, TurnKind, PostponedTurn, UpdatesTurn, TimeTurn, process_at, found_or, idle_process, idle_node, has_event, has_work}
use Rattle.v_design.specs.States.{after, awake_at, is_postponed, some_in, is_due, least_of, wake_time, due_time, next_time_of, time_turn_at, turn_by, turn_of, time_turn, start}
use Rattle.v_design.specs.Runs.{Move, Happens, FirstSlot, first_event, turn_in_slot, event_or_turn, turned_by, made, all_made, is_counted, less_one_if, slot_moves, most_steps, most_moves, first_run, slot_end}
use Rattle.v_design.specs.Runs.{is_hyper, next_slot, next_slot_at, only_if}
use Rattle.v_design.specs.Grades.{SlotOutcome, Fine, Hyper, phases, first_race, race_or_fine, slot_outcome}
use Rattle.v_design.specs.Laws.{BeginsPhase}
use Rattle.v_design.specs.WellFormed.{KeepsRules}
use Rattle.order_laws.specs.FirstRuns.{Follow, FirstRunsGoOn}
use Rattle.machine_laws.specs.SlotLoop.{slot_from}
use Rattle.copy_laws.specs.OwnRuns.{EventsTakeNoTime}
use Rattle.beside_laws.specs.Stands.{RunsGoOn, RunsStand, HasRun}
use Rattle.event_queue.specs.Queues.{WakesAfter, holding_of}
use Rattle.process_table.specs.Waited.{IsWaitable, body_of}
use Rattle.machine.specs.Standing.{StandsBetween, following, slot_after}
use Rattle.quiet_slots.specs.FirstSlots.{RestsAfterSlot, FirstSlotsStand}
use Rattle.quiet_slots.specs.Pending.{begun-widths}
use Rattle.quiet_slots.specs.SlotTimes.{slot-time}
use Rattle.run_stands.specs.Standing.{StatesStandBetween}
use Rattle.run_stands.proofs.Bodies.{bodies-waitable}
use Rattle.run_stands.proofs.Reached.{next-in-each}
use Rattle.run_stands.proofs.Waits.{WaitsHold, BodiesHold, made-waits, start-waits, turned-waits}

pub record StandLaws : Type 0 where
  pub follow : FirstRunsGoOn
  pub slots : FirstSlotsStand
  pub runs : RunsGoOn
  pub stand : RunsStand
  pub times : EventsTakeNoTime

-- A slot takes no time

end-time : StandLaws → (machine : Machine) → KeepsRules machine.design → (end number : ℕ) (slot : FirstSlot) → slice_get (first_run machine end) number ≡ Some slot →
    (slot_end machine slot).time ≡ slot.begins.time
end-time laws machine rules end number slot here =
    ap (λ (s : FirstSlot). (slot_end machine s).time) (laws.slots.moves machine end number slot rules here) ∙ slot-time laws.times machine slot.begins

-- Waits

abbrev MayHold : (ℕ → Entry → Type 0) → Option State → Type 0
MayHold P None = Unit {0}
MayHold P (Some state) = WaitsHold P state

next-waits : (P : ℕ → Entry → Type 0) (machine : Machine) (time : ℕ) (slot : FirstSlot) → WaitsHold P (slot_end machine slot) → MayHold P (next_slot machine time slot)
next-waits P machine time slot h = go (is_hyper slot)
  where
    timed : (later : ℕ) (b : Bool) → MayHold P (only_if b (time_turn later (slot_end machine slot)))
    timed later true = turned-waits P (TimeTurn later) (slot_end machine slot) h
    timed later false = tt

    at : (turn : Option TurnKind) → MayHold P (next_slot_at time (slot_end machine slot) turn)
    at None = tt
    at (Some PostponedTurn) = tt
    at (Some UpdatesTurn) = tt
    at (Some (TimeTurn later)) = timed later (nat_le later time)

    go : (hyper : Bool) → MayHold P (elim hyper as (λ _. Option State) [ true ↦ None | false ↦ next_slot_at time (slot_end machine slot) (turn_of (slot_end machine slot)) ])
    go true = tt
    go false = at (turn_of (slot_end machine slot))

some-slot : (one other : FirstSlot) → Some one ≡ Some other → one ≡ other
some-slot one other e = cc

follow-waits : (P : ℕ → Entry → Type 0) (machine : Machine) → BodiesHold P machine → (time : ℕ) (begins : Option State) (slots : List FirstSlot) → MayHold P begins →
    Follow machine time begins slots → (number : ℕ) (slot : FirstSlot) → slice_get slots number ≡ Some slot → WaitsHold P (slot_end machine slot)
follow-waits P machine bodies time None [] hold follow number slot here = cc
follow-waits P machine bodies time None (first ∷ slots) hold follow number slot here = absurd follow
follow-waits P machine bodies time (Some state) [] hold follow number slot here = absurd follow
follow-waits P machine bodies time (Some state) (first ∷ slots) hold follow zero slot here =
    subst (λ (s : FirstSlot). WaitsHold P (slot_end machine s)) (sym follow.0 ∙ some-slot first slot here)
    (made-waits P machine bodies state (slot_from machine state).moves hold)
follow-waits P machine bodies time (Some state) (first ∷ slots) hold follow (suc number) slot here =
    follow-waits P machine bodies time (next_slot machine time first) slots
    (next-waits P machine time first
    (subst (λ (s : FirstSlot). WaitsHold P (slot_end machine s)) (sym follow.0) (made-waits P machine bodies state (slot_from machine state).moves hold))) follow.1 number slot here

end-waits : StandLaws → (machine : Machine) → KeepsRules machine.design → (end number : ℕ) (slot : FirstSlot) → slice_get (first_run machine end) number ≡ Some slot →
    WaitsHold (λ n. IsWaitable machine.design (body_of machine.design n)) (slot_end machine slot)
end-waits laws machine rules end number slot here =
    follow-waits (λ n. IsWaitable machine.design (body_of machine.design n)) machine (bodies-waitable machine.design rules) end (Some (start machine)) (first_run machine end)
    (start-waits (λ n. IsWaitable machine.design (body_of machine.design n)) machine (bodies-waitable machine.design rules)) (laws.follow.follow machine end rules) number slot here

-- Times

or-neither : (a b : Bool) → (a || b) ≡ false → (a ≡ false) × (b ≡ false)
or-neither true b e = cc
or-neither false true e = cc
or-neither false false e = (refl, refl)

-- what a state in which no turn within the slot is possible has
record NoTurn (state : State) : Type 0 where
  turn : turn_of state ≡ time_turn_at (next_time_of state.processes)
  none_due : some_in (λ (p : ProcessState). some_in (is_due state.time) p.later) state.processes ≡ false

no-turn : (state : State) → turn_in_slot (turn_of state) ≡ None → NoTurn state
no-turn state e =
    go (some_in (λ (p : ProcessState). is_postponed p.activity) state.processes) (some_in (λ (p : ProcessState). some_in (is_due state.time) p.later) state.processes) refl refl e
  where
    go : (postponed due : Bool) → some_in (λ (p : ProcessState). is_postponed p.activity) state.processes ≡ postponed →
        some_in (λ (p : ProcessState). some_in (is_due state.time) p.later) state.processes ≡ due → turn_in_slot (turn_by postponed due (next_time_of state.processes)) ≡ None → NoTurn state
    go true due p q f = cc
    go false true p q f = cc
    go false false p q f = record { turn = λ i. turn_by (p i) (q i) (next_time_of state.processes); none_due = q }

none-due : (now : ℕ) (processes : List ProcessState) → some_in (λ (p : ProcessState). some_in (is_due now) p.later) processes ≡ false → (n : ℕ) →
    some_in (is_due now) (found_or idle_process (slice_get processes n)).later ≡ false
none-due now [] e n = refl
none-due now (p ∷ processes) e zero = (or-neither (some_in (is_due now) p.later) (some_in (λ (q : ProcessState). some_in (is_due now) q.later) processes) e).0
none-due now (p ∷ processes) e (suc n) = none-due now processes (or-neither (some_in (is_due now) p.later) (some_in (λ (q : ProcessState). some_in (is_due now) q.later) processes) e).1 n

all-later : (now : ℕ) (later : List LaterUpdate) → some_in (is_due now) later ≡ false → AllHold (λ (update : LaterUpdate). now ≤ update.time) later
all-later now [] e = tt
all-later now (update ∷ later) e =
    let parts = or-neither (is_due now update) (some_in (is_due now) later) e in
    (let late : now < update.time = leb-false update.time now parts.0 in omega (arith, late), all-later now later parts.1)

-- the next time is at most that at which a process wakes
record WakesBy (processes : List ProcessState) (time : ℕ) : Type 0 where
  next : ℕ
  is : next_time_of processes ≡ Some next
  low : next ≤ time

least-some : (a b : Option ℕ) (time : ℕ) → a ≡ Some time → (next : ℕ) × (least_of a b ≡ Some next) × (next ≤ time)
least-some None b time e = cc
least-some (Some x) None time e = let same : x ≡ time = cc in (x, refl, omega (arith, same))
least-some (Some x) (Some y) time e = let same : x ≡ time = cc in (min x y, refl, omega (arith, same))

least-other : (a b : Option ℕ) (time : ℕ) → b ≡ Some time → (next : ℕ) × (least_of a b ≡ Some next) × (next ≤ time)
least-other None b time e = (time, e, omega arith)
least-other (Some x) None time e = cc
least-other (Some x) (Some y) time e = let same : y ≡ time = cc in (min x y, refl, omega (arith, same))

wakes-by : (processes : List ProcessState) (n time : ℕ) → wake_time (found_or idle_process (slice_get processes n)).activity ≡ Some time → WakesBy processes time
wakes-by [] n time e = cc
wakes-by (p ∷ processes) zero time e =
    let one = least-some (wake_time p.activity) (due_time p.later) time e in
    let two = least-some (least_of (wake_time p.activity) (due_time p.later)) (next_time_of processes) one.0 one.1 in
    record { next = two.0; is = two.1; low = omega (arith, one.2, two.2) }
wakes-by (p ∷ processes) (suc n) time e =
    let rest = wakes-by processes n time e in
    let two = least-other (least_of (wake_time p.activity) (due_time p.later)) (next_time_of processes) rest.next rest.is in
    record { next = two.0; is = two.1; low = omega (arith, rest.low, two.2) }

wakes-later : StandLaws → (machine : Machine) (end time : ℕ) (state : State) → HasRun machine end (Some time) (next_slot_at end state (turn_of state)) state → NoTurn state → time ≤ end →
    state.time ≤ time → (n wakes : ℕ) → wake_time (process_at state n).activity ≡ Some wakes → state.time < wakes
wakes-later laws machine end time state run turn within low n wakes e = elim (cases_lt state.time wakes) [
  | inl late ↦ late
  | inr early ↦
      let by = wakes-by state.processes n wakes e in
      let due : by.next ≤ wakes = by.low in
      let next : next_slot_at end state (turn_of state) ≡ Some (time_turn by.next state) =
      ap (next_slot_at end state) (turn.turn ∙ ap time_turn_at by.is) ∙ ap (λ b. only_if b (time_turn by.next state)) (le-leb by.next end (omega (arith, due, early, low, within))) in
      let after : time < by.next = laws.runs.later machine end (Some time) (time_turn by.next state) state (subst (λ (o : Option State). HasRun machine end (Some time) o state) next run) in
      absurd (omega (arith, after, due, early, low))
]

holds-after : (now : ℕ) (activity : Activity) → ((wakes : ℕ) → wake_time activity ≡ Some wakes → now < wakes) → WakesAfter now (holding_of activity)
holds-after now (Ready tasks operands) h = tt
holds-after now (Waiting place entries tasks) h = tt
holds-after now (Asleep time tasks) h = h time refl
holds-after now (Postponed tasks) h = tt
holds-after now Done h = tt

-- Nodes

none-some : {A : Type 0} (o : Option A) → is_some o ≡ false → o ≡ None
none-some None e = refl
none-some (Some x) e = cc

idle-all : (nodes : List FlatNode) (states : List NodeState) → length states ≡ length nodes → some_in has_work states ≡ false → states ≡ map (λ (node : FlatNode). idle_node) nodes
idle-all [] [] e h = refl
idle-all [] (s ∷ states) e h = absurd (omega (arith, e))
idle-all (n ∷ nodes) [] e h = absurd (omega (arith, e))
idle-all (n ∷ nodes) (s ∷ states) e h =
    let parts = or-neither (has_work s) (some_in has_work states) h in
    let own = or-neither s.marked (is_some s.pending) parts.0 in
    λ i. record { marked = own.0 i; pending = none-some s.pending own.1 i } ∷ idle-all nodes states (omega (arith, e)) parts.1 i

quiet-both : (b c : Bool) → (not b && not c) ≡ true → (b ≡ false) × (c ≡ false)
quiet-both true c e = cc
quiet-both false true e = cc
quiet-both false false e = (refl, refl)

-- The next slot

fine-few : (machine : Machine) (slot : FirstSlot) → slot_outcome machine slot ≡ Fine → is_hyper slot ≡ false
fine-few machine slot = go (is_hyper slot)
  where
    go : (hyper : Bool) → elim hyper as (λ _. SlotOutcome) [ true ↦ Hyper | false ↦ race_or_fine (first_race machine 1 (phases machine slot)) ] ≡ Fine → hyper ≡ false
    go true e = cc
    go false e = refl

-- the slot that comes after a state
record ComesAfterState (state begins : State) : Type 0 where
  time : ℕ
  turn : turn_of state ≡ Some (TimeTurn time)
  is : begins ≡ time_turn time state

comes-after : (state begins : State) → slot_after state (turn_of state) ≡ Some begins → ComesAfterState state begins
comes-after state begins e = go (turn_of state) refl e
  where
    some-is : (one other : State) → Some one ≡ Some other → one ≡ other
    some-is one other f = cc

    go : (turn : Option TurnKind) → turn_of state ≡ turn → slot_after state turn ≡ Some begins → ComesAfterState state begins
    go None t f = cc
    go (Some PostponedTurn) t f = cc
    go (Some UpdatesTurn) t f = cc
    go (Some (TimeTurn time)) t f = record { time = time; turn = t; is = sym (some-is (time_turn time state) begins f) }

following-is : (machine : Machine) (slot : FirstSlot) → is_hyper slot ≡ false → following machine slot ≡ slot_after (slot_end machine slot) (turn_of (slot_end machine slot))
following-is machine slot few =
    ap (λ (hyper : Bool). elim hyper as (λ _. Option State) [ true ↦ None | false ↦ slot_after (slot_end machine slot) (turn_of (slot_end machine slot)) ]) few

-- The law

pub slot-stands : StandLaws → (machine : Machine) → KeepsRules machine.design → (end time number : ℕ) (slot : FirstSlot) → time ≤ end → slice_get (first_run machine end) number ≡ Some slot →
    slot_outcome machine slot ≡ Fine → slot.begins.time ≤ time →
    HasRun machine end (Some time) (next_slot_at end (slot_end machine slot) (turn_of (slot_end machine slot))) (slot_end machine slot) → StandsBetween machine (slot_end machine slot)
slot-stands laws machine rules end time number slot low here fine by_then run = record {
  values = begun.fits.values;
  widths = λ object inside. begun-widths machine (time_turn 0 (slot_end machine slot)) begun object;
  nodes = idle-all machine.design.nodes (slot_end machine slot).nodes begun.fits.nodes quiet.1;
  count = sym (length-map (slot_end machine slot).processes (λ (process : ProcessState). record process { activity = awake_at 0 process.activity })) ∙ begun.fits.processes;
  quiet = quiet.0;
  no_turn = rests.no_turn;
  processes = λ n. record {
    waits = end-waits laws machine rules end number slot here n;
    after = (
      holds-after (slot_end machine slot).time (process_at (slot_end machine slot) n).activity
          (λ wakes e. wakes-later laws machine end time (slot_end machine slot) run turn low early n wakes e),
      all-later (slot_end machine slot).time (process_at (slot_end machine slot) n).later (none-due (slot_end machine slot).time (slot_end machine slot).processes turn.none_due n),
    );
  };
  begins = λ begins e. let next = comes-after (slot_end machine slot) begins e in subst (BeginsPhase machine) (sym next.is) (rests.begins next.time);
  reached = λ begins e. record {
    number = suc number;
    stands = λ at since. next-in-each laws.follow laws.slots machine rules end number slot here begins (following-is machine slot few ∙ e) (later begins e) at since;
  };
}
  where
    few : is_hyper slot ≡ false
    few = fine-few machine slot fine

    rests : RestsAfterSlot machine (slot_end machine slot)
    rests = laws.slots.rests machine end number slot rules here (fine-few machine slot fine)

    begun : BeginsPhase machine (time_turn 0 (slot_end machine slot))
    begun = (laws.slots.rests machine end number slot rules here (fine-few machine slot fine)).begins 0

    quiet : (some_in has_event (slot_end machine slot).processes ≡ false) × (some_in has_work (slot_end machine slot).nodes ≡ false)
    quiet = quiet-both (some_in has_event (slot_end machine slot).processes) (some_in has_work (slot_end machine slot).nodes)
        (laws.slots.rests machine end number slot rules here (fine-few machine slot fine)).quiescent

    turn : NoTurn (slot_end machine slot)
    turn = no-turn (slot_end machine slot) (laws.slots.rests machine end number slot rules here (fine-few machine slot fine)).no_turn

    early : (slot_end machine slot).time ≤ time
    early = subst (λ t. t ≤ time) (sym (end-time laws machine rules end number slot here)) by_then

    later : (begins : State) → slot_after (slot_end machine slot) (turn_of (slot_end machine slot)) ≡ Some begins → slot.begins.time ≤ begins.time
    later begins e =
        let next = comes-after (slot_end machine slot) begins e in
        subst (λ (s : State). slot.begins.time ≤ s.time) (sym next.is) (by-run next.time next.turn)
      where
        by-run : (next : ℕ) → turn_of (slot_end machine slot) ≡ Some (TimeTurn next) → slot.begins.time ≤ next
        by-run next e = elim (cases_lt end next) [
          | inl beyond ↦ omega (arith, beyond, low, by_then)
          | inr within ↦
              let is : next_slot_at end (slot_end machine slot) (turn_of (slot_end machine slot)) ≡ Some (time_turn next (slot_end machine slot)) =
              ap (next_slot_at end (slot_end machine slot)) e ∙ ap (λ b. only_if b (time_turn next (slot_end machine slot))) (le-leb next end within) in
              let after : time < next = laws.runs.later machine end (Some time) (time_turn next (slot_end machine slot)) (slot_end machine slot)
              (subst (λ (o : Option State). HasRun machine end (Some time) o (slot_end machine slot)) is run) in
              omega (arith, after, by_then)
        ]

pub states_stand : StandLaws → StatesStandBetween
states_stand laws machine end time rules low stops =
    let s = laws.stand.slot machine end time rules stops in
    subst (StandsBetween machine) (sym s.state_is)
    (slot-stands laws machine rules end time s.number s.slot low s.stands s.fine s.by_then
    (subst (λ (state : State). HasRun machine end (Some time) (next_slot_at end state (turn_of state)) state) s.state_is (laws.stand.again machine end time rules stops)))

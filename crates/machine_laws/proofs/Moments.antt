-- From one moment of a slot of the first order to the next.
use Rattle.std.proofs.Common.{◌≡◌, ℕ, zero, suc, ◌+◌, ◌≤◌, List, [], ◌∷◌, ◌++◌, Bool, true, false, ◌&&◌, refl, sym, ap, subst, ◌∙◌, arith, append_assoc}
use Rattle.std.specs.Prelude.{Option, Some, None, slice_get, is_some, cond}
use Rattle.std.proofs.lemmas.List.Sums.{sum_by-append}
use Rattle.four_value.specs.Values.{LogicValue}
use Rattle.v_design.specs.Designs.{FlatNode, Machine}
use Rattle.v_design.specs.Assignments.{ValueUpdate, node_outputs}
use Rattle.v_design.specs.States.{State, ProcessState, Event, Step, LaneStep, Evaluation, NetUpdate, TurnKind, PostponedTurn, UpdatesTurn, TimeTurn, after, possible, node_at, idle_process}
use Rattle.v_design.specs.States.{with_value, with_values, with_process, written_if, write_of, first_update, step_of, process_at, evaluated, nets_updated, is_ready, is_any, is_quiescent, turn_of}
use Rattle.v_design.specs.States.{turned}
use Rattle.v_design.specs.Runs.{Move, Happens, Turns, named_event, or_event, work_of, first_event, turn_in_slot, event_or_turn, turned_by, made, all_made, is_counted, counted_steps, less_one_if}
use Rattle.v_design.specs.Runs.{slot_moves, most_steps, most_moves, first_moves, happened, all_possible, IsPhase}
use Rattle.v_design.specs.WellFormed.{KeepsRules}
use Rattle.v_design.specs.Laws.{BeginsPhase, SlotsEnd, PhasesBegin}
use Rattle.v_design.specs.Grades.{cut}
use Rattle.machine_laws.specs.SlotLoop.{Moment, ComesTo, after_event, steps_of, present_phase, NoNodeWorks, IsIdle, first_lane, first_ready, SlotsBegin, NodesGoOn, LanesGoOn, StepsGoOn, TurnsGoOn}
use Rattle.machine_laws.specs.SlotLoop.{NextSlotsBegin}
use Rattle.machine_laws.proofs.Places.{placed, to-evaluate, updates, pends, idle-quiet, busy-lane, busy-step, busy-node}

-- The first moment

pub slots_begin : SlotsBegin
slots_begin machine begins asked = record {
  moves = [];
  most_left = most_moves machine;
  steps_left = most_steps + 1;
  goes_on = refl;
  room = refl;
  made_so_far = refl;
  counted = refl;
  cuts = λ rest. refl;
  happened_so_far = refl;
  each_possible = refl;
  phase_asked = asked;
  slot_asked = asked;
  same_time = refl;
}

-- One move more

all_made-more : (machine : Machine) (state : State) (moves : List Move) (move : Move) → all_made machine state (moves ++ move ∷ []) ≡ made machine (all_made machine state moves) move
all_made-more machine state [] move = refl
all_made-more machine state (first ∷ moves) move = all_made-more machine (made machine state first) moves move

counted-more : (moves : List Move) (move : Move) → counted_steps (moves ++ move ∷ []) ≡ counted_steps moves + cond (is_counted move) 1 0
counted-more moves move = sum_by-append (λ m. cond (is_counted m) 1 0) moves (move ∷ []) ∙ ap (λ n. counted_steps moves + n) (last (is_counted move))
  where
    last : (b : Bool) → ◌≡◌ {A = ℕ} (0 + cond b 1 0) (cond b 1 0)
    last true = refl
    last false = refl

happened-more : (machine : Machine) (state : State) (events : List Event) (event : Event) → happened machine state (events ++ event ∷ []) ≡ after machine (happened machine state events) event
happened-more machine state [] event = refl
happened-more machine state (first ∷ events) event = happened-more machine (after machine state first) events event

possible-more : (machine : Machine) (state : State) (events : List Event) (event : Event) → all_possible machine state events ≡ true → possible (happened machine state events) event ≡ true →
    all_possible machine state (events ++ event ∷ []) ≡ true
possible-more machine state [] event a p = λ i. p i && true
possible-more machine state (first ∷ events) event a p =
    let both = both-true (possible state first) (all_possible machine (after machine state first) events) a in
    λ i. both.0 i && possible-more machine (after machine state first) events event both.1 p i
  where
    both-true : (a b : Bool) → (a && b) ≡ true → (a ≡ true) × (b ≡ true)
    both-true true b e = (refl, e)
    both-true false b e = cc

-- Time stands still within a slot

time-written : (machine : Machine) (write : Option ValueUpdate) (s : State) → (written_if machine write s).time ≡ s.time
time-written machine None s = refl
time-written machine (Some u) s = refl

time-values : (machine : Machine) (objects : List ℕ) (values : List LogicValue) (s : State) → (with_values machine objects values s).time ≡ s.time
time-values machine [] values s = refl
time-values machine (object ∷ objects) [] s = refl
time-values machine (object ∷ objects) (value ∷ values) s = time-values machine objects values (with_value machine object value s)

time-nets : (machine : Machine) (number : ℕ) (found : Option FlatNode) (pending : Option (List LogicValue)) (s : State) → (nets_updated machine number found pending s).time ≡ s.time
time-nets machine number None pending s = refl
time-nets machine number (Some node) None s = refl
time-nets machine number (Some node) (Some values) s = time-values machine node.outputs values _

time-evaluated : (machine : Machine) (number : ℕ) (found : Option FlatNode) (s : State) → (evaluated machine number found s).time ≡ s.time
time-evaluated machine number None s = refl
time-evaluated machine number (Some node) s = refl

time-after : (machine : Machine) (s : State) (event : Event) → (after machine s event).time ≡ s.time
time-after machine s (Step p) = time-written machine (write_of (step_of machine s p).action) (with_process p _ s)
time-after machine s (LaneStep p) = time-written machine (first_update (process_at s p).lane) (with_process p _ s)
time-after machine s (Evaluation n) = time-evaluated machine n (slice_get machine.design.nodes n) s
time-after machine s (NetUpdate n) = time-nets machine n (slice_get machine.design.nodes n) _ s

-- The moves that are left

-- where a step is left and the moment isn't the slot's end, a move is left
record MovesOn (machine : Machine) (at : Moment) (rest : List Move) : Type 0 where
  most : ℕ
  steps : ℕ
  goes_on : rest ≡ slot_moves (suc most) (suc steps) machine at.state
  room : at.steps + suc steps ≡ most_steps + 1

pub append-nothing : (xs : List Move) → xs ++ [] ≡ xs
append-nothing [] = refl
append-nothing (x ∷ xs) = ap (λ ys. x ∷ ys) (append-nothing xs)

-- the rest of the slot's moves
abbrev rest_of : (machine : Machine) (at : Moment) → ComesTo machine at → List Move
rest_of machine at r = slot_moves r.most_left r.steps_left machine at.state

moves-on : (machine : Machine) (at : Moment) (r : ComesTo machine at) → SlotsEnd → KeepsRules machine.design → at.steps ≤ most_steps →
    (is_quiescent at.state ≡ true → turn_in_slot (turn_of at.state) ≡ None → ⊥) → MovesOn machine at (rest_of machine at r)
moves-on machine at r ends rules few goes = go r.most_left r.steps_left r.goes_on r.room
  where
    at_end : first_moves machine at.begins ≡ r.moves ++ [] → MovesOn machine at []
    at_end e =
        let all : first_moves machine at.begins ≡ r.moves = e ∙ append-nothing r.moves in
        let count : counted_steps (first_moves machine at.begins) ≡ at.steps = ap counted_steps all ∙ sym r.counted in
        let here : all_made machine at.begins (first_moves machine at.begins) ≡ at.state = ap (all_made machine at.begins) all ∙ sym r.made_so_far in
        let end = ends machine at.begins rules r.slot_asked (omega (arith, count, few)) in
        absurd (goes (ap is_quiescent (sym here) ∙ end.0) (ap (λ s. turn_in_slot (turn_of s)) (sym here) ∙ end.1))

    go : (most steps : ℕ) → first_moves machine at.begins ≡ r.moves ++ slot_moves most steps machine at.state → at.steps + steps ≡ most_steps + 1 →
        MovesOn machine at (slot_moves most steps machine at.state)
    go zero steps e room = at_end e
    go (suc most) zero e room = absurd (omega (arith, room, few))
    go (suc most) (suc steps) e room = record { most = most; steps = steps; goes_on = refl; room = room }

-- An event

-- the moves where a move is found
abbrev pub on_move : ℕ → ℕ → Machine → State → Option Move → List Move
on_move most steps machine state found = elim found [ None ↦ [] | Some move ↦ move ∷ slot_moves most (less_one_if (is_counted move) steps) machine (made machine state move) ]

counts : (event : Event) (steps left most : ℕ) → steps + suc left ≡ most + 1 → steps + steps_of event + less_one_if (is_counted (Happens event)) (suc left) ≡ most + 1
counts (Step process) steps left most e = omega (arith, e)
counts (LaneStep process) steps left most e = omega (arith, e)
counts (Evaluation node) steps left most e = omega (arith, e)
counts (NetUpdate node) steps left most e = omega (arith, e)

step-count : (event : Event) → ◌≡◌ {A = ℕ} (steps_of event) (cond (is_counted (Happens event)) 1 0)
step-count (Step process) = refl
step-count (LaneStep process) = refl
step-count (Evaluation node) = refl
step-count (NetUpdate node) = refl

pub event-on : (machine : Machine) (at : Moment) (event : Event) → SlotsEnd → KeepsRules machine.design → ComesTo machine at → at.steps ≤ most_steps → first_event at.state ≡ Some event →
    possible at.state event ≡ true → (is_quiescent at.state ≡ true → ⊥) → ComesTo machine (after_event machine event at)
event-on machine at event ends rules r few first may busy =
    let m = moves-on machine at r ends rules few (λ q t. busy q) in
    let next : slot_moves (suc m.most) (suc m.steps) machine at.state ≡ Happens event ∷ slot_moves m.most (less_one_if (is_counted (Happens event)) (suc m.steps)) machine
    (after machine at.state event) =
    ap (λ f. on_move m.most (suc m.steps) machine at.state (event_or_turn f (turn_of at.state))) first in
    record {
      moves = r.moves ++ Happens event ∷ [];
      most_left = m.most;
      steps_left = less_one_if (is_counted (Happens event)) (suc m.steps);
      goes_on = r.goes_on ∙ ap (λ l. r.moves ++ l) (m.goes_on ∙ next) ∙ sym (append_assoc r.moves (Happens event ∷ [])
          (slot_moves m.most (less_one_if (is_counted (Happens event)) (suc m.steps)) machine (after machine at.state event)));
      room = counts event at.steps m.steps most_steps m.room;
      made_so_far = ap (λ s. after machine s event) r.made_so_far ∙ sym (all_made-more machine at.begins r.moves (Happens event));
      counted = (λ i. r.counted i + step-count event i) ∙ sym (counted-more r.moves (Happens event));
      cuts = λ rest. ap (cut machine None at.begins [] at.begins) (append_assoc r.moves (Happens event ∷ []) rest) ∙ r.cuts (Happens event ∷ rest);
      happened_so_far = ap (λ s. after machine s event) r.happened_so_far ∙ sym (happened-more machine at.phase_begins at.events event);
      each_possible = possible-more machine at.phase_begins at.events event r.each_possible (ap (λ s. possible s event) (sym r.happened_so_far) ∙ may);
      phase_asked = r.phase_asked;
      slot_asked = r.slot_asked;
      same_time = time-after machine at.state event ∙ r.same_time;
    }

-- Lanes and processes

lane-first : (state : State) (process : ℕ) → NoNodeWorks state → first_lane state ≡ Some process → first_event state ≡ Some (LaneStep process)
lane-first state process idle first =
    λ i. or_event (idle i) (or_event (named_event LaneStep (first i)) (named_event Step (first_ready state)))

step-first : (state : State) (process : ℕ) → NoNodeWorks state → first_lane state ≡ None → first_ready state ≡ Some process → first_event state ≡ Some (Step process)
step-first state process idle none first =
    λ i. or_event (idle i) (or_event (named_event LaneStep (none i)) (named_event Step (first i)))

pub none-first : (state : State) → IsIdle state → first_event state ≡ None
none-first state idle = λ i. or_event (idle.0 i) (or_event (named_event LaneStep (idle.1 i)) (named_event Step (idle.2 i)))

pub lanes_go_on : SlotsEnd → LanesGoOn
lanes_go_on ends machine at process rules r few idle first =
    event-on machine at (LaneStep process) ends rules r few (lane-first at.state process idle first) (placed (λ (p : ProcessState). is_any p.lane) idle_process at.state.processes process first)
    (busy-lane at.state process first)

pub steps_go_on : SlotsEnd → StepsGoOn
steps_go_on ends machine at process rules r few idle none first =
    event-on machine at (Step process) ends rules r few (step-first at.state process idle none first) (placed (λ (p : ProcessState). is_ready p.activity) idle_process at.state.processes process first)
    (busy-step at.state process first)

-- Nodes

pub nodes_go_on : SlotsEnd → NodesGoOn
nodes_go_on ends machine at node text rules r few is_text work =
    event-on machine mid (NetUpdate node) ends rules evaluated_on (let e : at.steps + 0 ≡ at.steps = omega arith in omega (arith, few)) (ap (λ w. or_event w (others mid.state)) update) pending
    (busy-node mid.state (NetUpdate node) update)
  where
    mid : Moment
    mid = after_event machine (Evaluation node) at

    others : State → Option Event
    others state = or_event (named_event LaneStep (first_lane state)) (named_event Step (first_ready state))

    same : 0 + node ≡ node
    same = omega arith

    works : work_of 0 at.state.nodes ≡ Some (Evaluation (0 + node))
    works = work ∙ ap (λ k. Some (Evaluation k)) (sym same)

    evaluated_on : ComesTo machine (after_event machine (Evaluation node) at)
    evaluated_on =
        event-on machine at (Evaluation node) ends rules r few (ap (λ w. or_event w (or_event (named_event LaneStep (first_lane at.state)) (named_event Step (first_ready at.state)))) work)
        (to-evaluate 0 at.state.nodes node works) (busy-node at.state (Evaluation node) work)

    update : work_of 0 (after machine at.state (Evaluation node)).nodes ≡ Some (NetUpdate node)
    update =
        ap (λ f. work_of 0 (evaluated machine node f at.state).nodes) is_text
        ∙ updates 0 at.state.nodes node (node_outputs machine node text at.state.values) works ∙ ap (λ k. Some (NetUpdate k)) same

    pending : is_some (node_at (after machine at.state (Evaluation node)) node).pending ≡ true
    pending = ap (λ f. is_some (node_at (evaluated machine node f at.state) node).pending) is_text ∙ pends 0 at.state.nodes node (node_outputs machine node text at.state.values) works

-- Turns

time-turned : (turn : TurnKind) (state : State) → turn_in_slot (Some turn) ≡ Some Turns → (turned turn state).time ≡ state.time
time-turned PostponedTurn state e = refl
time-turned UpdatesTurn state e = refl
time-turned (TimeTurn time) state e = cc

-- the phase so far, which ends where no event is possible
legal-phase : (machine : Machine) (at : Moment) → ComesTo machine at → IsIdle at.state → IsPhase machine at.phase_begins at.events
legal-phase machine at r idle = record { each_possible = r.each_possible; ends = ap is_quiescent (sym r.happened_so_far) ∙ idle-quiet at.state idle }

next-asked : (machine : Machine) (at : Moment) (turn : TurnKind) → PhasesBegin → KeepsRules machine.design → ComesTo machine at → IsIdle at.state → BeginsPhase machine (turned turn at.state)
next-asked machine at turn begin rules r idle =
    subst (λ s. BeginsPhase machine (turned turn s)) (sym r.happened_so_far) (begin.next machine at.phase_begins at.events turn rules r.phase_asked (legal-phase machine at r idle))

pub turns_go_on : SlotsEnd → PhasesBegin → TurnsGoOn
turns_go_on ends begin machine at turn rules r few idle found in_slot =
    let m = moves-on machine at r ends rules few (λ q t. none-some (sym t ∙ ap turn_in_slot found ∙ in_slot)) in
    let to : made machine at.state Turns ≡ turned turn at.state = ap (λ o. turned_by o at.state) found in
    let next : slot_moves (suc m.most) (suc m.steps) machine at.state ≡ Turns ∷ slot_moves m.most (suc m.steps) machine (turned turn at.state) =
    ap (on_move m.most (suc m.steps) machine at.state) ((λ i. event_or_turn (none-first at.state idle i) (found i)) ∙ in_slot)
    ∙ ap (λ s. Turns ∷ slot_moves m.most (suc m.steps) machine s) to in
    record {
      moves = r.moves ++ Turns ∷ [];
      most_left = m.most;
      steps_left = suc m.steps;
      goes_on = r.goes_on ∙ ap (λ l. r.moves ++ l) (m.goes_on ∙ next) ∙ sym (append_assoc r.moves (Turns ∷ []) (slot_moves m.most (suc m.steps) machine (turned turn at.state)));
      room = m.room;
      made_so_far = sym to ∙ ap (λ s. made machine s Turns) r.made_so_far ∙ sym (all_made-more machine at.begins r.moves Turns);
      counted = r.counted ∙ plus-none (counted_steps r.moves) ∙ sym (counted-more r.moves Turns);
      cuts = λ rest. ap (cut machine None at.begins [] at.begins) (append_assoc r.moves (Turns ∷ []) rest) ∙ r.cuts (Turns ∷ rest)
          ∙ (λ i. at.ended ++ present_phase at ∷ cut machine (found i) (to i) [] (to i) rest)
          ∙ sym (append_assoc at.ended (present_phase at ∷ []) (cut machine (Some turn) (turned turn at.state) [] (turned turn at.state) rest));
      happened_so_far = refl;
      each_possible = refl;
      phase_asked = next-asked machine at turn begin rules r idle;
      slot_asked = r.slot_asked;
      same_time = time-turned turn at.state in_slot ∙ r.same_time;
    }
  where
    none-some : None ≡ Some Turns → ⊥
    none-some e = cc

    plus-none : (n : ℕ) → n ≡ n + 0
    plus-none n = omega arith

pub next_slots_begin : PhasesBegin → NextSlotsBegin
next_slots_begin begin machine at time rules r idle found = next-asked machine at (TimeTurn time) begin rules r idle

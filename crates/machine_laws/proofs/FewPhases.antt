-- In a slot of the first order a step of a process or of a lane follows each turn, so its phases are few (IEEE 1364-2001, clauses 5.3 and 5.4).
use Rattle.std.proofs.Common.{◌≡◌, ℕ, zero, suc, ◌+◌, ◌≤◌, ◌⊎◌, inl, inr, List, [], ◌∷◌, ◌++◌, map, filter, length, Bool, true, false, not, ◌&&◌, ◌||◌, refl, sym, ap, subst, ◌∙◌, arith, length-append}
use Rattle.std.specs.Prelude.{Option, Some, None, is_some, cond}
use Rattle.std.proofs.lemmas.List.Sums.{sum_by-cons}
use Rattle.vf_base.specs.Lists.{AllHold, first_place, earlier_place}
use Rattle.v_design.specs.Designs.{Machine}
use Rattle.v_design.specs.Assignments.{ValueUpdate}
use Rattle.v_design.specs.Processes.{Activity, Ready, Waiting, Asleep, Postponed, Done}
use Rattle.v_design.specs.States.{State, ProcessState, LaterUpdate, NodeState, Event, Step, LaneStep, TurnKind, PostponedTurn, UpdatesTurn, TimeTurn}
use Rattle.v_design.specs.States.{is_ready, is_any, is_postponed, resumed, is_due, some_in, start, turn_by, turn_of, turned, has_event, has_work}
use Rattle.v_design.specs.Runs.{Move, Happens, Turns, named_event, or_event, least_work, work_of, first_event, turn_in_slot, event_or_turn, slot_move, turned_by, made, is_counted, counted_steps}
use Rattle.v_design.specs.Runs.{less_one_if, slot_moves, most_steps, most_moves, first_moves, FirstSlot, next_slot, first_slots}
use Rattle.v_design.specs.Grades.{Phase, cut, phases}
use Rattle.machine_laws.specs.SlotLoop.{PhasesAreFew, SlotPhasesAreFew, TurnsWake, first_lane, first_ready}

-- After a turn

-- some element passes a test, so there is a first one
some-placed : {A : Type 0} (test : A → Bool) (xs : List A) → some_in test xs ≡ true → is_some (first_place test xs) ≡ true
some-placed test [] e = cc
some-placed test (x ∷ xs) e = go (test x) (first_place test xs) e (some-placed test xs)
  where
    go : (b : Bool) (o : Option ℕ) → (b || some_in test xs) ≡ true → (some_in test xs ≡ true → is_some o ≡ true) → is_some (earlier_place b o) ≡ true
    go true o h rest = refl
    go false None h rest = rest h
    go false (Some m) h rest = refl

some-mapped : {A B : Type 0} (one : A → Bool) (other : B → Bool) (f : A → B) (xs : List A) → ((x : A) → one x ≡ true → other (f x) ≡ true) → some_in one xs ≡ true →
    some_in other (map f xs) ≡ true
some-mapped one other f [] k e = cc
some-mapped one other f (x ∷ xs) k e = go (one x) refl e (some-mapped one other f xs k)
  where
    or-true : (b : Bool) → (b || true) ≡ true
    or-true true = refl
    or-true false = refl

    go : (b : Bool) → one x ≡ b → (b || some_in one xs) ≡ true → (some_in one xs ≡ true → some_in other (map f xs) ≡ true) → (other (f x) || some_in other (map f xs)) ≡ true
    go true is h rest = ap (λ b. b || some_in other (map f xs)) (k x is)
    go false is h rest = ap (λ b. other (f x) || b) (rest h) ∙ or-true (other (f x))

resumed-ready : (activity : Activity) → is_postponed activity ≡ true → is_ready (resumed activity) ≡ true
resumed-ready (Ready tasks operands) e = cc
resumed-ready (Waiting place entries tasks) e = cc
resumed-ready (Asleep time tasks) e = cc
resumed-ready (Postponed tasks) e = refl
resumed-ready Done e = cc

due-any : (now : ℕ) (lane : List ValueUpdate) (later : List LaterUpdate) → some_in (is_due now) later ≡ true →
    is_any (lane ++ map (λ (update : LaterUpdate). update.update) (filter (is_due now) later)) ≡ true
due-any now (update ∷ lane) later e = refl
due-any now [] [] e = cc
due-any now [] (first ∷ later) e = go (is_due now first) e (due-any now [] later)
  where
    go : (b : Bool) → (b || some_in (is_due now) later) ≡ true →
        (some_in (is_due now) later ≡ true → is_any ([] ++ map (λ (update : LaterUpdate). update.update) (filter (is_due now) later)) ≡ true) →
        is_any (map (λ (update : LaterUpdate). update.update) (cond b (first ∷ filter (is_due now) later) (filter (is_due now) later))) ≡ true
    go true h rest = refl
    go false h rest = rest h

some-postponed : (a b : Bool) (next : Option ℕ) → turn_by a b next ≡ Some PostponedTurn → a ≡ true
some-postponed true b next e = refl
some-postponed false true next e = cc
some-postponed false false None e = cc
some-postponed false false (Some time) e = cc

some-due : (a b : Bool) (next : Option ℕ) → turn_by a b next ≡ Some UpdatesTurn → b ≡ true
some-due true b next e = cc
some-due false true next e = refl
some-due false false None e = cc
some-due false false (Some time) e = cc

-- the first order takes a process or lane step
Steps : State → Type 0
Steps state = (event : Event) × (first_event state ≡ Some event) × (is_counted (Happens event) ≡ true)

steps-next : (state : State) → work_of 0 state.nodes ≡ None → (is_some (first_lane state) ≡ true) ⊎ (is_some (first_ready state) ≡ true) → Steps state
unfolding Steps
steps-next state none some = go (first_lane state) (first_ready state) refl refl
  where
    go : (lane ready : Option ℕ) → first_lane state ≡ lane → first_ready state ≡ ready → Steps state
    go (Some n) ready l r = (LaneStep n, (λ i. or_event (none i) (or_event (named_event LaneStep (l i)) (named_event Step (first_ready state)))), refl)
    go None (Some n) l r = (Step n, (λ i. or_event (none i) (or_event (named_event LaneStep (l i)) (named_event Step (r i)))), refl)
    go None None l r =
        let lane : is_some (first_lane state) ≡ false = ap is_some l in
        let ready : is_some (first_ready state) ≡ false = ap is_some r in elim some [ inl e ↦ absurd cc | inr e ↦ absurd cc ]

first-none : (one other : Option Event) → or_event one other ≡ None → one ≡ None
first-none None other e = refl
first-none (Some event) other e = cc

after-turn : (state : State) (kind : TurnKind) → first_event state ≡ None → turn_of state ≡ Some kind → turn_in_slot (Some kind) ≡ Some Turns → Steps (turned kind state)
after-turn state PostponedTurn idle found within =
    steps-next (turned PostponedTurn state) (first-none (work_of 0 state.nodes) _ idle)
    (inr (some-placed (λ (p : ProcessState). is_ready p.activity) (turned PostponedTurn state).processes
    (some-mapped (λ (p : ProcessState). is_postponed p.activity) (λ (p : ProcessState). is_ready p.activity) (λ (p : ProcessState). record p { activity = resumed p.activity }) state.processes
    (λ p. resumed-ready p.activity) (some-postponed _ _ _ found))))
after-turn state UpdatesTurn idle found within =
    steps-next (turned UpdatesTurn state) (first-none (work_of 0 state.nodes) _ idle)
    (inl (some-placed (λ (p : ProcessState). is_any p.lane) (turned UpdatesTurn state).processes
    (some-mapped (λ (p : ProcessState). some_in (is_due state.time) p.later) (λ (p : ProcessState). is_any p.lane)
    (λ (p : ProcessState). record p {
      later = filter (λ later. not (is_due state.time later)) p.later;
      lane = p.lane ++ map (λ (later : LaterUpdate). later.update) (filter (is_due state.time) p.later);
    }) state.processes (λ p. due-any state.time p.lane p.later) (some-due _ _ _ found))))
after-turn state (TimeTurn time) idle found within = cc

-- Turns and steps of some moves

turns_in : List Move → ℕ
turns_in [] = 0
turns_in (Happens event ∷ moves) = turns_in moves
turns_in (Turns ∷ moves) = suc (turns_in moves)

-- the turns are at most the steps and one, and at most the steps where a step comes first
record AreFew (state : State) (moves : List Move) : Type 0 where
  few : turns_in moves ≤ counted_steps moves + 1
  fewer : Steps state → turns_in moves ≤ counted_steps moves

counted-cons : (move : Move) (moves : List Move) → counted_steps (move ∷ moves) ≡ cond (is_counted move) 1 0 + counted_steps moves
counted-cons move moves = sum_by-cons (λ m. cond (is_counted m) 1 0) move moves

some-event : (one other : Event) → Some one ≡ Some other → one ≡ other
some-event one other e = cc

-- one event more
event-few : (state next : State) (event : Event) (moves : List Move) → first_event state ≡ Some event → AreFew next moves → AreFew state (Happens event ∷ moves)
unfolding turns_in Steps
event-few state next event moves first rest =
    let count : counted_steps (Happens event ∷ moves) ≡ cond (is_counted (Happens event)) 1 0 + counted_steps moves = counted-cons (Happens event) moves in
    let had : turns_in moves ≤ counted_steps moves + 1 = rest.few in
    record {
      few = omega (arith, count, had);
      fewer = λ steps.
          let same : steps.0 ≡ event = some-event steps.0 event (sym steps.1 ∙ first) in
          let one : ◌≡◌ {A = ℕ} (cond (is_counted (Happens event)) 1 0) 1 = ap (λ b. cond b 1 0) (subst (λ e. is_counted (Happens e) ≡ true) same steps.2) in
          omega (arith, count, had, one);
    }

-- one turn more
turn-few : (state : State) (kind : TurnKind) (moves : List Move) → first_event state ≡ None → turn_of state ≡ Some kind → turn_in_slot (Some kind) ≡ Some Turns → AreFew (turned kind state) moves →
    AreFew state (Turns ∷ moves)
unfolding turns_in Steps
turn-few state kind moves idle found within rest =
    let count : counted_steps (Turns ∷ moves) ≡ 0 + counted_steps moves = counted-cons Turns moves in
    let had : turns_in moves ≤ counted_steps moves = rest.fewer (after-turn state kind idle found within) in
    record {
      few = omega (arith, count, had);
      fewer = λ steps. absurd (let no : None ≡ Some steps.0 = sym idle ∙ steps.1 in cc);
    }

-- the next move of a slot
move-few : (machine : Machine) (state : State) (move : Move) (moves : List Move) → event_or_turn (first_event state) (turn_of state) ≡ Some move → AreFew (made machine state move) moves →
    AreFew state (move ∷ moves)
move-few machine state move moves is rest = go (first_event state) refl is
  where
    turn : first_event state ≡ None → (found : Option TurnKind) → turn_of state ≡ found → turn_in_slot found ≡ Some move → AreFew state (move ∷ moves)
    turn idle None f h = cc
    turn idle (Some PostponedTurn) f h =
        let same : Turns ≡ move = cc in
        let next : AreFew (made machine state Turns) moves = subst (λ m. AreFew (made machine state m) moves) (sym same) rest in
        subst (λ m. AreFew state (m ∷ moves)) same
        (turn-few state PostponedTurn moves idle f refl (subst (λ s. AreFew s moves) (ap (λ o. turned_by o state) f) next))
    turn idle (Some UpdatesTurn) f h =
        let same : Turns ≡ move = cc in
        let next : AreFew (made machine state Turns) moves = subst (λ m. AreFew (made machine state m) moves) (sym same) rest in
        subst (λ m. AreFew state (m ∷ moves)) same
        (turn-few state UpdatesTurn moves idle f refl (subst (λ s. AreFew s moves) (ap (λ o. turned_by o state) f) next))
    turn idle (Some (TimeTurn time)) f h = cc

    go : (found : Option Event) → first_event state ≡ found → event_or_turn found (turn_of state) ≡ Some move → AreFew state (move ∷ moves)
    go None f h = turn f (turn_of state) refl h
    go (Some event) f h =
        let same : Happens event ≡ move = cc in
        subst (λ m. AreFew state (m ∷ moves)) same (event-few state (made machine state move) event moves f rest)

abbrev on_move : ℕ → ℕ → Machine → State → Option Move → List Move
on_move fuel steps machine state found = elim found [ None ↦ [] | Some move ↦ move ∷ slot_moves fuel (less_one_if (is_counted move) steps) machine (made machine state move) ]

next-move : (steps : ℕ) (state : State) (move : Move) → slot_move steps state ≡ Some move → event_or_turn (first_event state) (turn_of state) ≡ Some move
next-move zero state move e = cc
next-move (suc steps) state move e = e

-- the first moves of a slot
moves-few : (machine : Machine) (before rest : List Move) (fuel steps : ℕ) (state : State) → slot_moves fuel steps machine state ≡ before ++ rest → AreFew state before
unfolding turns_in
moves-few machine [] rest fuel steps state e = record { few = omega arith; fewer = λ s. omega arith }
moves-few machine (move ∷ before) rest zero steps state e = cc
moves-few machine (move ∷ before) rest (suc fuel) steps state e = go (slot_move steps state) refl e (λ s t f. moves-few machine before rest fuel s t f)
  where
    go : (found : Option Move) → slot_move steps state ≡ found → on_move fuel steps machine state found ≡ move ∷ (before ++ rest) →
        ((s : ℕ) (t : State) → slot_moves fuel s machine t ≡ before ++ rest → AreFew t before) → AreFew state (move ∷ before)
    go None h f ih = cc
    go (Some found) h f ih =
        let same : found ≡ move = cc in
        let behind : slot_moves fuel (less_one_if (is_counted found) steps) machine (made machine state found) ≡ before ++ rest = cc in
        subst (λ m. AreFew state (m ∷ before)) same
        (move-few machine state found before (next-move steps state found h) (ih (less_one_if (is_counted found) steps) (made machine state found) behind))

-- Phases

-- there is one phase more than turns
cut-count : (machine : Machine) (turn : Option TurnKind) (begins : State) (events : List Event) (state : State) (moves : List Move) →
    length (cut machine turn begins events state moves) ≡ turns_in moves + 1
unfolding turns_in
cut-count machine turn begins events state [] = refl
cut-count machine turn begins events state (Happens event ∷ moves) = cut-count machine turn begins (events ++ event ∷ []) _ moves
cut-count machine turn begins events state (Turns ∷ moves) =
    let rest : length (cut machine (turn_of state) (made machine state Turns) [] (made machine state Turns) moves) ≡ turns_in moves + 1 =
    cut-count machine (turn_of state) (made machine state Turns) [] (made machine state Turns) moves in
    omega (arith, rest)

append-nothing : (xs : List Move) → xs ++ [] ≡ xs
append-nothing [] = refl
append-nothing (x ∷ xs) = ap (λ ys. x ∷ ys) (append-nothing xs)

pub phases_are_few : PhasesAreFew
phases_are_few machine at r =
    let present : Phase = record { turn = at.turn; begins = at.phase_begins; events = at.events } in
    let few : turns_in r.moves ≤ counted_steps r.moves + 1 =
    (moves-few machine r.moves (slot_moves r.most_left r.steps_left machine at.state) (most_moves machine) (most_steps + 1) at.begins r.goes_on).few in
    let all : length (cut machine None at.begins [] at.begins (r.moves ++ [])) ≡ turns_in (r.moves ++ []) + 1 = cut-count machine None at.begins [] at.begins (r.moves ++ []) in
    let cuts : length (cut machine None at.begins [] at.begins (r.moves ++ [])) ≡ length (at.ended ++ present ∷ []) = ap length (r.cuts []) in
    let sum : length (at.ended ++ present ∷ []) ≡ length at.ended + 1 = length-append at.ended (present ∷ []) in
    let same : turns_in (r.moves ++ []) ≡ turns_in r.moves = ap turns_in (append-nothing r.moves) in
    let count : at.steps ≡ counted_steps r.moves = r.counted in
    omega (arith, few, all, cuts, sum, same, count)

slot-few : (machine : Machine) (begins : State) → length (cut machine None begins [] begins (first_moves machine begins)) ≤ counted_steps (first_moves machine begins) + 2
slot-few machine begins =
    let few : turns_in (first_moves machine begins) ≤ counted_steps (first_moves machine begins) + 1 =
    (moves-few machine (first_moves machine begins) [] (most_moves machine) (most_steps + 1) begins (sym (append-nothing (first_moves machine begins)))).few in
    let all : length (cut machine None begins [] begins (first_moves machine begins)) ≡ turns_in (first_moves machine begins) + 1 =
    cut-count machine None begins [] begins (first_moves machine begins) in
    omega (arith, few, all)

abbrev HasFewPhases : Machine → FirstSlot → Type 0
HasFewPhases machine slot = length (phases machine slot) ≤ counted_steps slot.moves + 2

slots-few : (machine : Machine) (time count : ℕ) (state : State) → AllHold (HasFewPhases machine) (first_slots count machine time state)
slots-few machine time zero state = tt
slots-few machine time (suc count) state = (
  slot-few machine state,
  go (next_slot machine time (record { begins = state; moves = first_moves machine state })) (λ next. slots-few machine time count next),
)
  where
    go : (found : Option State) → ((next : State) → AllHold (HasFewPhases machine) (first_slots count machine time next)) →
        AllHold (HasFewPhases machine) (elim found [ None ↦ [] | Some next ↦ first_slots count machine time next ])
    go None rest = tt
    go (Some next) rest = rest next

pub slot_phases_are_few : SlotPhasesAreFew
slot_phases_are_few machine time = slots-few machine time (time + 1) (start machine)

-- Whatever order led to a turn

neither : (a b : Bool) → (not a && not b) ≡ true → b ≡ false
neither true b e = cc
neither false true e = cc
neither false false e = refl

idle-none : (start : ℕ) (xs : List NodeState) → some_in has_work xs ≡ false → work_of start xs ≡ None
idle-none start [] h = refl
idle-none start (x ∷ xs) h = go x.marked (is_some x.pending) h (idle-none (start + 1) xs)
  where
    go : (a b : Bool) → ((a || b) || some_in has_work xs) ≡ false → (some_in has_work xs ≡ false → work_of (start + 1) xs ≡ None) → least_work start a b (work_of (start + 1) xs) ≡ None
    go true b f rest = cc
    go false true f rest = cc
    go false false f rest = rest f

or-right : (a b : Bool) → b ≡ true → (a || b) ≡ true
or-right true b e = refl
or-right false b e = e

pub turns_wake : TurnsWake
turns_wake state PostponedTurn quiet found within = (
  some-mapped (λ (p : ProcessState). is_postponed p.activity) has_event (λ (p : ProcessState). record p { activity = resumed p.activity }) state.processes
      (λ p e. ap (λ b. b || is_any p.lane) (resumed-ready p.activity e)) (some-postponed _ _ _ found),
  idle-none 0 state.nodes (neither (some_in has_event state.processes) (some_in has_work state.nodes) quiet),
)
turns_wake state UpdatesTurn quiet found within = (
  some-mapped (λ (p : ProcessState). some_in (is_due state.time) p.later) has_event
      (λ (p : ProcessState). record p {
        later = filter (λ later. not (is_due state.time later)) p.later;
        lane = p.lane ++ map (λ (later : LaterUpdate). later.update) (filter (is_due state.time) p.later);
      }) state.processes (λ p e. or-right (is_ready p.activity) _ (due-any state.time p.lane p.later e)) (some-due _ _ _ found),
  idle-none 0 state.nodes (neither (some_in has_event state.processes) (some_in has_work state.nodes) quiet),
)
turns_wake state (TimeTurn time) quiet found within = cc

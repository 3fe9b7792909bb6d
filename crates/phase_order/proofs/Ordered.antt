-- The phases of a slot, from one move of the first order to the next.
use Rattle.std.proofs.Common.{◌≡◌, ℕ, zero, suc, ◌+◌, ◌<◌, List, [], ◌∷◌, ◌++◌, Bool, true, false, not, ◌&&◌, ◌||◌, refl, sym, ap, subst, ◌∙◌, arith}
use Rattle.std.specs.Prelude.{Option, Some, None, is_some, cond, sum_by}
use Rattle.std.proofs.lemmas.Bool.{leb-false}
use Rattle.std.proofs.lemmas.List.Sums.{sum_by-append, sum_by-cons}
use Rattle.vf_base.specs.Lists.{first_place, earlier_place}
use Rattle.v_design.specs.Designs.{Machine}
use Rattle.v_design.specs.States.{State, NodeState, ProcessState, Event, Step, LaneStep, Evaluation, NetUpdate, TurnKind, PostponedTurn, UpdatesTurn, TimeTurn, after, is_ready, is_any, has_event, has_work}
use Rattle.v_design.specs.States.{some_in, is_quiescent, turn_of}
use Rattle.v_design.specs.Runs.{Move, Happens, Turns, happened, work_of, least_work, or_event, named_event, first_event, turn_in_slot, event_or_turn, made, all_made, is_counted, counted_steps}
use Rattle.v_design.specs.Runs.{less_one_if, slot_moves, most_steps, most_moves, first_moves}
use Rattle.v_design.specs.Grades.{Phase, cut}
use Rattle.v_design.specs.Laws.{SlotsEnd}
use Rattle.machine_laws.specs.SlotLoop.{steps_of, first_lane, first_ready, IsIdle}
use Rattle.copy_laws.specs.Beside.{AreFirst}
use Rattle.phase_order.specs.Order.{ComeNext, FollowOrder, end_of, phase_steps, PhasesFollow, FirstEventsSplit}

-- Events of the first order

pub first_events_split : FirstEventsSplit
first_events_split machine state [] more = (refl, λ f. (tt, f))
first_events_split machine state (event ∷ first) more =
    let rest = first_events_split machine (after machine state event) first more in
    (rest.0, λ f. ((f.0, (rest.1 f.1).0), (rest.1 f.1).1))

-- one event more
first-more : (machine : Machine) (begins : State) (events : List Event) (event : Event) → AreFirst machine begins events → first_event (happened machine begins events) ≡ Some event →
    AreFirst machine begins (events ++ event ∷ [])
first-more machine begins [] event f e = (e, tt)
first-more machine begins (first ∷ events) event f e = (f.0, first-more machine (after machine begins first) events event f.1 e)

happened-more : (machine : Machine) (begins : State) (events : List Event) (event : Event) →
    happened machine begins (events ++ event ∷ []) ≡ after machine (happened machine begins events) event
happened-more machine begins events event = (first_events_split machine begins events (event ∷ [])).0

-- No event is possible

or-neither : (a b : Bool) → (a || b) ≡ false → (a ≡ false) × (b ≡ false)
or-neither true b e = cc
or-neither false b e = (refl, e)

both-not : (b c : Bool) → (not b && not c) ≡ true → (b ≡ false) × (c ≡ false)
both-not true c e = cc
both-not false true e = cc
both-not false false e = (refl, refl)

no-work : (n : ℕ) (nodes : List NodeState) → some_in has_work nodes ≡ false → work_of n nodes ≡ None
no-work n [] e = refl
no-work n (node ∷ nodes) e =
    let parts = or-neither (has_work node) (some_in has_work nodes) e in
    let own = or-neither node.marked (is_some node.pending) parts.0 in
    λ i. least_work n (own.0 i) (own.1 i) (no-work (n + 1) nodes parts.1 i)

no-place : (test : ProcessState → Bool) (xs : List ProcessState) → ((p : ProcessState) → has_event p ≡ false → test p ≡ false) → some_in has_event xs ≡ false → first_place test xs ≡ None
no-place test [] h e = refl
no-place test (x ∷ xs) h e =
    let parts = or-neither (has_event x) (some_in has_event xs) e in
    λ i. earlier_place (h x parts.0 i) (no-place test xs h parts.1 i)

quiet-idle : (state : State) → is_quiescent state ≡ true → IsIdle state
quiet-idle state e =
    let parts = both-not (some_in has_event state.processes) (some_in has_work state.nodes) e in (
      no-work 0 state.nodes parts.1,
      no-place (λ (p : ProcessState). is_any p.lane) state.processes (λ p h. (or-neither (is_ready p.activity) (is_any p.lane) h).1) parts.0,
      no-place (λ (p : ProcessState). is_ready p.activity) state.processes (λ p h. (or-neither (is_ready p.activity) (is_any p.lane) h).0) parts.0,
    )

idle-at : (state : State) → first_event state ≡ None → IsIdle state
idle-at state e = go (work_of 0 state.nodes) (first_lane state) (first_ready state) e
  where
    go : (work : Option Event) (lane ready : Option ℕ) → or_event work (or_event (named_event LaneStep lane) (named_event Step ready)) ≡ None → (work ≡ None) × (lane ≡ None) × (ready ≡ None)
    go (Some event) lane ready f = cc
    go None (Some process) ready f = cc
    go None None (Some process) f = cc
    go None None None f = (refl, refl, refl)

-- From move to move

-- some moves lead to a slot's end
record Ends (machine : Machine) (state : State) (moves : List Move) : Type 0 where
  quiescent : is_quiescent (all_made machine state moves) ≡ true
  no_turn : turn_in_slot (turn_of (all_made machine state moves)) ≡ None

-- the moves that begin with one, if one comes
abbrev moves_from : ℕ → ℕ → Machine → State → Option Move → List Move
moves_from most left machine state None = []
moves_from most left machine state (Some move) = move ∷ slot_moves most (less_one_if (is_counted move) (suc left)) machine (made machine state move)

-- the phase that is under way: it began in a state with some events, which the first order took
record IsUnderWay (machine : Machine) (begins : State) (events : List Event) (state : State) : Type 0 where
  is : state ≡ happened machine begins events
  first : AreFirst machine begins events

last : (machine : Machine) (turn : Option TurnKind) (begins : State) (events : List Event) (state : State) → IsUnderWay machine begins events state → Ends machine state [] →
    FollowOrder machine turn begins (record { turn = turn; begins = begins; events = events } ∷ [])
last machine turn begins events state way ends = (
  record { turn_is = refl; begins_is = refl; first = way.first; idle = subst IsIdle way.is (quiet-idle state ends.quiescent) },
  subst (λ s. turn_in_slot (turn_of s) ≡ None) way.is ends.no_turn,
)

-- the next phase
come-next : (machine : Machine) (end : State) (rest : List Phase) → turn_in_slot (turn_of end) ≡ Some Turns → FollowOrder machine (turn_of end) (made machine end Turns) rest →
    ComeNext machine end rest
come-next machine end [] inside f = absurd f
come-next machine end (phase ∷ rest) inside f = (inside, f.0, f.1)

abbrev AllFollow : Machine → ℕ → Type 0
AllFollow machine most =
    (left : ℕ) (turn : Option TurnKind) (begins : State) (events : List Event) (state : State) → IsUnderWay machine begins events state → Ends machine state (slot_moves most left machine state) →
    FollowOrder machine turn begins (cut machine turn begins events state (slot_moves most left machine state))

turned-follow : (machine : Machine) (most left : ℕ) (turn : Option TurnKind) (begins : State) (events : List Event) (state : State) → IsUnderWay machine begins events state →
    AllFollow machine most → first_event state ≡ None → turn_in_slot (turn_of state) ≡ Some Turns →
    Ends machine state (Turns ∷ slot_moves most (suc left) machine (made machine state Turns)) →
    FollowOrder machine turn begins (cut machine turn begins events state (Turns ∷ slot_moves most (suc left) machine (made machine state Turns)))
turned-follow machine most left turn begins events state way rest e inside ends = (
  record { turn_is = refl; begins_is = refl; first = way.first; idle = subst IsIdle way.is (idle-at state e) },
  subst (λ s. ComeNext machine s next) way.is
      (come-next machine state next inside
      (rest (suc left) (turn_of state) (made machine state Turns) [] (made machine state Turns) (record { is = refl; first = tt })
      (record { quiescent = ends.quiescent; no_turn = ends.no_turn }))),
)
  where
    next : List Phase
    next = cut machine (turn_of state) (made machine state Turns) [] (made machine state Turns) (slot_moves most (suc left) machine (made machine state Turns))

move-follows : (machine : Machine) (most left : ℕ) (turn : Option TurnKind) (begins : State) (events : List Event) (state : State) → IsUnderWay machine begins events state →
    AllFollow machine most → (found : Option Event) (next : Option TurnKind) → first_event state ≡ found → turn_of state ≡ next →
    Ends machine state (moves_from most left machine state (event_or_turn found next)) →
    FollowOrder machine turn begins (cut machine turn begins events state (moves_from most left machine state (event_or_turn found next)))
move-follows machine most left turn begins events state way rest (Some event) next e t ends =
    rest (less_one_if (is_counted (Happens event)) (suc left)) turn begins (events ++ event ∷ []) (after machine state event)
    (record {
      is = ap (λ s. after machine s event) way.is ∙ sym (happened-more machine begins events event);
      first = first-more machine begins events event way.first (ap first_event (sym way.is) ∙ e);
    })
    (record { quiescent = ends.quiescent; no_turn = ends.no_turn })
move-follows machine most left turn begins events state way rest None None e t ends = last machine turn begins events state way ends
move-follows machine most left turn begins events state way rest None (Some (TimeTurn time)) e t ends = last machine turn begins events state way ends
move-follows machine most left turn begins events state way rest None (Some PostponedTurn) e t ends =
    turned-follow machine most left turn begins events state way rest e (ap turn_in_slot t) ends
move-follows machine most left turn begins events state way rest None (Some UpdatesTurn) e t ends =
    turned-follow machine most left turn begins events state way rest e (ap turn_in_slot t) ends

all-follow : (machine : Machine) (most : ℕ) → AllFollow machine most
all-follow machine zero left turn begins events state way ends = last machine turn begins events state way ends
all-follow machine (suc most) zero turn begins events state way ends = last machine turn begins events state way ends
all-follow machine (suc most) (suc left) turn begins events state way ends =
    move-follows machine most left turn begins events state way (all-follow machine most) (first_event state) (turn_of state) refl refl ends

-- Where the phases end, and how many steps they take

ends-there : (machine : Machine) (turn : Option TurnKind) (begins : State) (events : List Event) (state any : State) (moves : List Move) → state ≡ happened machine begins events →
    all_made machine state moves ≡ end_of machine any (cut machine turn begins events state moves)
ends-there machine turn begins events state any [] is = is
ends-there machine turn begins events state any (Happens event ∷ moves) is =
    ends-there machine turn begins (events ++ event ∷ []) (after machine state event) any moves (ap (λ s. after machine s event) is ∙ sym (happened-more machine begins events event))
ends-there machine turn begins events state any (Turns ∷ moves) is =
    ends-there machine (turn_of state) (made machine state Turns) [] (made machine state Turns) (happened machine begins events) moves refl

counted-first : (move : Move) (moves : List Move) → counted_steps (move ∷ moves) ≡ cond (is_counted move) 1 0 + counted_steps moves
counted-first move moves = sum_by-append (λ m. cond (is_counted m) 1 0) (move ∷ []) moves ∙ ap (λ n. n + counted_steps moves) (first (is_counted move))
  where
    first : (b : Bool) → ◌≡◌ {A = ℕ} (0 + cond b 1 0) (cond b 1 0)
    first true = refl
    first false = refl

event-counts : (event : Event) → ◌≡◌ {A = ℕ} (steps_of event) (cond (is_counted (Happens event)) 1 0)
event-counts (Step process) = refl
event-counts (LaneStep process) = refl
event-counts (Evaluation node) = refl
event-counts (NetUpdate node) = refl

steps-more : (events : List Event) (event : Event) → sum_by steps_of (events ++ event ∷ []) ≡ sum_by steps_of events + steps_of event
steps-more events event =
    let a : sum_by steps_of (events ++ event ∷ []) ≡ sum_by steps_of events + sum_by steps_of (event ∷ []) = sum_by-append steps_of events (event ∷ []) in
    let b : sum_by steps_of (event ∷ []) ≡ steps_of event + sum_by steps_of [] = sum_by-cons steps_of event [] in
    let c : sum_by steps_of [] ≡ 0 = refl in
    omega (arith, a, b, c)

steps-are : (machine : Machine) (turn : Option TurnKind) (begins : State) (events : List Event) (state : State) (moves : List Move) →
    sum_by phase_steps (cut machine turn begins events state moves) ≡ sum_by steps_of events + counted_steps moves
steps-are machine turn begins events state [] =
    let a : sum_by phase_steps (record { turn = turn; begins = begins; events = events } ∷ []) ≡ sum_by steps_of events + sum_by phase_steps [] =
    sum_by-cons phase_steps (record { turn = turn; begins = begins; events = events }) [] in
    let b : sum_by phase_steps [] ≡ 0 = refl in
    let c : counted_steps [] ≡ 0 = refl in
    omega (arith, a, b, c)
steps-are machine turn begins events state (Happens event ∷ moves) =
    let a : sum_by phase_steps (cut machine turn begins (events ++ event ∷ []) (after machine state event) moves) ≡ sum_by steps_of (events ++ event ∷ []) + counted_steps moves =
    steps-are machine turn begins (events ++ event ∷ []) (after machine state event) moves in
    let b : sum_by steps_of (events ++ event ∷ []) ≡ sum_by steps_of events + steps_of event = steps-more events event in
    let c : counted_steps (Happens event ∷ moves) ≡ cond (is_counted (Happens event)) 1 0 + counted_steps moves = counted-first (Happens event) moves in
    let d : steps_of event ≡ cond (is_counted (Happens event)) 1 0 = event-counts event in
    omega (arith, a, b, c, d)
steps-are machine turn begins events state (Turns ∷ moves) =
    let next : List Phase = cut machine (turn_of state) (made machine state Turns) [] (made machine state Turns) moves in
    let a : sum_by phase_steps next ≡ sum_by steps_of [] + counted_steps moves = steps-are machine (turn_of state) (made machine state Turns) [] (made machine state Turns) moves in
    let b : sum_by phase_steps (record { turn = turn; begins = begins; events = events } ∷ next) ≡ sum_by steps_of events + sum_by phase_steps next =
    sum_by-cons phase_steps (record { turn = turn; begins = begins; events = events }) next in
    let c : counted_steps (Turns ∷ moves) ≡ 0 + counted_steps moves = counted-first Turns moves in
    let d : sum_by steps_of [] ≡ 0 = refl in
    omega (arith, a, b, c, d)

-- The law

pub phases_follow : SlotsEnd → PhasesFollow
phases_follow law machine begins rules asked few =
    let steps : counted_steps (first_moves machine begins) < suc most_steps = leb-false (suc most_steps) (counted_steps (first_moves machine begins)) few in
    let ends = law machine begins rules asked (omega (arith, steps)) in
    let all : sum_by phase_steps (cut machine None begins [] begins (first_moves machine begins)) ≡ sum_by steps_of [] + counted_steps (first_moves machine begins) =
    steps-are machine None begins [] begins (first_moves machine begins) in
    let none : sum_by steps_of [] ≡ 0 = refl in
    record {
      follow = all-follow machine (most_moves machine) (most_steps + 1) None begins [] begins (record { is = refl; first = tt }) (record { quiescent = ends.0; no_turn = ends.1 });
      ends = ends-there machine None begins [] begins begins (first_moves machine begins) refl;
      few = omega (arith, steps, all, none);
    }

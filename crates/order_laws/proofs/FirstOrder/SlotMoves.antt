-- The moves of a slot of the first order may be made, and time stands still.
use Rattle.std.proofs.Common.{◌≡◌, ℕ, zero, suc, ◌+◌, List, [], ◌∷◌, ◌++◌, Bool, true, false, ◌&&◌, refl, sym, ap, subst, ◌∙◌, ◌⊎◌, inl, inr, arith}
use Rattle.std.specs.Prelude.{Option, Some, None, slice_get, is_some}
use Rattle.vf_base.specs.Lists.{first_place, earlier_place, AllHold}
use Rattle.v_design.specs.Designs.{Machine}
use Rattle.v_design.specs.States.{State, ProcessState, NodeState, Event, Step, LaneStep, Evaluation, NetUpdate, TurnKind, PostponedTurn, UpdatesTurn, TimeTurn, after, possible, found_or, idle_node}
use Rattle.v_design.specs.States.{idle_process, is_ready, is_any, is_quiescent, turn_of, turned}
use Rattle.v_design.specs.Runs.{Move, Happens, Turns, then_state, only_if, turn_within, moved, replayed, named_event, or_event, least_work, work_of, first_event, turn_in_slot, event_or_turn}
use Rattle.v_design.specs.Runs.{slot_move, turned_by, made, all_made, is_counted, less_one_if, slot_moves}
use Rattle.v_design.specs.Grades.{Phase, cut}
use Rattle.order_laws.proofs.Runs.{time-after}
use Rattle.order_laws.specs.Settling.{FirstEvents}
use Rattle.order_laws.proofs.SlotsEnd.{none_possible, on_move, idle_nodes, node_work, process_next}
use Rattle.order_laws.proofs.RunsEndAlike.{some_eq}
use Rattle.order_laws.proofs.FirstOrder.Awake.{AwakeLater, later-after, later-turned}

-- The event that the first order takes is possible

-- the event of a node from a number on that has work
abbrev HasWork : ℕ → List NodeState → Event → Type 0
HasWork start xs event =
    (number : ℕ)
    × (((event ≡ Evaluation (start + number)) × ((found_or idle_node (slice_get xs number)).marked ≡ true))
    ⊎ ((event ≡ NetUpdate (start + number)) × (is_some (found_or idle_node (slice_get xs number)).pending ≡ true)))

work-there : (start : ℕ) (xs : List NodeState) (event : Event) → work_of start xs ≡ Some event → HasWork start xs event
work-there start [] event e = cc
work-there start (x ∷ xs) event e = go x.marked (is_some x.pending) refl refl e (λ f. work-there (start + 1) xs event f)
  where
    go : (a b : Bool) → x.marked ≡ a → is_some x.pending ≡ b → least_work start a b (work_of (start + 1) xs) ≡ Some event → (work_of (start + 1) xs ≡ Some event → HasWork (start + 1) xs event) →
        HasWork start (x ∷ xs) event
    go true b m p f rest = (0, inl (sym (some_eq (Evaluation start) event f) ∙ ap Evaluation (let z : start ≡ start + 0 = omega arith in z), m))
    go false true m p f rest = (0, inr (sym (some_eq (NetUpdate start) event f) ∙ ap NetUpdate (let z : start ≡ start + 0 = omega arith in z), p))
    go false false m p f rest =
        let r = rest f in
        let n : ℕ = r.0 in
        let z : start + 1 + n ≡ start + suc n = omega arith in (
          suc n,
          elim r.1 [
            | inl q ↦ inl (q.0 ∙ ap Evaluation z, q.1)
            | inr q ↦ inr (q.0 ∙ ap NetUpdate z, q.1)
          ],
        )

placed : (test : ProcessState → Bool) (xs : List ProcessState) (n : ℕ) → first_place test xs ≡ Some n → test (found_or idle_process (slice_get xs n)) ≡ true
placed test [] n e = cc
placed test (x ∷ xs) n e = go (test x) (first_place test xs) refl refl e (λ m f. placed test xs m f)
  where
    go : (b : Bool) (o : Option ℕ) → test x ≡ b → first_place test xs ≡ o → earlier_place b o ≡ Some n →
        ((m : ℕ) → first_place test xs ≡ Some m → test (found_or idle_process (slice_get xs m)) ≡ true) →
        test (found_or idle_process (slice_get (x ∷ xs) n)) ≡ true
    go true o t f h rest = subst (λ k. test (found_or idle_process (slice_get (x ∷ xs) k)) ≡ true) (some_eq 0 n h) t
    go false None t f h rest = cc
    go false (Some m) t f h rest =
        subst (λ k. test (found_or idle_process (slice_get (x ∷ xs) k)) ≡ true) (let z : suc m ≡ m + 1 = omega arith in z ∙ some_eq (m + 1) n h) (rest m f)

named-some : (event : ℕ → Event) (found : Option ℕ) (x : Event) → named_event event found ≡ Some x → (n : ℕ) × (found ≡ Some n) × (event n ≡ x)
named-some event None x e = cc
named-some event (Some n) x e = (n, refl, some_eq (event n) x e)

or-some : (one other : Option Event) (x : Event) → or_event one other ≡ Some x → (one ≡ Some x) ⊎ (other ≡ Some x)
or-some None other x e = inr e
or-some (Some y) other x e = inl e

pub first_possible : (state : State) (event : Event) → first_event state ≡ Some event → possible state event ≡ true
first_possible state event e =
    elim (or-some (work_of 0 state.nodes) _ event e) [
      | inl w ↦ node (work-there 0 state.nodes event w)
      | inr p ↦
          elim (or-some (named_event LaneStep (first_place (λ (p : ProcessState). is_any p.lane) state.processes)) _ event p) [
            | inl l ↦
                (let n = named-some LaneStep _ event l in
                subst (λ x. possible state x ≡ true) n.2 (placed (λ (p : ProcessState). is_any p.lane) state.processes n.0 n.1))
            | inr s ↦
                (let n = named-some Step _ event s in
                subst (λ x. possible state x ≡ true) n.2 (placed (λ (p : ProcessState). is_ready p.activity) state.processes n.0 n.1))
          ]
    ]
  where
    node : HasWork 0 state.nodes event → possible state event ≡ true
    node r =
        let n : ℕ = r.0 in
        let z : n ≡ 0 + n = omega arith in
        elim r.1 [
          | inl q ↦ subst (λ x. possible state x ≡ true) (ap Evaluation z ∙ sym q.0) q.1
          | inr q ↦ subst (λ x. possible state x ≡ true) (ap NetUpdate z ∙ sym q.0) q.1
        ]

-- One move

-- a move that may be made, to no later time
record May (machine : Machine) (time : ℕ) (state : State) (move : Move) : Type 0 where
  leads : moved machine time state move ≡ Some (made machine state move)
  same_time : (made machine state move).time ≡ state.time
  later : AwakeLater state → AwakeLater (made machine state move)

turn-may : (machine : Machine) (time : ℕ) (state : State) (turn : TurnKind) → is_quiescent state ≡ true → turn_of state ≡ Some turn → turn_in_slot (Some turn) ≡ Some Turns →
    May machine time state Turns
turn-may machine time state PostponedTurn quiet t s = record {
  leads = ap (turn_within time state) t ∙ ap (λ b. only_if (b && true) (turned PostponedTurn state)) quiet ∙ ap (λ o. Some (turned_by o state)) (sym t);
  same_time = ap (λ o. (turned_by o state).time) t;
  later = λ h. subst (λ o. AwakeLater (turned_by o state)) (sym t) (later-turned PostponedTurn state h);
}
turn-may machine time state UpdatesTurn quiet t s = record {
  leads = ap (turn_within time state) t ∙ ap (λ b. only_if (b && true) (turned UpdatesTurn state)) quiet ∙ ap (λ o. Some (turned_by o state)) (sym t);
  same_time = ap (λ o. (turned_by o state).time) t;
  later = λ h. subst (λ o. AwakeLater (turned_by o state)) (sym t) (later-turned UpdatesTurn state h);
}
turn-may machine time state (TimeTurn later) quiet t s = cc

turn-found : (machine : Machine) (time : ℕ) (state : State) (turn : Option TurnKind) (move : Move) → is_quiescent state ≡ true → turn_of state ≡ turn → turn_in_slot turn ≡ Some move →
    May machine time state move
turn-found machine time state None move quiet t e = cc
turn-found machine time state (Some PostponedTurn) move quiet t e = subst (λ m. May machine time state m) (some_eq Turns move e) (turn-may machine time state PostponedTurn quiet t refl)
turn-found machine time state (Some UpdatesTurn) move quiet t e = subst (λ m. May machine time state m) (some_eq Turns move e) (turn-may machine time state UpdatesTurn quiet t refl)
turn-found machine time state (Some (TimeTurn later)) move quiet t e = cc

may : (machine : Machine) (time steps : ℕ) (state : State) (move : Move) → slot_move steps state ≡ Some move → May machine time state move
may machine time zero state move e = cc
may machine time (suc steps) state move e = go (first_event state) refl e
  where
    go : (found : Option Event) → first_event state ≡ found → event_or_turn found (turn_of state) ≡ Some move → May machine time state move
    go None f h = turn-found machine time state (turn_of state) move (none_possible state f) refl h
    go (Some event) f h =
        subst (λ m. May machine time state m) (some_eq (Happens event) move h)
        (record {
          leads = ap (λ b. only_if b (after machine state event)) (first_possible state event f);
          same_time = time-after machine state event;
          later = later-after machine state event;
        })

-- All moves of a slot

-- moves that may be made, to no later time
pub record MayAll (machine : Machine) (time : ℕ) (state : State) (moves : List Move) : Type 0 where
  pub leads : replayed machine time state moves ≡ Some (all_made machine state moves)
  pub same_time : (all_made machine state moves).time ≡ state.time
  pub later : AwakeLater state → AwakeLater (all_made machine state moves)
  pub phases : (turn : Option TurnKind) (begins : State) (events : List Event) → begins.time ≡ state.time →
      AllHold (λ (phase : Phase). phase.begins.time ≡ state.time) (cut machine turn begins events state moves)

one-more : (machine : Machine) (time : ℕ) (state : State) (move : Move) (moves : List Move) → May machine time state move → MayAll machine time (made machine state move) moves →
    MayAll machine time state (move ∷ moves)
one-more machine time state move moves m r = record {
  leads = ap (λ o. then_state o (λ next. replayed machine time next moves)) m.leads ∙ r.leads;
  same_time = r.same_time ∙ m.same_time;
  later = λ h. r.later (m.later h);
  phases = λ turn begins events t. cuts move moves m r turn begins events t;
}
  where
    cuts : (move : Move) (moves : List Move) → May machine time state move → MayAll machine time (made machine state move) moves → (turn : Option TurnKind) (begins : State) (events : List Event) →
        begins.time ≡ state.time →
        AllHold (λ (phase : Phase). phase.begins.time ≡ state.time) (cut machine turn begins events state (move ∷ moves))
    cuts (Happens event) moves m r turn begins events t =
        subst (λ n. AllHold (λ (phase : Phase). phase.begins.time ≡ n) (cut machine turn begins (events ++ event ∷ []) (after machine state event) moves)) m.same_time
        (r.phases turn begins (events ++ event ∷ []) (t ∙ sym m.same_time))
    cuts Turns moves m r turn begins events t = (
      t,
      subst (λ n. AllHold (λ (phase : Phase). phase.begins.time ≡ n) (cut machine (turn_of state) (made machine state Turns) [] (made machine state Turns) moves)) m.same_time
          (r.phases (turn_of state) (made machine state Turns) [] refl),
    )

none-made : (machine : Machine) (time : ℕ) (state : State) → MayAll machine time state []
none-made machine time state = record { leads = refl; same_time = refl; later = λ h. h; phases = λ turn begins events t. (t, tt) }

pub slot_may : (machine : Machine) (time fuel steps : ℕ) (state : State) → MayAll machine time state (slot_moves fuel steps machine state)
slot_may machine time zero steps state = none-made machine time state
slot_may machine time (suc fuel) steps state = go (slot_move steps state) refl (λ k s. slot_may machine time fuel k s)
  where
    go : (found : Option Move) → slot_move steps state ≡ found → ((k : ℕ) (s : State) → MayAll machine time s (slot_moves fuel k machine s)) →
        MayAll machine time state (on_move fuel steps machine state found)
    go None e rest = none-made machine time state
    go (Some move) e rest =
        one-more machine time state move (slot_moves fuel (less_one_if (is_counted move) steps) machine (made machine state move)) (may machine time steps state move e)
        (rest (less_one_if (is_counted move) steps) (made machine state move))

pub first_events : FirstEvents
first_events = record { may = first_possible; none = none_possible; idle = idle_nodes; node = node_work; process = process_next }

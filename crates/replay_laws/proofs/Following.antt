-- Where a replay stands in its run: through each step, and through each turn.
use Rattle.std.proofs.Common.{◌≡◌, ℕ, zero, suc, ◌+◌, ◌*◌, ◌<◌, ◌≤◌, List, [], ◌∷◌, ◌++◌, map, length, Bool, true, false, ◌&&◌, refl, sym, ap, subst, ◌∙◌, arith}
use Rattle.std.specs.Prelude.{Option, Some, None, slice_get, is_some, nat_eq, nat_le, nat_lt, cond}
use Rattle.std.proofs.lemmas.Bool.{eq-eqb, ne_eqb, eqb-true}
use Rattle.v_design.specs.Designs.{Machine}
use Rattle.v_design.specs.States.{State, NodeState, Event, Evaluation, NetUpdate, TurnKind, PostponedTurn, UpdatesTurn, TimeTurn, start, possible, after, found_or, idle_node}
use Rattle.v_design.specs.States.{node_at, is_quiescent, turn_of, turned}
use Rattle.v_design.specs.Runs.{Move, Happens, Turns, then_state, only_if, stays_within, turn_within, replayed, happened, all_possible, least_work, work_of, made, turned_by}
use Rattle.v_design.specs.Grades.{Phase, cut}
use Rattle.v_design.specs.WellFormed.{KeepsRules}
use Rattle.order_laws.specs.Settling.{node_events, settling}
use Rattle.cert_laws.specs.Replays.{Replay, with_events, stepped_on, step_on, turned_on, phase_on, slot_on, begun}
use Rattle.replay_laws.specs.Claimed.{at_time}
use Rattle.replay_laws.specs.Looked.{StandsAt}
use Rattle.replay_laws.proofs.Words.{some-eq, both-true, only-some, append-assoc, append-nothing, length-push, filter-append}
use Rattle.replay_laws.proofs.Growing.{time-happened, times-happened, times-turned, times-start, rises}

-- Node events are possible

work-possible : (state : State) (first : ℕ) (xs : List NodeState) → ((k : ℕ) (x : NodeState) → slice_get xs k ≡ Some x → node_at state (first + k) ≡ x) → (event : Event) →
    work_of first xs ≡ Some event → possible state event ≡ true
work-possible state first [] at event e = cc
work-possible state first (x ∷ xs) at event e =
    go x.marked (is_some x.pending) refl refl e (λ f. work-possible state (first + 1) xs (λ k y g. ap (node_at state) (let z : first + 1 + k ≡ first + suc k = omega arith in z) ∙ at (suc k) y g)
    event f)
  where
    here : node_at state first ≡ x
    here = ap (node_at state) (let z : first ≡ first + 0 = omega arith in z) ∙ at 0 x refl

    go : (a b : Bool) → x.marked ≡ a → is_some x.pending ≡ b → least_work first a b (work_of (first + 1) xs) ≡ Some event → (work_of (first + 1) xs ≡ Some event → possible state event ≡ true) →
        possible state event ≡ true
    go true b m p f rest = subst (λ ev. possible state ev ≡ true) (some-eq (Evaluation first) event f) (ap (λ (n : NodeState). n.marked) here ∙ m)
    go false true m p f rest = subst (λ ev. possible state ev ≡ true) (some-eq (NetUpdate first) event f) (ap (λ (n : NodeState). is_some n.pending) here ∙ p)
    go false false m p f rest = rest f

node-possible : (state : State) (event : Event) → work_of 0 state.nodes ≡ Some event → possible state event ≡ true
node-possible state event e = work-possible state 0 state.nodes (λ k x g. ap (found_or idle_node) (ap (slice_get state.nodes) (let z : 0 + k ≡ k = omega arith in z) ∙ g)) event e

nodes-possible : (machine : Machine) (more : ℕ) (state : State) → all_possible machine state (node_events more machine state) ≡ true
nodes-possible machine zero state = refl
nodes-possible machine (suc more) state = go (work_of 0 state.nodes) refl (λ event. nodes-possible machine more (after machine state event))
  where
    go : (found : Option Event) → work_of 0 state.nodes ≡ found → ((event : Event) → all_possible machine (after machine state event) (node_events more machine (after machine state event)) ≡ true) →
        all_possible machine state (elim found [ None ↦ [] | Some event ↦ event ∷ node_events more machine (after machine state event) ]) ≡ true
    go None e rest = refl
    go (Some event) e rest = λ i. node-possible state event e i && rest event i

-- Events

replayed-events : (machine : Machine) (bound : ℕ) (state : State) (events : List Event) (rest : List Move) → all_possible machine state events ≡ true →
    replayed machine bound state (map Happens events ++ rest) ≡ replayed machine bound (happened machine state events) rest
replayed-events machine bound state [] rest h = refl
replayed-events machine bound state (event ∷ events) rest h =
    let p = both-true (possible state event) (all_possible machine (after machine state event) events) h in
    ap (λ b. then_state (only_if b (after machine state event)) (λ next. replayed machine bound next (map Happens events ++ rest))) p.0
    ∙ replayed-events machine bound (after machine state event) events rest p.1

cut-events : (machine : Machine) (turn : Option TurnKind) (begins : State) (before : List Event) (state : State) (events : List Event) (rest : List Move) →
    cut machine turn begins before state (map Happens events ++ rest) ≡ cut machine turn begins (before ++ events) (happened machine state events) rest
cut-events machine turn begins before state [] rest = ap (λ es. cut machine turn begins es state rest) (sym (append-nothing before))
cut-events machine turn begins before state (event ∷ events) rest =
    cut-events machine turn begins (before ++ event ∷ []) (after machine state event) events rest
    ∙ ap (λ es. cut machine turn begins es (happened machine (after machine state event) events) rest) (append-assoc before (event ∷ []) events)

-- possible events, whatever is said of the steps so far
events-stand : (machine : Machine) (bound steps : ℕ) (ended : List Phase) (turn : Option TurnKind) (replay : Replay) (events : List Event) → KeepsRules machine.design →
    all_possible machine replay.now events ≡ true → StandsAt machine bound ended turn replay →
    StandsAt machine bound ended turn (record (with_events machine events replay) { steps = steps })
events-stand machine bound steps ended turn replay events rules h s = record {
  leads = λ rest. ap (replayed machine bound (start machine)) (append-assoc replay.moves (map Happens events) rest) ∙ s.leads (map Happens events ++ rest)
      ∙ replayed-events machine bound replay.now events rest h;
  cuts = λ rest.
      ap (cut machine None (start machine) [] (start machine)) (append-assoc replay.moves (map Happens events) rest) ∙ s.cuts (map Happens events ++ rest)
      ∙ ap (λ phases. ended ++ phases) (cut-events machine turn replay.begins replay.events replay.now events rest);
  number_is = s.number_is;
  none_later = s.none_later;
  same_time = time-happened machine replay.now events ∙ s.same_time;
  turns = s.turns;
  times = times-happened machine s.turns replay.now events rules s.times;
}

pub begun-stands : (machine : Machine) (bound : ℕ) → KeepsRules machine.design → StandsAt machine bound [] None (begun machine)
begun-stands machine bound rules =
    events-stand machine bound 0 [] None (record { begins = start machine; events = []; now = start machine; number = 1; steps = 0; moves = [] }) (settling machine (start machine)) rules
    (nodes-possible machine (2 * length machine.design.nodes) (start machine))
    (record { leads = λ rest. refl; cuts = λ rest. refl; number_is = refl; none_later = λ time later. refl; same_time = refl; turns = 0; times = times-start machine rules })

pub step-stands : (machine : Machine) (bound : ℕ) (ended : List Phase) (turn : Option TurnKind) (event : Event) (replay next : Replay) → KeepsRules machine.design →
    step_on machine event replay ≡ Some next → StandsAt machine bound ended turn replay → StandsAt machine bound ended turn next
step-stands machine bound ended turn event replay next rules e s =
    let o = only-some (possible replay.now event && nat_lt replay.steps 100000) (stepped_on machine event replay) next e in
    let p = both-true (possible replay.now event) (nat_lt replay.steps 100000) o.0 in
    let h : all_possible machine replay.now (event ∷ settling machine (after machine replay.now event)) ≡ true =
    (λ i. p.0 i && nodes-possible machine (2 * length machine.design.nodes) (after machine replay.now event) i) in
    subst (StandsAt machine bound ended turn) o.1
    (events-stand machine bound (replay.steps + 1) ended turn replay (event ∷ settling machine (after machine replay.now event)) rules h s)

-- The phases of a time

-- one more phase, of that time
pub here-more : (time : ℕ) (ended : List Phase) (phase : Phase) → phase.begins.time ≡ time → at_time time (ended ++ phase ∷ []) ≡ at_time time ended ++ phase ∷ []
here-more time ended phase e =
    filter-append (λ (phase : Phase). nat_eq phase.begins.time time) ended (phase ∷ []) ∙ ap (λ b. at_time time ended ++ cond b (phase ∷ []) []) (eq-eqb phase.begins.time time e)

-- and of another one
pub other-more : (time : ℕ) (ended : List Phase) (phase : Phase) → (phase.begins.time ≡ time → ⊥) → at_time time (ended ++ phase ∷ []) ≡ at_time time ended
other-more time ended phase h =
    filter-append (λ (phase : Phase). nat_eq phase.begins.time time) ended (phase ∷ []) ∙ ap (λ b. at_time time ended ++ cond b (phase ∷ []) []) (ne_eqb phase.begins.time time h)
    ∙ append-nothing (at_time time ended)

-- Turns

-- the phase that goes on
abbrev pub present : Option TurnKind → Replay → Phase
present turn replay = record { turn = turn; begins = replay.begins; events = replay.events }

turn-stands : (machine : Machine) (bound number steps : ℕ) (kind : TurnKind) (ended : List Phase) (turn : Option TurnKind) (replay : Replay) → is_quiescent replay.now ≡ true →
    turn_of replay.now ≡ Some kind → stays_within bound kind ≡ true → replay.begins.time ≤ (turned kind replay.now).time →
    number ≡ length (at_time (turned kind replay.now).time (ended ++ present turn replay ∷ [])) + 1 → StandsAt machine bound ended turn replay →
    StandsAt machine bound (ended ++ present turn replay ∷ []) (turn_of replay.now) (turned_on kind number steps replay)
turn-stands machine bound number steps kind ended turn replay quiet t within later number-is s =
    let made-is : made machine replay.now Turns ≡ turned kind replay.now = ap (λ o. turned_by o replay.now) t in
    record {
      leads = λ rest.
          ap (replayed machine bound (start machine)) (append-assoc replay.moves (Turns ∷ []) rest) ∙ s.leads (Turns ∷ rest)
          ∙ ap (λ o. then_state o (λ next. replayed machine bound next rest))
          (ap (turn_within bound replay.now) t ∙ (λ i. only_if (quiet i && within i) (turned kind replay.now)));
      cuts = λ rest.
          ap (cut machine None (start machine) [] (start machine)) (append-assoc replay.moves (Turns ∷ []) rest) ∙ s.cuts (Turns ∷ rest)
          ∙ ap (λ state. ended ++ present turn replay ∷ cut machine (turn_of replay.now) state [] state rest) made-is
          ∙ sym (append-assoc ended (present turn replay ∷ []) (cut machine (turn_of replay.now) (turned kind replay.now) [] (turned kind replay.now) rest));
      number_is = number-is;
      none_later = λ time less.
          other-more time ended (present turn replay) (λ same. omega (arith, later, less, same)) ∙ s.none_later time (omega (arith, later, less));
      same_time = refl;
      turns = s.turns + 1;
      times = times-turned s.turns replay.now kind t s.times;
    }

-- within the slot the number of the phase is the next one
next-number : (machine : Machine) (bound number : ℕ) (ended : List Phase) (turn : Option TurnKind) (replay : Replay) → number ≡ replay.number + 1 → StandsAt machine bound ended turn replay →
    number ≡ length (at_time replay.now.time (ended ++ present turn replay ∷ [])) + 1
next-number machine bound number ended turn replay e s =
    e ∙ ap (λ n. n + 1) (s.number_is ∙ ap (λ time. length (at_time time ended) + 1) (sym s.same_time) ∙ sym (length-push (at_time replay.now.time ended) (present turn replay))
    ∙ ap length (sym (here-more replay.now.time ended (present turn replay) (sym s.same_time))))

not-later : (a b : ℕ) → a ≡ b → b ≤ a
not-later a b e = omega (arith, e)

pub phase-stands : (machine : Machine) (bound number : ℕ) (ended : List Phase) (turn : Option TurnKind) (replay next : Replay) (found : Option TurnKind) → turn_of replay.now ≡ found →
    is_quiescent replay.now ≡ true → phase_on found number replay ≡ Some next → StandsAt machine bound ended turn replay →
    StandsAt machine bound (ended ++ present turn replay ∷ []) (turn_of replay.now) next
phase-stands machine bound number ended turn replay next None t quiet e s = cc
phase-stands machine bound number ended turn replay next (Some PostponedTurn) t quiet e s =
    let o = only-some (nat_eq number (replay.number + 1)) (turned_on PostponedTurn number replay.steps replay) next e in
    subst (StandsAt machine bound (ended ++ present turn replay ∷ []) (turn_of replay.now)) o.1
    (turn-stands machine bound number replay.steps PostponedTurn ended turn replay quiet t refl (not-later replay.now.time replay.begins.time s.same_time)
    (next-number machine bound number ended turn replay (eqb-true number (replay.number + 1) o.0) s) s)
phase-stands machine bound number ended turn replay next (Some UpdatesTurn) t quiet e s =
    let o = only-some (nat_eq number (replay.number + 1)) (turned_on UpdatesTurn number replay.steps replay) next e in
    subst (StandsAt machine bound (ended ++ present turn replay ∷ []) (turn_of replay.now)) o.1
    (turn-stands machine bound number replay.steps UpdatesTurn ended turn replay quiet t refl (not-later replay.now.time replay.begins.time s.same_time)
    (next-number machine bound number ended turn replay (eqb-true number (replay.number + 1) o.0) s) s)
phase-stands machine bound number ended turn replay next (Some (TimeTurn later)) t quiet e s = cc

pub slot-stands : (machine : Machine) (bound time : ℕ) (ended : List Phase) (turn : Option TurnKind) (replay next : Replay) (found : Option TurnKind) → turn_of replay.now ≡ found →
    is_quiescent replay.now ≡ true → slot_on bound found time replay ≡ Some next → StandsAt machine bound ended turn replay →
    StandsAt machine bound (ended ++ present turn replay ∷ []) (turn_of replay.now) next
slot-stands machine bound time ended turn replay next None t quiet e s = cc
slot-stands machine bound time ended turn replay next (Some PostponedTurn) t quiet e s = cc
slot-stands machine bound time ended turn replay next (Some UpdatesTurn) t quiet e s = cc
slot-stands machine bound time ended turn replay next (Some (TimeTurn later)) t quiet e s =
    let o = only-some (nat_eq later time && nat_le later bound) (turned_on (TimeTurn later) 1 0 replay) next e in
    let rise : replay.now.time < later = (rises s.turns later replay.now t s.times).0 in
    let same : replay.now.time ≡ replay.begins.time = s.same_time in
    let first : at_time later (ended ++ present turn replay ∷ []) ≡ [] =
    other-more later ended (present turn replay) (λ is. omega (arith, rise, same, is)) ∙ s.none_later later (omega (arith, rise, same)) in
    subst (StandsAt machine bound (ended ++ present turn replay ∷ []) (turn_of replay.now)) o.1
    (turn-stands machine bound 1 0 (TimeTurn later) ended turn replay quiet t (both-true (nat_eq later time) (nat_le later bound) o.0).1 (omega (arith, rise, same))
    (ap (λ (phases : List Phase). length phases + 1) (sym first)) s)

-- What the phases of a legal run name is of the design.
use Rattle.std.proofs.Common.{◌≡◌, ℕ, zero, suc, ◌<◌, Bool, true, false, List, [], ◌∷◌, ◌++◌, map, length, refl, sym, subst, ap, ◌∙◌, arith}
use Rattle.std.specs.Prelude.{Option, Some, None, slice_get, is_some}
use Rattle.vf_base.specs.Lists.{AllHold}
use Rattle.v_design.specs.Designs.{FlatNode, Machine}
use Rattle.v_design.specs.States.{State, ProcessState, Event, Step, LaneStep, Evaluation, NetUpdate, TurnKind, start, after, possible, found_or, idle_node, turned, is_postponed, is_due, some_in}
use Rattle.v_design.specs.States.{next_time_of, turn_by, turn_of}
use Rattle.v_design.specs.Runs.{Move, Happens, Turns, then_state, only_if, turn_within, replayed, happened, turned_by}
use Rattle.v_design.specs.Accesses.{accesses_of}
use Rattle.v_design.specs.Logs.{log_accesses}
use Rattle.v_design.specs.PhaseLogs.{NotedEvent, cause_of, noted_at, writer_process, writer_line, note_of, noted_from, noted_events, logged, log_of}
use Rattle.v_design.specs.Grades.{Phase, cut}
use Rattle.v_design.specs.WellFormed.{KeepsRules}
use Rattle.race_laws.proofs.Lists.{both, mapped-each, at_place}
use Rattle.race_laws.proofs.Writers.{BodiesClear}
use Rattle.race_laws.proofs.Named.{IsObject, bodies-below}
use Rattle.race_laws.proofs.States.{IsOf, IsBelow, is_of-after, is_of-turned, is_of-start, event-below}
use Rattle.race_laws.proofs.Logs.{AreOfParts, IsNumberedOf, event-of, held-of, log-of}

-- The events of a phase

-- the accesses of a noted event are of parts of the design, and it follows a write of a process of the design
record IsNotedOf (machine : Machine) (noted : NotedEvent) : Type 0 where
  pub accesses : AreOfParts machine.design (accesses_of machine noted.process noted.line noted.before noted.event)
  pub process : noted.process < length machine.design.processes

-- a cause, if there is one, follows a write of such a process
abbrev IsCauseOf : ℕ → Option NotedEvent → Type 0
IsCauseOf bound None = Unit {0}
IsCauseOf bound (Some noted) = noted.process < bound

cause-of : (machine : Machine) (earlier : List NotedEvent) (place : Option ℕ) → AllHold (IsNotedOf machine) earlier → IsCauseOf (length machine.design.processes) (noted_at earlier place)
cause-of machine earlier None h = tt
cause-of machine earlier (Some number) h = go (slice_get earlier number) refl
  where
    go : (found : Option NotedEvent) → slice_get earlier number ≡ found → IsCauseOf (length machine.design.processes) found
    go None e = tt
    go (Some noted) e = (at_place (IsNotedOf machine) earlier h number noted e).process

writer-below : (bound : ℕ) (event : Event) (cause : Option NotedEvent) → 0 < bound → IsBelow bound event → IsCauseOf bound cause → writer_process event cause < bound
writer-below bound (Step process) cause some low h = low
writer-below bound (LaneStep process) cause some low h = low
writer-below bound (Evaluation node) None some low h = some
writer-below bound (Evaluation node) (Some noted) some low h = h
writer-below bound (NetUpdate node) None some low h = some
writer-below bound (NetUpdate node) (Some noted) some low h = h

note-of : (machine : Machine) (earlier : List NotedEvent) (state : State) (event : Event) → 0 < length machine.design.processes → BodiesClear (IsObject machine.design) machine →
    IsOf machine state → possible state event ≡ true → AllHold (IsNotedOf machine) earlier → IsNotedOf machine (note_of machine earlier state event)
note-of machine earlier state event some bodies is may h =
    let cause : Option NotedEvent = noted_at earlier (cause_of machine earlier event) in
    let low : IsBelow (length machine.design.processes) event = event-below machine state event is may in
    let writer : writer_process event cause < length machine.design.processes =
    writer-below (length machine.design.processes) event cause some low (cause-of machine earlier (cause_of machine earlier event) h) in
    record { accesses = event-of machine (writer_process event cause) (writer_line machine state event cause) state event bodies is writer low; process = writer }

-- one more event
noted-more : (machine : Machine) (earlier : List NotedEvent) (state : State) (events : List Event) (event : Event) →
    noted_from machine earlier state (events ++ event ∷ [])
    ≡ noted_from machine earlier state events ++ note_of machine (noted_from machine earlier state events) (happened machine state events) event ∷ []
noted-more machine earlier state [] event = refl
noted-more machine earlier state (first ∷ events) event = noted-more machine (earlier ++ note_of machine earlier state first ∷ []) (after machine state first) events event

happened-more : (machine : Machine) (state : State) (events : List Event) (event : Event) → happened machine state (events ++ event ∷ []) ≡ after machine (happened machine state events) event
happened-more machine state [] event = refl
happened-more machine state (first ∷ events) event = happened-more machine (after machine state first) events event

-- these events lead from a phase's beginning to a state
record LeadsOn (machine : Machine) (begins : State) (events : List Event) (state : State) : Type 0 where
  pub begins_of : IsOf machine begins
  pub noted : AllHold (IsNotedOf machine) (noted_events machine begins events)
  pub leads : happened machine begins events ≡ state
  pub is_of : IsOf machine state

one-more : (machine : Machine) (begins : State) (events : List Event) (state : State) (event : Event) → 0 < length machine.design.processes → BodiesClear (IsObject machine.design) machine →
    LeadsOn machine begins events state → possible state event ≡ true → LeadsOn machine begins (events ++ event ∷ []) (after machine state event)
one-more machine begins events state event some bodies h may =
    record {
      begins_of = h.begins_of;
      noted = subst (AllHold (IsNotedOf machine)) (sym (noted-more machine [] begins events event))
          (both (IsNotedOf machine) (noted_events machine begins events) (note_of machine (noted_events machine begins events) (happened machine begins events) event ∷ []) h.noted (
            note-of machine (noted_events machine begins events) (happened machine begins events) event some bodies (subst (IsOf machine) (sym h.leads) h.is_of)
                (subst (λ s. possible s event ≡ true) (sym h.leads) may) h.noted,
            tt,
          ));
      leads = happened-more machine begins events event ∙ ap (λ s. after machine s event) h.leads;
      is_of = is_of-after machine state event bodies h.is_of;
    }

-- The phases of a run

-- the accesses of a phase are of parts of the design
abbrev pub IsPhaseOf : Machine → Phase → Type 0
IsPhaseOf machine phase = AllHold (IsNumberedOf machine.design) (log_accesses machine.design (log_of machine phase.begins phase.events))

phase-of : (machine : Machine) (turn : Option TurnKind) (begins : State) (events : List Event) → IsOf machine begins → AllHold (IsNotedOf machine) (noted_events machine begins events) →
    IsPhaseOf machine (record { turn = turn; begins = begins; events = events })
phase-of machine turn begins events is noted =
    log-of machine.design (log_of machine begins events) (held-of machine begins is.count)
    (mapped-each (IsNotedOf machine) _ (logged machine) (noted_events machine begins events) noted (λ n h. h.accesses))

only-then : (b : Bool) (next : State) (goes : State → Option State) (final : State) → then_state (only_if b next) goes ≡ Some final → (b ≡ true) × (goes next ≡ Some final)
only-then true next goes final e = (refl, e)
only-then false next goes final e = cc

turn-then : (time : ℕ) (state : State) (turn : Option TurnKind) (goes : State → Option State) (final : State) → then_state (turn_within time state turn) goes ≡ Some final →
    goes (turned_by turn state) ≡ Some final
turn-then time state None goes final e = cc
turn-then time state (Some turn) goes final e = (only-then _ (turned turn state) goes final e).1

cut-of : (machine : Machine) (time : ℕ) (turn : Option TurnKind) (begins : State) (events : List Event) (state : State) (moves : List Move) (final : State) → 0 < length machine.design.processes →
    BodiesClear (IsObject machine.design) machine → LeadsOn machine begins events state → replayed machine time state moves ≡ Some final →
    AllHold (IsPhaseOf machine) (cut machine turn begins events state moves)
cut-of machine time turn begins events state [] final some bodies h e = (phase-of machine turn begins events h.begins_of h.noted, tt)
cut-of machine time turn begins events state (Happens event ∷ moves) final some bodies h e =
    let goes = only-then (possible state event) (after machine state event) (λ next. replayed machine time next moves) final e in
    cut-of machine time turn begins (events ++ event ∷ []) (after machine state event) moves final some bodies (one-more machine begins events state event some bodies h goes.0) goes.1
cut-of machine time turn begins events state (Turns ∷ moves) final some bodies h e =
    let next : State = turned_by (turn_of state) state in
    let is : IsOf machine next = is_of-turned machine (turn_of state) state h.is_of in (
      phase-of machine turn begins events h.begins_of h.noted,
      cut-of machine time (turn_of state) next [] next moves final some bodies (record { begins_of = is; noted = tt; leads = refl; is_of = is })
          (turn-then time state (turn_of state) (λ s. replayed machine time s moves) final e),
    )

-- Without processes nothing ever happens

no-mark : (nodes : List FlatNode) (n : ℕ) → (found_or idle_node (slice_get (map (λ (node : FlatNode). record { marked = false; pending = None }) nodes) n)).marked ≡ false
no-mark [] n = refl
no-mark (node ∷ nodes) zero = refl
no-mark (node ∷ nodes) (suc n) = no-mark nodes n

no-update : (nodes : List FlatNode) (n : ℕ) → is_some (found_or idle_node (slice_get (map (λ (node : FlatNode). record { marked = false; pending = None }) nodes) n)).pending ≡ false
no-update [] n = refl
no-update (node ∷ nodes) zero = refl
no-update (node ∷ nodes) (suc n) = no-update nodes n

no-event : (machine : Machine) (event : Event) → length machine.design.processes ≡ 0 → IsOf machine (start machine) → possible (start machine) event ≡ true → ⊥
no-event machine (Step number) none is e = omega (arith, event-below machine (start machine) (Step number) is e, none)
no-event machine (LaneStep number) none is e = omega (arith, event-below machine (start machine) (LaneStep number) is e, none)
no-event machine (Evaluation number) none is e = cc (e, no-mark machine.design.nodes number)
no-event machine (NetUpdate number) none is e = cc (e, no-update machine.design.nodes number)

no-turn : (now : ℕ) (processes : List ProcessState) → length processes ≡ 0 →
    turn_by (some_in (λ (process : ProcessState). is_postponed process.activity) processes)
    (some_in (λ (process : ProcessState). some_in (is_due now) process.later) processes) (next_time_of processes) ≡ None
no-turn now [] e = refl
no-turn now (process ∷ processes) e = cc

cut-none : (machine : Machine) (time : ℕ) (moves : List Move) (final : State) → length machine.design.processes ≡ 0 → IsOf machine (start machine) →
    replayed machine time (start machine) moves ≡ Some final → AllHold (IsPhaseOf machine) (cut machine None (start machine) [] (start machine) moves)
cut-none machine time [] final none is e = (phase-of machine None (start machine) [] is tt, tt)
cut-none machine time (Happens event ∷ moves) final none is e =
    absurd (no-event machine event none is (only-then (possible (start machine) event) (after machine (start machine) event) (λ next. replayed machine time next moves) final e).0)
cut-none machine time (Turns ∷ moves) final none is e = absurd (never (turn_of (start machine)) (no-turn 0 (start machine).processes (is.count ∙ none)) e)
  where
    never : (turn : Option TurnKind) → turn ≡ None → then_state (turn_within time (start machine) turn) (λ next. replayed machine time next moves) ≡ Some final → ⊥
    never None n e = cc
    never (Some turn) n e = cc

-- each phase of a legal run
pub run-of : (machine : Machine) (time : ℕ) (moves : List Move) (final : State) → KeepsRules machine.design → replayed machine time (start machine) moves ≡ Some final →
    AllHold (IsPhaseOf machine) (cut machine None (start machine) [] (start machine) moves)
run-of machine time moves final rules e = go (length machine.design.processes) refl
  where
    go : (count : ℕ) → length machine.design.processes ≡ count → AllHold (IsPhaseOf machine) (cut machine None (start machine) [] (start machine) moves)
    go zero n = cut-none machine time moves final n (is_of-start machine rules) e
    go (suc count) n =
        let is : IsOf machine (start machine) = is_of-start machine rules in
        cut-of machine time None (start machine) [] (start machine) moves final (omega (arith, n)) (bodies-below machine rules)
        (record { begins_of = is; noted = tt; leads = refl; is_of = is }) e

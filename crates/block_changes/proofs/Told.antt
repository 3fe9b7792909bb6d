-- What several events change, and what may have its cause in them.
use Rattle.std.proofs.Common.{◌≡◌, ℕ, List, [], ◌∷◌, ◌++◌, Bool, true, false, ◌||◌, refl, sym, ap, ◌∙◌}
use Rattle.vf_base.specs.Lists.{has}
use Rattle.v_design.specs.Designs.{Machine}
use Rattle.v_design.specs.States.{State, Event, after, process_at, some_in}
use Rattle.v_design.specs.Runs.{happened}
use Rattle.v_design.specs.PhaseLogs.{NotedEvent, is_step_of, is_lane_of, note_of, noted_from}
use Rattle.copy_laws.specs.Moves.{ChangesOnly, objects_changed, parts_of, EventsChangeOnly}
use Rattle.copy_laws.specs.QuietPhases.{ends_its_wait}
use Rattle.block_changes.specs.Changes.{some_event, writes_object, ends_wait_of, steps_process, steps_lane, parts_changed, EventsChangeParts, CausesAreTold}
use Rattle.block_changes.proofs.Woken.{only_woken_change}

or-neither : (a b : Bool) → (a || b) ≡ false → (a ≡ false) × (b ≡ false)
or-neither true b e = cc
or-neither false b e = (refl, e)

or-assoc : (a b c : Bool) → (a || (b || c)) ≡ ((a || b) || c)
or-assoc true b c = refl
or-assoc false b c = refl

-- Changes

-- an event, and what comes behind it
pub events_change_parts : EventsChangeOnly → EventsChangeParts
events_change_parts law machine state [] fits = record {
  value_count = refl;
  node_count = refl;
  process_count = refl;
  values = λ object out. refl;
  nodes = λ number out. refl;
  processes = λ process out. refl;
}
events_change_parts law machine state (event ∷ events) fits =
    both (events_change_parts law machine (after machine state event) events ((law machine state event fits).node_count ∙ fits))
  where
    first : ChangesOnly (parts_of machine state event) state (after machine state event)
    first = law machine state event fits

    -- what changes behind the first event
    Later : Type 0
    Later = ChangesOnly (parts_changed machine (after machine state event) events) (after machine state event) (happened machine (after machine state event) events)

    each : Later → (process : ℕ) → (parts_changed machine state (event ∷ events)).processes process ≡ false →
        process_at (happened machine (after machine state event) events) process ≡ process_at state process
    each later process out =
        let all = or-neither (steps_process (event ∷ events) process || steps_lane (event ∷ events) process) (ends_wait_of machine state (event ∷ events) process) out in
        let acts = or-neither (steps_process (event ∷ events) process) (steps_lane (event ∷ events) process) all.0 in
        let steps = or-neither (is_step_of process event) (steps_process events process) acts.0 in
        let lanes = or-neither (is_lane_of process event) (steps_lane events process) acts.1 in
        let waits = or-neither (ends_its_wait machine state event process) (ends_wait_of machine (after machine state event) events process) all.1 in
        later.processes process (λ i. (steps.1 i || lanes.1 i) || waits.1 i) ∙ only_woken_change machine state event process steps.0 lanes.0 waits.0

    both : Later → ChangesOnly (parts_changed machine state (event ∷ events)) state (happened machine (after machine state event) events)
    both later = record {
      value_count = later.value_count ∙ first.value_count;
      node_count = later.node_count ∙ first.node_count;
      process_count = later.process_count ∙ first.process_count;
      values = λ object out.
          let parts = or-neither (has (objects_changed machine state event) object) (writes_object machine (after machine state event) events object) out in
          later.values object parts.1 ∙ first.values object parts.0;
      nodes = λ number out. cc;
      processes = λ process out. each later process out;
    }

-- Causes

some_in-push : {A : Type 0} (test : A → Bool) (xs : List A) (x : A) → some_in test (xs ++ x ∷ []) ≡ (some_in test xs || test x)
some_in-push test [] x = only (test x)
  where
    only : (b : Bool) → (b || false) ≡ b
    only true = refl
    only false = refl
some_in-push test (y ∷ xs) x = ap (λ b. test y || b) (some_in-push test xs x) ∙ or-assoc (test y) (some_in test xs) (test x)

-- a test of noted events that looks at the event and the state before it alone
some-noted : (test : State → Event → Bool) (machine : Machine) (earlier : List NotedEvent) (state : State) (events : List Event) →
    some_in (λ (noted : NotedEvent). test noted.before noted.event) (noted_from machine earlier state events)
    ≡ (some_in (λ (noted : NotedEvent). test noted.before noted.event) earlier || some_event test machine state events)
some-noted test machine earlier state [] = last (some_in (λ (noted : NotedEvent). test noted.before noted.event) earlier)
  where
    last : (b : Bool) → b ≡ (b || false)
    last true = refl
    last false = refl
some-noted test machine earlier state (event ∷ events) =
    some-noted test machine (earlier ++ note_of machine earlier state event ∷ []) (after machine state event) events
    ∙ ap (λ b. b || some_event test machine (after machine state event) events)
    (some_in-push (λ (noted : NotedEvent). test noted.before noted.event) earlier (note_of machine earlier state event))
    ∙ sym (or-assoc (some_in (λ (noted : NotedEvent). test noted.before noted.event) earlier) (test state event) (some_event test machine (after machine state event) events))

-- either of two tests
some-either : (one other : State → Event → Bool) (machine : Machine) (state : State) (events : List Event) →
    some_event (λ before event. one before event || other before event) machine state events ≡ (some_event one machine state events || some_event other machine state events)
some-either one other machine state [] = refl
some-either one other machine state (event ∷ events) =
    ap (λ b. (one state event || other state event) || b) (some-either one other machine (after machine state event) events)
    ∙ swap (one state event) (other state event) (some_event one machine (after machine state event) events) (some_event other machine (after machine state event) events)
  where
    swap : (a b c d : Bool) → ((a || b) || (c || d)) ≡ ((a || c) || (b || d))
    swap true b c d = refl
    swap false true true d = refl
    swap false true false d = refl
    swap false false c d = refl

-- a test of events alone
some-alone : (test : Event → Bool) (machine : Machine) (state : State) (events : List Event) → some_event (λ before event. test event) machine state events ≡ some_in test events
some-alone test machine state [] = refl
some-alone test machine state (event ∷ events) = ap (λ b. test event || b) (some-alone test machine (after machine state event) events)

pub causes_are_told : CausesAreTold
causes_are_told = record {
  steps = λ machine state events process.
      some-noted (λ before event. is_step_of process event || ends_its_wait machine before event process) machine [] state events
      ∙ some-either (λ before event. is_step_of process event) (λ before event. ends_its_wait machine before event process) machine state events
      ∙ ap (λ b. b || ends_wait_of machine state events process) (some-alone (is_step_of process) machine state events);
  lanes = λ machine state events process.
      some-noted (λ before event. is_lane_of process event) machine [] state events ∙ some-alone (is_lane_of process) machine state events;
}

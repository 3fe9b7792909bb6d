-- What holds after events of the first order: lanes are empty once a process took a step, and where a process stops whose steps are the greatest so far, no node has work and no lesser process is ready.
use Rattle.std.proofs.Common.{◌≡◌, ℕ, suc, ◌<◌, ◌≤◌, List, [], ◌∷◌, ◌++◌, Bool, true, false, refl, sym, ap, subst, ◌∙◌, inl, inr, arith}
use Rattle.std.specs.Prelude.{Some, None}
use Rattle.std.proofs.lemmas.Bool.{cases_lt, cases_eq, ne_eqb, lt-leb}
use Rattle.std.proofs.lemmas.List.{append-nil, append_assoc}
use Rattle.v_design.specs.Designs.{Machine}
use Rattle.v_design.specs.States.{State, ProcessState, Event, Step, LaneStep, Evaluation, NetUpdate, after, process_at, is_ready, is_any, step_of, some_in}
use Rattle.v_design.specs.Runs.{first_event, happened, work_of}
use Rattle.copy_laws.specs.Beside.{AreFirst}
use Rattle.machine_laws.specs.SlotLoop.{NoNodeWorks, first_lane, first_ready}
use Rattle.phase_blocks.specs.Blocks.{run_goes_on, IsBetweenRuns, is_step_from}
use Rattle.phase_blocks.proofs.Lists.{true-false, push-none, happened-append}
use Rattle.phase_blocks.proofs.Taken.{takes-step, takes-lane, takes-node, ready-first, ready-none-below, lane-first, lane-none}
use Rattle.phase_blocks.proofs.Stopping.{stopped-nodes, stopped-other, stopped-own}
use Rattle.phase_blocks.proofs.Lanes.{step-lanes, evaluation-lanes, update-lanes}
use Rattle.phase_blocks.proofs.Going.{RunLaws, goes-own, goes-other, goes-from}

pub record FollowsOrder (machine : Machine) (begins : State) (events : List Event) (state : State) : Type 0 where
  pub lanes : (least : ℕ) → some_in (is_step_from least) events ≡ true → (q : ℕ) → is_any (process_at state q).lane ≡ false
  pub rests : (least : ℕ) → some_in (is_step_from least) events ≡ true → ((q : ℕ) → least ≤ q → run_goes_on machine begins events q ≡ false) →
      NoNodeWorks state × ((q : ℕ) → q ≤ least → is_ready (process_at state q).activity ≡ false)

none-yet : (machine : Machine) (begins : State) → FollowsOrder machine begins [] begins
none-yet machine begins = record { lanes = λ least some q. cc; rests = λ least some none. cc }

-- One event more

step-grows : RunLaws → (machine : Machine) (begins : State) (events : List Event) (p : ℕ) → FollowsOrder machine begins events (happened machine begins events) →
    first_event (happened machine begins events) ≡ Some (Step p) → FollowsOrder machine begins (events ++ Step p ∷ []) (after machine (happened machine begins events) (Step p))
step-grows laws machine begins events p j e = record {
  lanes = λ least some q. ap is_any (step-lanes machine state p q) ∙ lane-none state q taken.1;
  rests = λ least some none. elim (cases_lt p least) [ inl low ↦ lesser least low some none | inr high ↦ own least high none ];
}
  where
    state : State
    state = happened machine begins events

    taken : NoNodeWorks state × (first_lane state ≡ None) × (first_ready state ≡ Some p)
    taken = takes-step state p e

    -- the step is one of a lesser process: that is ready, so it isn't as asked
    lesser : (least : ℕ) → p < least → some_in (is_step_from least) (events ++ Step p ∷ []) ≡ true →
        ((q : ℕ) → least ≤ q → run_goes_on machine begins (events ++ Step p ∷ []) q ≡ false) →
        NoNodeWorks (after machine state (Step p)) × ((q : ℕ) → q ≤ least → is_ready (process_at (after machine state (Step p)) q).activity ≡ false)
    lesser least low some none =
        true-false (is_ready (process_at state p).activity) (ready-first state p taken.2)
        ((j.rests least (sym (push-none (is_step_from least) events (Step p) (lt-leb least p low)) ∙ some)
        (λ q h. sym (goes-other laws machine begins events (Step p) q (ne_eqb q p (λ same. absurd (omega (arith, same, low, h))))) ∙ none q h)).1 p (omega (arith, low)))

    own : (least : ℕ) → least ≤ p → ((q : ℕ) → least ≤ q → run_goes_on machine begins (events ++ Step p ∷ []) q ≡ false) →
        NoNodeWorks (after machine state (Step p)) × ((q : ℕ) → q ≤ least → is_ready (process_at (after machine state (Step p)) q).activity ≡ false)
    own least high none = (ap (λ ns. work_of 0 ns) (stopped-nodes machine state p stops) ∙ taken.0, λ q h. below q h)
      where
        stops : is_ready (step_of machine state p).next ≡ false
        stops = sym (goes-own laws machine begins events p) ∙ none p high

        below : (q : ℕ) → q ≤ least → is_ready (process_at (after machine state (Step p)) q).activity ≡ false
        below q h = elim (cases_eq q p) [
          | inl same ↦ subst (λ n. is_ready (process_at (after machine state (Step p)) n).activity ≡ false) (sym same) (stopped-own machine state p stops)
          | inr other ↦
              ap (λ (s : ProcessState). is_ready s.activity) (stopped-other machine state p q (λ same. other (sym same)) stops)
              ∙ ready-none-below state p q taken.2 (omega (arith, other, h, high))
        ]

lane-grows : (machine : Machine) (begins : State) (events : List Event) (p : ℕ) → FollowsOrder machine begins events (happened machine begins events) →
    first_event (happened machine begins events) ≡ Some (LaneStep p) → FollowsOrder machine begins (events ++ LaneStep p ∷ []) (after machine (happened machine begins events) (LaneStep p))
lane-grows machine begins events p j e = record { lanes = λ least some q. absurd (never least some); rests = λ least some none. absurd (never least some) }
  where
    state : State
    state = happened machine begins events

    never : (least : ℕ) → some_in (is_step_from least) (events ++ LaneStep p ∷ []) ≡ true → ⊥
    never least some =
        true-false (is_any (process_at state p).lane) (lane-first state p (takes-lane state p e).1)
        (j.lanes least (sym (push-none (is_step_from least) events (LaneStep p) refl) ∙ some) p)

evaluation-grows : RunLaws → (machine : Machine) (begins : State) (events : List Event) (number : ℕ) → FollowsOrder machine begins events (happened machine begins events) →
    first_event (happened machine begins events) ≡ Some (Evaluation number) →
    FollowsOrder machine begins (events ++ Evaluation number ∷ []) (after machine (happened machine begins events) (Evaluation number))
evaluation-grows laws machine begins events number j e = record {
  lanes = λ least some q.
      ap is_any (evaluation-lanes machine (happened machine begins events) number q)
      ∙ j.lanes least (sym (push-none (is_step_from least) events (Evaluation number) refl) ∙ some) q;
  rests = λ least some none.
      absurd
      (takes-node (happened machine begins events) (Evaluation number) refl e
      (j.rests least (sym (push-none (is_step_from least) events (Evaluation number) refl) ∙ some)
      (λ q h. sym (goes-other laws machine begins events (Evaluation number) q refl) ∙ none q h)).0);
}

update-grows : RunLaws → (machine : Machine) (begins : State) (events : List Event) (number : ℕ) → FollowsOrder machine begins events (happened machine begins events) →
    first_event (happened machine begins events) ≡ Some (NetUpdate number) →
    FollowsOrder machine begins (events ++ NetUpdate number ∷ []) (after machine (happened machine begins events) (NetUpdate number))
update-grows laws machine begins events number j e = record {
  lanes = λ least some q.
      ap is_any (update-lanes machine (happened machine begins events) number q)
      ∙ j.lanes least (sym (push-none (is_step_from least) events (NetUpdate number) refl) ∙ some) q;
  rests = λ least some none.
      absurd
      (takes-node (happened machine begins events) (NetUpdate number) refl e
      (j.rests least (sym (push-none (is_step_from least) events (NetUpdate number) refl) ∙ some)
      (λ q h. sym (goes-other laws machine begins events (NetUpdate number) q refl) ∙ none q h)).0);
}

event-grows : RunLaws → (machine : Machine) (begins : State) (events : List Event) (event : Event) → FollowsOrder machine begins events (happened machine begins events) →
    first_event (happened machine begins events) ≡ Some event → FollowsOrder machine begins (events ++ event ∷ []) (after machine (happened machine begins events) event)
event-grows laws machine begins events (Step p) j e = step-grows laws machine begins events p j e
event-grows laws machine begins events (LaneStep p) j e = lane-grows machine begins events p j e
event-grows laws machine begins events (Evaluation number) j e = evaluation-grows laws machine begins events number j e
event-grows laws machine begins events (NetUpdate number) j e = update-grows laws machine begins events number j e

-- All events

abbrev FollowsAll : Machine → State → List Event → Type 0
FollowsAll machine begins events = FollowsOrder machine begins events (happened machine begins events)

walk : RunLaws → (machine : Machine) (begins : State) (events rest : List Event) → FollowsAll machine begins events → AreFirst machine (happened machine begins events) rest →
    FollowsAll machine begins (events ++ rest)
walk laws machine begins events [] j f = subst (FollowsAll machine begins) (sym (append-nil events)) j
walk laws machine begins events (event ∷ rest) j f =
    subst (FollowsAll machine begins) (append_assoc events (event ∷ []) rest)
    (walk laws machine begins (events ++ event ∷ []) rest
    (subst (λ s. FollowsOrder machine begins (events ++ event ∷ []) s) (sym (happened-append machine begins events (event ∷ []))) (event-grows laws machine begins events event j f.0))
    (subst (λ s. AreFirst machine s rest) (sym (happened-append machine begins events (event ∷ []))) f.1))

pub follows-order : RunLaws → (machine : Machine) (begins : State) (events : List Event) → AreFirst machine begins events →
    FollowsOrder machine begins events (happened machine begins events)
follows-order laws machine begins events f = walk laws machine begins [] events (none-yet machine begins) f

-- where the process whose steps are the greatest isn't in the midst of its run, none is
pub over : RunLaws → (machine : Machine) (begins : State) (events : List Event) (p : ℕ) → AreFirst machine begins events → some_in (is_step_from p) events ≡ true →
    some_in (is_step_from (suc p)) events ≡ false → run_goes_on machine begins events p ≡ false → IsBetweenRuns machine begins events
over laws machine begins events p f some within stops = record { nodes = rests.0; runs = λ q. run q (run_goes_on machine begins events q) refl }
  where
    -- no greater process took a step
    greater : (q : ℕ) → p < q → run_goes_on machine begins events q ≡ false
    greater q high = go (run_goes_on machine begins events q) refl
      where
        go : (b : Bool) → run_goes_on machine begins events q ≡ b → b ≡ false
        go false e = refl
        go true e = true-false (some_in (is_step_from (suc p)) events) (goes-from machine begins events q (suc p) (omega (arith, high)) e) within

    none : (q : ℕ) → p ≤ q → run_goes_on machine begins events q ≡ false
    none q h = elim (cases_lt p q) [
      | inl high ↦ greater q high
      | inr low ↦ (let same : p ≡ q = omega (arith, h, low) in subst (λ n. run_goes_on machine begins events n ≡ false) same stops)
    ]

    rests : NoNodeWorks (happened machine begins events) × ((q : ℕ) → q ≤ p → is_ready (process_at (happened machine begins events) q).activity ≡ false)
    rests = (follows-order laws machine begins events f).rests p some none

    run : (q : ℕ) (b : Bool) → run_goes_on machine begins events q ≡ b → b ≡ false
    run q false e = refl
    run q true e = elim (cases_lt p q) [
      | inl high ↦ true-false (run_goes_on machine begins events q) e (greater q high)
      | inr low ↦ true-false (is_ready (process_at (happened machine begins events) q).activity) (laws.ready machine q begins events e) (rests.1 q low)
    ]

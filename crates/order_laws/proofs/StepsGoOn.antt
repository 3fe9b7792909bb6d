-- After a process or lane step a run goes on beside the run without conflict.
use Rattle.std.proofs.Common.{◌≡◌, ℕ, suc, List, [], ◌++◌, length, false, refl, sym, ap, subst, ◌∙◌, inl, inr, arith}
use Rattle.std.specs.Prelude.{Option, Some, None, slice_get}
use Rattle.std.proofs.lemmas.Bool.{eq-eqb}
use Rattle.v_design.specs.Designs.{Machine}
use Rattle.v_design.specs.Assignments.{ValueUpdate, value_at}
use Rattle.v_design.specs.Processes.{Action, ReadsObject, WritesObject, AppendsUpdate, TouchesNothing, ProcessStep}
use Rattle.v_design.specs.States.{State, ProcessState, Event, Step, LaneStep, Evaluation, NetUpdate, is_process_event, process_at, is_ready, is_any, written_if, with_process, write_of, step_of}
use Rattle.v_design.specs.States.{after_step, after_lane_step, first_update, rest_of, appended}
use Rattle.v_design.specs.Accesses.{Reading, ObjectAccess, waiting_entries, action_accesses, await_accesses, lane_accesses}
use Rattle.v_design.specs.Logs.{changes_of}
use Rattle.v_design.specs.PhaseLogs.{log_of, may_cause, is_lane_of, lane_line}
use Rattle.order_laws.proofs.Conflicts.{In}
use Rattle.order_laws.proofs.Unaffected.{own_of, read_of, step_of-same, next_activity-same}
use Rattle.order_laws.proofs.Clash.{read_stands}
use Rattle.order_laws.proofs.MayCause.{activity_at}
use Rattle.order_laws.proofs.PathLaws.{decided, true-false}
use Rattle.order_laws.proofs.QuietNets.{event_changes}
use Rattle.order_laws.proofs.RunStates.{state_at, at_next, possible_at, bare, noted, accesses_before, cause_before, IsCause, cause_found}
use Rattle.order_laws.proofs.Woken.{touches_process, step_touches, woken_if_process, own_step, own_lane}
use Rattle.order_laws.proofs.Cells.{stays_between, IsNext, in_order}
use Rattle.order_laws.proofs.Runs.{IsRun, time_at, changes_there}
use Rattle.order_laws.proofs.FreeRuns.{IsFree, wild_in, other_counted, awaits-no-changes, IsOpen}
use Rattle.order_laws.proofs.Comparison.{on_event, process_there, lane_there, ProcessPart, LanePart, process_part, lane_part, through, part_through, lane_through, CauseSame, Silent, Compared}
use Rattle.order_laws.proofs.Comparison.{process_stays, value_stays}
use Rattle.order_laws.proofs.WaitsAlike.{value_in_order, wild_first}
use Rattle.order_laws.proofs.Meets.{Meets}
use Rattle.order_laws.proofs.StepsMeet.{NextAt, find_step, find_lane, lane_stays, opens_next, woken_if-activity, woken_if-later, woken_if-lane, woken_if-same, action-same, lane-same, old-same}
use Rattle.order_laws.proofs.StepsMeet.{tests, objects, ended-alike}

-- Causes of a process's steps stand for one another
pub cause_same : (machine : Machine) (state : State) (first events : List Event) (n : ℕ) (matched : ℕ → Option ℕ) (done : List ℕ) (later : Event) → Compared machine state first events n matched done →
    ((j : ℕ) (event : Event) → Silent machine state first events j event → may_cause machine later (bare (state_at machine state events j) event) ≡ false) →
    (found other : Option ℕ) → cause_before machine state events n later ≡ found → through matched found ≡ other → CauseSame matched found other
cause_same machine state first events n matched done later c quiet None other e t = inl (refl, sym t)
cause_same machine state first events n matched done later c quiet (Some j) other e t = go (matched j) refl
  where
    k : IsCause machine state events n later j
    k = cause_found machine state events n later j e

    go : (found : Option ℕ) → matched j ≡ found → CauseSame matched (Some j) other
    go None h =
        let k' : IsCause machine state events n later j = cause_found machine state events n later j e in
        true-false (may_cause machine later (bare (state_at machine state events j) k'.event)) k'.may (quiet j k'.event (c.silent j k'.event k'.earlier h k'.stands))
    go (Some i) h = inr (j, i, refl, sym t ∙ h, h)

silent-lane : (machine : Machine) (p : ℕ) (s : State) (event : Event) → is_process_event event ≡ false → may_cause machine (LaneStep p) (bare s event) ≡ false
silent-lane machine p s (Step q) h = cc
silent-lane machine p s (LaneStep q) h = cc
silent-lane machine p s (Evaluation k) h = refl
silent-lane machine p s (NetUpdate k) h = refl

-- a step that reads changes nothing
read-no-changes : (machine : Machine) (state : State) (p : ℕ) (object : ℕ) → read_of (step_of machine state p).action ≡ Some object → event_changes machine state (Step p) ≡ []
read-no-changes machine state p object e =
    go (step_of machine state p).action e ∙ awaits-no-changes machine.design p (step_of machine state p).line (waiting_entries (step_of machine state p).next)
  where
    go : (action : Action) → read_of action ≡ Some object → changes_of machine.design (action_accesses machine p (step_of machine state p).line action state
        ++ await_accesses p (step_of machine state p).line (step_of machine state p).next)
        ≡ changes_of machine.design (await_accesses p (step_of machine state p).line (step_of machine state p).next)
    go (ReadsObject o) h = refl
    go (WritesObject u) h = cc
    go (AppendsUpdate delay u) h = refl
    go TouchesNothing h = refl

-- Steps

module _ (machine : Machine) (state : State) (first events : List Event) (n : ℕ) (matched : ℕ → Option ℕ) (done : List ℕ) (p : ℕ)
    (r : IsFree machine state first) (run : IsRun machine state events) (c : Compared machine state first events n matched done) (stands : slice_get events n ≡ Some (Step p)) where
  pub found : NextAt (process_there machine state first p) first (Step p) (c.processes p).place
  found =
      find_step machine state first p r (length first) (c.processes p).place (omega arith)
      (ap is_ready (sym (ap (λ (x : ProcessPart). x.activity) (c.processes p).same)) ∙ possible_at machine state events n (Step p) run.possible stands)

  next : IsNext (process_there machine state first p) (process_part machine state first p) (c.processes p).place (part_through machine state events matched p n) found.0
  next = record {
    reaches = found.1;
    between = found.3;
    now = (c.processes p).same ∙ sym (stays_between (process_there machine state first p) (process_part machine state first p) (process_stays machine state first p r.run)
        (c.processes p).place found.0 found.1 found.3);
  }

  opens : IsOpen (log_of machine state first) done found.0
  opens =
      opens_next machine state first events n matched done (process_there machine state first p) (process_part machine state first p) (part_through machine state events matched p n) found.0
      (Step p) c (c.processes p) found.1 found.3
      (ap (on_event (touches_process machine p (state_at machine state first found.0))) found.2 ∙ step_touches machine p (state_at machine state first found.0)) found.2
      (λ k other e m. ap (on_event (touches_process machine p (state_at machine state first k))) e ∙ m)

  here : State
  here = state_at machine state events n

  there : State
  there = state_at machine state first found.0

  activity : activity_at (state_at machine state events n) p ≡ activity_at (state_at machine state first found.0) p
  activity = ap (λ (x : ProcessPart). x.activity) next.now

  time : (state_at machine state events n).time ≡ (state_at machine state first found.0).time
  time = time_at machine state events n ∙ sym (time_at machine state first found.0)

  step : step_of machine (state_at machine state events n) p ≡ step_of machine (state_at machine state first found.0) p
  step = step_of-same machine (state_at machine state first found.0) (state_at machine state events n) p time activity

  after-here : state_at machine state events (suc n)
      ≡ written_if machine (write_of (step_of machine (state_at machine state first found.0) p).action)
      (with_process p (own_of machine (state_at machine state events n) (Step p)) (state_at machine state events n))
  after-here =
      at_next machine state events n (Step p) stands
      ∙ ap (λ (st : ProcessStep). written_if machine (write_of st.action) (with_process p (own_of machine (state_at machine state events n) (Step p)) (state_at machine state events n))) step

  after-there : state_at machine state first (suc found.0)
      ≡ written_if machine (write_of (step_of machine (state_at machine state first found.0) p).action)
      (with_process p (own_of machine (state_at machine state first found.0) (Step p)) (state_at machine state first found.0))
  after-there = at_next machine state first found.0 (Step p) found.2

  read-same : (object : ℕ) → read_of (step_of machine (state_at machine state first found.0) p).action ≡ Some object →
      value_at (state_at machine state events n).values object ≡ value_at (state_at machine state first found.0).values object
  read-same object e =
      let x = read_stands machine (state_at machine state first found.0) (noted machine state first found.0 (Step p)).process (noted machine state first found.0 (Step p)).line (Step p) object e in
      let read : ObjectAccess = record { act = Reading; object = object; process = p; line = x.0 } in
      let y : In read _ = other_counted machine state first found.0 (Step p) read found.2 x.1 refl in
      elim (decided (wild_in machine state first object)) [
        | inl wild ↦ wild_first machine state first events n matched done found.0 object (Step p) read r run c opens wild found.2
            (read-no-changes machine (state_at machine state first found.0) p object e) y refl refl
        | inr tame ↦
            (in_order (changes_there machine state first object) (λ k. value_at (state_at machine state first k).values object) done (value_at (state_at machine state events n).values object) found.0
            (value_stays machine state first object) (c.values object tame) (value_in_order machine state first done found.0 object read r opens tame y refl (λ old new. refl))).0
      ]

  old : (u : ValueUpdate) → write_of (step_of machine (state_at machine state first found.0) p).action ≡ Some u →
      value_at (state_at machine state events n).values u.object ≡ value_at (state_at machine state first found.0).values u.object
  old =
      old-same machine state first events n matched done found.0 (Step p) p (own_of machine (state_at machine state events n) (Step p)) (own_of machine (state_at machine state first found.0) (Step p))
      (write_of (step_of machine (state_at machine state first found.0) p).action) r run c opens stands found.2 after-here after-there refl

  activity-after : activity_at (state_at machine state events (suc n)) p ≡ activity_at (state_at machine state first (suc found.0)) p
  activity-after =
      ap (λ s. activity_at s p) (at_next machine state events n (Step p) stands)
      ∙ ap (λ (x : ProcessState). x.activity) (own_step machine (state_at machine state events n) p (possible_at machine state events n (Step p) run.possible stands))
      ∙ ap (λ (st : ProcessStep). (woken_if_process machine (state_at machine state events n) (write_of st.action)
      (after_step (state_at machine state events n) st (process_at (state_at machine state events n) p))).activity) step
      ∙ woken_if-activity machine (state_at machine state events n) (write_of (step_of machine (state_at machine state first found.0) p).action) _
      ∙ woken_if-same machine (state_at machine state events n) (state_at machine state first found.0) (write_of (step_of machine (state_at machine state first found.0) p).action) _ _ old
      (next_activity-same (state_at machine state first found.0).values (state_at machine state events n).values (step_of machine (state_at machine state first found.0) p).action
      (step_of machine (state_at machine state first found.0) p).next read-same)
      ∙ sym (woken_if-activity machine (state_at machine state first found.0) (write_of (step_of machine (state_at machine state first found.0) p).action)
      (after_step (state_at machine state first found.0) (step_of machine (state_at machine state first found.0) p) (process_at (state_at machine state first found.0) p)))
      ∙ sym (ap (λ (x : ProcessState). x.activity) (own_step machine (state_at machine state first found.0) p (possible_at machine state first found.0 (Step p) r.run.possible found.2)))
      ∙ sym (ap (λ s. activity_at s p) (at_next machine state first found.0 (Step p) found.2))

  later-after : (process_at (state_at machine state events (suc n)) p).later ≡ (process_at (state_at machine state first (suc found.0)) p).later
  later-after =
      ap (λ s. (process_at s p).later) (at_next machine state events n (Step p) stands)
      ∙ ap (λ (x : ProcessState). x.later) (own_step machine (state_at machine state events n) p (possible_at machine state events n (Step p) run.possible stands))
      ∙ woken_if-later machine (state_at machine state events n) (write_of (step_of machine (state_at machine state events n) p).action) _
      ∙ (λ i. ap (λ (x : ProcessPart). x.later) next.now i ++ appended (time i) (step i).action)
      ∙ sym (woken_if-later machine (state_at machine state first found.0) (write_of (step_of machine (state_at machine state first found.0) p).action)
      (after_step (state_at machine state first found.0) (step_of machine (state_at machine state first found.0) p) (process_at (state_at machine state first found.0) p)))
      ∙ sym (ap (λ (x : ProcessState). x.later) (own_step machine (state_at machine state first found.0) p (possible_at machine state first found.0 (Step p) r.run.possible found.2)))
      ∙ sym (ap (λ s. (process_at s p).later) (at_next machine state first found.0 (Step p) found.2))

  mine : (q : ℕ) → Step q ≡ Step p → activity_at (state_at machine state events n) q ≡ activity_at (state_at machine state first found.0) q
  mine q e = subst (λ k. activity_at (state_at machine state events n) k ≡ activity_at (state_at machine state first found.0) k) (sym (ap number_of e)) activity
    where
      number_of : Event → ℕ
      number_of (Step k) = k
      number_of (LaneStep k) = k
      number_of (Evaluation k) = k
      number_of (NetUpdate k) = k

  same-accesses : accesses_before machine state events n (Step p) ≡ accesses_before machine state first found.0 (Step p)
  same-accesses =
      ap (λ (st : ProcessStep). action_accesses machine p st.line st.action (state_at machine state events n) ++ await_accesses p st.line st.next) step
      ∙ ap (λ xs. xs ++ await_accesses p (step_of machine (state_at machine state first found.0) p).line (step_of machine (state_at machine state first found.0) p).next)
      (action-same machine p (step_of machine (state_at machine state first found.0) p).line (step_of machine (state_at machine state first found.0) p).action (state_at machine state events n)
      (state_at machine state first found.0)
      (λ u e. (
        old u e,
        ended-alike machine state first events n matched done found.0 (Step p) p (own_of machine (state_at machine state events n) (Step p))
            (own_of machine (state_at machine state first found.0) (Step p))
            (write_of (step_of machine (state_at machine state first found.0) p).action) r run c opens stands found.2 after-here after-there refl mine u e,
      )))

  pub step_meets : Meets machine state first events n matched done c found.0 (Step p)
  step_meets = record {
    stands = stands;
    first_stands = found.2;
    opens = opens;
    tests = tests machine state first events n matched done found.0 (Step p) p (own_of machine (state_at machine state events n) (Step p))
        (own_of machine (state_at machine state first found.0) (Step p))
        (write_of (step_of machine (state_at machine state first found.0) p).action) r run c opens stands found.2 after-here after-there refl;
    values = objects machine state first events n matched done found.0 (Step p) p (own_of machine (state_at machine state events n) (Step p))
        (own_of machine (state_at machine state first found.0) (Step p))
        (write_of (step_of machine (state_at machine state first found.0) p).action) r run c opens stands found.2 after-here after-there refl;
    own = λ q e. subst (λ k. IsNext (process_there machine state first k) (process_part machine state first k) (c.processes k).place (part_through machine state events matched k n) found.0
        × (activity_at (state_at machine state events (suc n)) k ≡ activity_at (state_at machine state first (suc found.0)) k)
        × ((process_at (state_at machine state events (suc n)) k).later ≡ (process_at (state_at machine state first (suc found.0)) k).later)) (ap number_of e) (next, activity-after, later-after);
    own_lane = λ q e. no_lane q e;
    accesses = same-accesses;
    process = refl;
    line = ap (λ (st : ProcessStep). st.line) step;
    cause = cause_same machine state first events n matched done (Step p) c (λ j event s. s.processes p) (cause_before machine state events n (Step p))
        (cause_before machine state first found.0 (Step p)) refl
        (ap (λ (x : ProcessPart). x.cause) next.now);
  }
    where
      number_of : Event → ℕ
      number_of (Step k) = k
      number_of (LaneStep k) = k
      number_of (Evaluation k) = k
      number_of (NetUpdate k) = k

      no_lane : (q : ℕ) → Step p ≡ LaneStep q →
          IsNext (lane_there first q) (lane_part machine state first q) (c.lanes q).place (lane_through machine state events matched q n) found.0
          × ((process_at (state_at machine state events (suc n)) q).lane ≡ (process_at (state_at machine state first (suc found.0)) q).lane)
      no_lane q e = cc

-- Lane steps

module _ (machine : Machine) (state : State) (first events : List Event) (n : ℕ) (matched : ℕ → Option ℕ) (done : List ℕ) (p : ℕ)
    (r : IsFree machine state first) (run : IsRun machine state events) (c : Compared machine state first events n matched done) (stands : slice_get events n ≡ Some (LaneStep p)) where
  pub lane-found : NextAt (lane_there first p) first (LaneStep p) (c.lanes p).place
  lane-found =
      find_lane machine state first p r (length first) (c.lanes p).place (omega arith)
      (sym (ap (λ (x : LanePart). is_any x.lane) (c.lanes p).same) ∙ possible_at machine state events n (LaneStep p) run.possible stands)

  lane-next : IsNext (lane_there first p) (lane_part machine state first p) (c.lanes p).place (lane_through machine state events matched p n) lane-found.0
  lane-next = record {
    reaches = lane-found.1;
    between = lane-found.3;
    now = (c.lanes p).same ∙ sym (stays_between (lane_there first p) (lane_part machine state first p) (lane_stays machine state first p) (c.lanes p).place lane-found.0 lane-found.1 lane-found.3);
  }

  lane-opens : IsOpen (log_of machine state first) done lane-found.0
  lane-opens =
      opens_next machine state first events n matched done (lane_there first p) (lane_part machine state first p) (lane_through machine state events matched p n) lane-found.0 (LaneStep p) c
      (c.lanes p) lane-found.1 lane-found.3
      (ap (on_event (is_lane_of p)) lane-found.2 ∙ eq-eqb p p refl) lane-found.2
      (λ k other e m. ap (on_event (is_lane_of p)) e ∙ m)

  lane : (process_at (state_at machine state events n) p).lane ≡ (process_at (state_at machine state first lane-found.0) p).lane
  lane = ap (λ (x : LanePart). x.lane) lane-next.now

  lane-after-here : state_at machine state events (suc n) ≡ written_if machine (first_update (process_at (state_at machine state first lane-found.0) p).lane)
      (with_process p after_lane_step (state_at machine state events n))
  lane-after-here = at_next machine state events n (LaneStep p) stands ∙ ap (λ l. written_if machine (first_update l) (with_process p after_lane_step (state_at machine state events n))) lane

  lane-after-there : state_at machine state first (suc lane-found.0) ≡ written_if machine (first_update (process_at (state_at machine state first lane-found.0) p).lane)
      (with_process p after_lane_step (state_at machine state first lane-found.0))
  lane-after-there = at_next machine state first lane-found.0 (LaneStep p) lane-found.2

  lane-old : (u : ValueUpdate) → first_update (process_at (state_at machine state first lane-found.0) p).lane ≡ Some u →
      value_at (state_at machine state events n).values u.object ≡ value_at (state_at machine state first lane-found.0).values u.object
  lane-old =
      old-same machine state first events n matched done lane-found.0 (LaneStep p) p after_lane_step after_lane_step
      (first_update (process_at (state_at machine state first lane-found.0) p).lane) r run c lane-opens stands lane-found.2
      lane-after-here lane-after-there refl

  lane-after : (process_at (state_at machine state events (suc n)) p).lane ≡ (process_at (state_at machine state first (suc lane-found.0)) p).lane
  lane-after =
      ap (λ s. (process_at s p).lane) (at_next machine state events n (LaneStep p) stands)
      ∙ ap (λ (x : ProcessState). x.lane) (own_lane machine (state_at machine state events n) p (possible_at machine state events n (LaneStep p) run.possible stands))
      ∙ woken_if-lane machine (state_at machine state events n) (first_update (process_at (state_at machine state events n) p).lane) _
      ∙ ap rest_of lane
      ∙ sym (woken_if-lane machine (state_at machine state first lane-found.0) (first_update (process_at (state_at machine state first lane-found.0) p).lane)
      (after_lane_step (process_at (state_at machine state first lane-found.0) p)))
      ∙ sym (ap (λ (x : ProcessState). x.lane) (own_lane machine (state_at machine state first lane-found.0) p (possible_at machine state first lane-found.0 (LaneStep p) r.run.possible lane-found.2)))
      ∙ sym (ap (λ s. (process_at s p).lane) (at_next machine state first lane-found.0 (LaneStep p) lane-found.2))

  lane-accesses : accesses_before machine state events n (LaneStep p) ≡ accesses_before machine state first lane-found.0 (LaneStep p)
  lane-accesses =
      ap (λ l. lane_accesses machine p l (state_at machine state events n)) lane
      ∙ lane-same machine p (process_at (state_at machine state first lane-found.0) p).lane (state_at machine state events n) (state_at machine state first lane-found.0)
      (λ u e. (
        lane-old u e,
        ended-alike machine state first events n matched done lane-found.0 (LaneStep p) p after_lane_step after_lane_step
            (first_update (process_at (state_at machine state first lane-found.0) p).lane) r run c lane-opens stands
            lane-found.2 lane-after-here lane-after-there refl (λ q f. no_step q f) u e,
      ))
    where
      no_step : {B : Type 0} (q : ℕ) → Step q ≡ LaneStep p → B
      no_step q f = cc

  pub lane_meets : Meets machine state first events n matched done c lane-found.0 (LaneStep p)
  lane_meets = record {
    stands = stands;
    first_stands = lane-found.2;
    opens = lane-opens;
    tests = tests machine state first events n matched done lane-found.0 (LaneStep p) p after_lane_step after_lane_step
        (first_update (process_at (state_at machine state first lane-found.0) p).lane) r run c lane-opens stands
        lane-found.2 lane-after-here lane-after-there refl;
    values = objects machine state first events n matched done lane-found.0 (LaneStep p) p after_lane_step after_lane_step
        (first_update (process_at (state_at machine state first lane-found.0) p).lane) r run c lane-opens stands
        lane-found.2 lane-after-here lane-after-there refl;
    own = λ q e. no_step q e;
    own_lane = λ q e. subst (λ k. IsNext (lane_there first k) (lane_part machine state first k) (c.lanes k).place (lane_through machine state events matched k n) lane-found.0
        × ((process_at (state_at machine state events (suc n)) k).lane ≡ (process_at (state_at machine state first (suc lane-found.0)) k).lane)) (ap number_of e) (lane-next, lane-after);
    accesses = lane-accesses;
    process = refl;
    line = ap lane_line lane;
    cause = cause_same machine state first events n matched done (LaneStep p) c (λ j event s. silent-lane machine p (state_at machine state events j) event s.of_node)
        (cause_before machine state events n (LaneStep p))
        (cause_before machine state first lane-found.0 (LaneStep p)) refl (ap (λ (x : LanePart). x.cause) lane-next.now);
  }
    where
      number_of : Event → ℕ
      number_of (Step k) = k
      number_of (LaneStep k) = k
      number_of (Evaluation k) = k
      number_of (NetUpdate k) = k

      no_step : {B : Type 0} (q : ℕ) → LaneStep p ≡ Step q → B
      no_step q f = cc

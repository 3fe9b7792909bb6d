-- A runner takes a step of a process or of a lane, and tells it (IEEE 1364-2001, clause 5).
use Rattle.std.proofs.Common.{◌≡◌, ℕ, ◌+◌, ◌<◌, List, [], ◌∷◌, ◌++◌, length, map, Bool, true, false, not, ◌||◌, cond, refl, sym, ap, subst, ◌∙◌, nat_eq}
use Rattle.std.proofs.lemmas.List.{map-append}
use Rattle.std.specs.Prelude.{Some, None}
use Rattle.std.proofs.lemmas.Bool.{eqb-true, eq-eqb, ne_eqb, eqb-false}
use Rattle.graph_order.specs.ListLaws.{has-append}
use Rattle.vf_base.specs.Base.{object_number, process_number}
use Rattle.vf_base.specs.Lists.{has}
use Rattle.vf_base.specs.declared.ids.ProcId.{ProcId}
use Rattle.v_design.specs.Designs.{Machine}
use Rattle.v_design.specs.States.{State, Event, Step, LaneStep, after, first_update, is_process_event, process_at, is_ready, step_of, write_of}
use Rattle.v_design.specs.WellFormed.{KeepsRules}
use Rattle.race_laws.specs.Writes.{WritesAreOf, NextWritesAreOf}
use Rattle.net_state.specs.States.{values_in}
use Rattle.v_design.specs.Runs.{first_event, or_event, named_event}
use Rattle.causal_monitor.specs.Notes.{noted_access}
use Rattle.machine_laws.specs.SlotLoop.{NotesGoOn, NoNodeWorks, first_lane, first_ready}
use Rattle.copy_laws.specs.Moves.{EventsChangeOnly}
use Rattle.machine_events.specs.declared.told.Told.{Told}
use Rattle.machine_events.specs.Alone.{HappensTo}
use Rattle.machine_events.specs.There.{IsOfObjects, LaneIsThere, StepIsThere, found-holds}
use Rattle.block_events.specs.declared.runner.Runner.{Runner}
use Rattle.block_told.specs.declared.told.BlockTold.{BlockTold}
use Rattle.block_events.specs.Runners.{machine_of, state_of, IsWhole}
use Rattle.block_told.specs.Running.{running_of, is_innermost, runs_after}
use Rattle.block_told.specs.Tells.{access_seen, is_lane, IsUntold, CountsStep, TellsStepOf}
use Rattle.block_events.specs.Going.{TakesEvents, TellsMore, StepsOn, LaneStepsOn}
use Rattle.block_told.specs.EventTells.{TellsEvent, step-tells}
use Rattle.block_told.specs.TellsMore.{Adds, tells-nothing, tells-more}
use Rattle.block_events.proofs.Nodes.{both-of, state-is, object-count, node-count, process-count, told-ended, adds-step}

-- the event that the first order takes where no node has work
pub lane-first : (state : State) (process : ℕ) → NoNodeWorks state → first_lane state ≡ Some process → first_event state ≡ Some (LaneStep process)
lane-first state process quiet lane = λ i. or_event (quiet i) (or_event (named_event LaneStep (lane i)) (named_event Step (first_ready state)))

pub step-first : (state : State) (process : ℕ) → NoNodeWorks state → first_lane state ≡ None → first_ready state ≡ Some process → first_event state ≡ Some (Step process)
step-first state process quiet none ready = λ i. or_event (quiet i) (or_event (named_event LaneStep (none i)) (named_event Step (ready i)))

-- the update that a step writes is of an object that has a value
pub step-there : NextWritesAreOf → (runner : Runner) (process : ℕ) → KeepsRules (machine_of runner).design → WritesAreOf (machine_of runner).design (state_of runner) →
    StepIsThere process runner.nets runner.table
step-there next runner process rules writes machine state both =
    let same : state_of runner ≡ state = state-is machine state runner both in
    found-holds (IsOfObjects (length (values_in runner.nets))) (write_of (step_of machine state process).action)
    (λ update e.
    subst (λ n. update.object < n) (sym (object-count runner))
    (next.step (machine_of runner) (state_of runner) process update rules writes ((λ i. write_of (step_of (both.machine_is i) (same i) process).action) ∙ e)))

-- so is the first update of a lane
pub lane-there : NextWritesAreOf → (runner : Runner) (process : ℕ) → WritesAreOf (machine_of runner).design (state_of runner) → LaneIsThere process runner.nets runner.table
lane-there next runner process writes =
    found-holds (IsOfObjects (length (values_in runner.nets))) (first_update (process_at (state_of runner) process).lane)
    (λ update e. subst (λ n. update.object < n) (sym (object-count runner)) (next.lane (machine_of runner).design (state_of runner) process update writes e))

-- one event is taken
event-taken : (old new : Runner) (event : Event) (line : ℕ) (told : Told) → IsWhole old → HappensTo event line old.nets new.nets old.table new.table told → first_event (state_of old) ≡ Some event →
    TakesEvents (event ∷ []) old new
event-taken old new event line told whole happens first =
    let both = (happens.happens (machine_of old) (state_of old) (both-of old whole)).both in
    record { in_order = (first, tt); whole = happens.one; machine_is = both.machine_is; state_is = state-is (machine_of old) (after (machine_of old) (state_of old) event) new both }

-- and tells what it does
event-tells : (old new : Runner) (event : Event) (line : ℕ) (told : Told) → IsWhole old → is_process_event event ≡ true → HappensTo event line old.nets new.nets old.table new.table told →
    TakesEvents (event ∷ []) old new →
    TellsEvent (machine_of old) (state_of old) event (map access_seen (map noted_access told.accesses.items)) (map object_number told.changed.items) (map process_number told.ended.items)
event-tells old new event line told whole own happens takes =
    step-tells (machine_of old) (state_of old) event line (map noted_access told.accesses.items) (map object_number told.changed.items) told.ended.items own
    (happens.happens (machine_of old) (state_of old) (both-of old whole)).tells
    (record {
      objects = object-count old;
      objects_after = sym (ap (λ (s : State). length s.values) takes.state_is) ∙ object-count new ∙ ap (λ (m : Machine). length m.design.objects) takes.machine_is;
      processes = process-count old whole;
      processes_after = sym (ap (λ (s : State). length s.processes) takes.state_is) ∙ process-count new takes.whole ∙ ap (λ (m : Machine). length m.design.processes) takes.machine_is;
      told = told-ended old told whole happens.fits;
    })

-- so it is told of the block
event-told : NotesGoOn → EventsChangeOnly → (old new : Runner) (event : Event) (line : ℕ) (told : Told) (told_old told_new : BlockTold) → IsWhole old → is_process_event event ≡ true →
    HappensTo event line old.nets new.nets old.table new.table told → TakesEvents (event ∷ []) old new →
    Adds event (map access_seen (map noted_access told.accesses.items)) (map object_number told.changed.items) (map process_number told.ended.items) told_old told_new →
    TellsMore (machine_of old) (state_of old) (event ∷ []) told_old told_new
event-told notes law old new event line told told_old told_new whole own happens takes adds begins events is before =
    let Tells : State → Type 0 = λ s.
    TellsEvent (machine_of old) s event (map access_seen (map noted_access told.accesses.items)) (map object_number told.changed.items) (map process_number told.ended.items) in
    tells-more notes law (machine_of old) begins events event _ _ _ told_old told_new (ap (λ (s : State). length s.nodes) is ∙ node-count old)
    (subst Tells (sym is) (event-tells old new event line told whole own happens takes)) adds before

-- Steps of processes

nat_eq-turned : (m n : ℕ) → nat_eq m n ≡ nat_eq n m
nat_eq-turned m n = go (nat_eq n m) refl
  where
    go : (b : Bool) → nat_eq n m ≡ b → nat_eq m n ≡ nat_eq n m
    go true e = eq-eqb m n (sym (eqb-true n m e)) ∙ sym e
    go false e = ne_eqb m n (λ same. eqb-false n m e (sym same)) ∙ sym e

or-false : (b : Bool) → (b || false) ≡ b
or-false true = refl
or-false false = refl

-- the processes that are told to have taken steps
has-more : (stepped : List ProcId) (process : ProcId) (other : ℕ) →
    has (map process_number (stepped ++ process ∷ [])) other ≡ (has (map process_number stepped) other || nat_eq other (process_number process))
has-more stepped process other =
    ap (λ l. has l other) (map-append process_number stepped (process ∷ [])) ∙ has-append (map process_number stepped) (process_number process ∷ []) other
    ∙ ap (λ b. has (map process_number stepped) other || b) (or-false (nat_eq (process_number process) other) ∙ nat_eq-turned (process_number process) other)

has-already : (stepped : List ProcId) (process other : ℕ) → has (map process_number stepped) process ≡ true →
    has (map process_number stepped) other ≡ (has (map process_number stepped) other || nat_eq other process)
has-already stepped process other there = go (nat_eq other process) refl
  where
    go : (b : Bool) → nat_eq other process ≡ b → has (map process_number stepped) other ≡ (has (map process_number stepped) other || b)
    go true e = let here : has (map process_number stepped) other ≡ true = ap (has (map process_number stepped)) (eqb-true other process e) ∙ there in here ∙ sym (ap (λ b. b || true) here)
    go false e = sym (or-false (has (map process_number stepped) other))

-- the process is told once more, or was told before
counted-stepped : (process : ProcId) (begins : Bool) (old new : BlockTold) → CountsStep process begins old new →
    (begins ≡ false → has (map process_number old.stepped.items) (process_number process) ≡ true) →
    (other : ℕ) → has (map process_number new.stepped.items) other ≡ (has (map process_number old.stepped.items) other || nat_eq other (process_number process))
counted-stepped process begins old new counts before other =
    ap (λ l. has (map process_number l) other) counts.stepped ∙ go begins before
  where
    go : (b : Bool) → (b ≡ false → has (map process_number old.stepped.items) (process_number process) ≡ true) →
        has (map process_number (cond b (old.stepped.items ++ process ∷ []) old.stepped.items)) other ≡ (has (map process_number old.stepped.items) other || nat_eq other (process_number process))
    go true f = has-more old.stepped.items process other
    go false f = has-already old.stepped.items (process_number process) other (f refl)

kept-stepped : (process : ProcId) (begins : Bool) (old new : BlockTold) → CountsStep process begins old new → (other : ℕ) → has (map process_number old.stepped.items) other ≡ true →
    has (map process_number new.stepped.items) other ≡ true
kept-stepped process begins old new counts other there = ap (λ l. has (map process_number l) other) counts.stepped ∙ go begins
  where
    go : (b : Bool) → has (map process_number (cond b (old.stepped.items ++ process ∷ []) old.stepped.items)) other ≡ true
    go true = has-more old.stepped.items process other ∙ ap (λ b. b || nat_eq other (process_number process)) there
    go false = there

begun-stepped : (process : ProcId) (begins : Bool) (old new : BlockTold) → CountsStep process begins old new → begins ≡ true →
    has (map process_number new.stepped.items) (process_number process) ≡ true
begun-stepped process begins old new counts is =
    ap (λ l. has (map process_number l) (process_number process)) (counts.stepped ∙ ap (λ b. cond b (old.stepped.items ++ process ∷ []) old.stepped.items) is)
    ∙ has-more old.stepped.items process (process_number process)
    ∙ ap (λ b. has (map process_number old.stepped.items) (process_number process) || b) (eq-eqb (process_number process) (process_number process) refl)
    ∙ or-true (has (map process_number old.stepped.items) (process_number process))
  where
    or-true : (b : Bool) → (b || true) ≡ true
    or-true true = refl
    or-true false = refl

not-false : (b : Bool) → not b ≡ false → b ≡ true
not-false true e = refl
not-false false e = cc

pub step-goes : NotesGoOn → EventsChangeOnly → (old new : Runner) (process : ProcId) (line : ℕ) (told : Told) (told_old middle told_new : BlockTold) (begins ready : Bool) → IsWhole old →
    NoNodeWorks (state_of old) → first_lane (state_of old) ≡ None → first_ready (state_of old) ≡ Some (process_number process) →
    HappensTo (Step (process_number process)) line old.nets new.nets old.table new.table told → ready ≡ is_ready (process_at (state_of new) (process_number process)).activity →
    begins ≡ not (is_innermost (running_of old.running.items) (process_number process)) → running_of new.running.items ≡ runs_after (process_number process) ready (running_of old.running.items) →
    CountsStep process begins told_old middle → TellsStepOf told middle told_new → StepsOn (process_number process) old new told_old told_new
step-goes notes law old new process line told told_old middle told_new begins ready whole quiet lanes first happens is begun running counts adds = record {
  takes = takes;
  running = running ∙ ap (λ b. runs_after p b (running_of old.running.items)) is;
  stepped = λ other there. ap (λ l. has (map process_number l) other) adds.stepped ∙ kept-stepped process begins told_old middle counts other there;
  begun = λ outer. ap (λ l. has (map process_number l) p) adds.stepped ∙ begun-stepped process begins told_old middle counts (begun ∙ ap not outer);
  count = adds.steps ∙ counts.steps;
  tells = λ inner. event-told notes law old new (Step p) line told told_old told_new whole refl happens takes
      (adds-step (Step p) told told_old middle told_new adds counts.accesses counts.changed counts.ended
      (counted-stepped process begins told_old middle counts (λ fails. inner (not-false (is_innermost (running_of old.running.items) p) (sym begun ∙ fails))))
      (λ other. ap (λ l. is_lane l other) counts.lane ∙ sym (or-false (is_lane told_old.lane other))) counts.steps);
}
  where
    p : ℕ
    p = process_number process

    takes : TakesEvents (Step p ∷ []) old new
    takes = event-taken old new (Step p) line told whole happens (step-first (state_of old) p quiet lanes first)

-- Lanes

pub lane-goes : NotesGoOn → EventsChangeOnly → (old new : Runner) (process : ProcId) (line : ℕ) (told : Told) (told_old middle told_new : BlockTold) → IsWhole old → NoNodeWorks (state_of old) →
    first_lane (state_of old) ≡ Some (process_number process) → HappensTo (LaneStep (process_number process)) line old.nets new.nets old.table new.table told → IsUntold told_old →
    middle ≡ record told_old { lane = Some process; steps = 1 } → TellsStepOf told middle told_new → LaneStepsOn (process_number process) old new told_new
lane-goes notes law old new process line told told_old middle told_new whole quiet lane happens none is adds = record {
  takes = takes;
  tells = event-told notes law old new (LaneStep p) line told told_old told_new whole refl happens takes
      (adds-step (LaneStep p) told told_old middle told_new adds (ap (λ (t : BlockTold). t.accesses.items) is) (ap (λ (t : BlockTold). t.changed.items) is) (ap (λ (t : BlockTold). t.ended.items) is)
      (λ other. ap (λ (t : BlockTold). has (map process_number t.stepped.items) other) is ∙ sym (or-false (has (map process_number told_old.stepped.items) other)))
      (λ other. ap (λ (t : BlockTold). is_lane t.lane other) is ∙ sym (ap (λ l. is_lane l other || nat_eq other p) none.lane))
      (ap (λ (t : BlockTold). t.steps) is ∙ sym (ap (λ n. n + 1) none.steps)))
      (state_of old) [] refl (tells-nothing (machine_of old) (state_of old) told_old none);
}
  where
    p : ℕ
    p = process_number process

    takes : TakesEvents (LaneStep p ∷ []) old new
    takes = event-taken old new (LaneStep p) line told whole happens (lane-first (state_of old) p quiet lane)

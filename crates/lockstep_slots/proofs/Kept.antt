-- What is kept over turns, over events that leave it alone, over blocks, and from slot to slot.
use Rattle.std.proofs.Common.{◌≡◌, ℕ, List, [], ◌∷◌, length, Bool, true, false, ◌||◌, refl, sym, ap, ◌∙◌}
use Rattle.std.specs.Prelude.{Option, Some, None, is_some, nat_eq, slice_get}
use Rattle.std.specs.Option.{option_map}
use Rattle.std.proofs.lemmas.Bool.{eqb-true}
use Rattle.four_value.specs.Values.{LogicValue}
use Rattle.vf_base.specs.Lists.{has, AllHold}
use Rattle.v_design.specs.Designs.{FlatDesign, FlatNode, StuckAt, good_machine, faulty_machine}
use Rattle.v_design.specs.Processes.{Activity, Action, ReadsObject, WritesObject, AppendsUpdate, TouchesNothing}
use Rattle.v_design.specs.Assignments.{ValueUpdate, value_at}
use Rattle.v_design.specs.States.{State, ProcessState, LaterUpdate, Event, Step, LaneStep, Evaluation, NetUpdate, TurnKind, PostponedTurn}
use Rattle.v_design.specs.States.{UpdatesTurn, TimeTurn, after, process_at, found_or, idle_process}
use Rattle.v_design.specs.States.{step_of, write_of, first_update, turned}
use Rattle.v_design.specs.Runs.{happened}
use Rattle.v_design.specs.WellFormed.{KeepsRules}
use Rattle.copy_laws.specs.Differences.{Differences, own_of}
use Rattle.copy_laws.specs.Moves.{Parts, EventsChangeOnly, object_of, nets_of, objects_changed}
use Rattle.copy_laws.specs.Rest.{within_of}
use Rattle.copy_laws.specs.Touches.{IsFree, UpdateIsFree, ActionIsFree, EventIsFree}
use Rattle.copy_laws.proofs.Parts.{found-mapped}
use Rattle.lockstep_laws.specs.Lockstep.{due_times, DiffersInWrites}
use Rattle.lockstep_laws.specs.Phases.{IsInPhase, PhasesFit}
use Rattle.lockstep_laws.specs.Passing.{AreFree}
use Rattle.lockstep_laws.specs.Turning.{turned_process, turned_within}
use Rattle.lockstep_laws.specs.Blocks.{SetsAnewAtRest}
use Rattle.lockstep_laws.specs.Slots.{AreJustListed, KeepsNothingSame}
use Rattle.lockstep_index.specs.Alone.{apart_values}
use Rattle.lockstep_index.specs.Writes.{OwnWrites, with_writes, ActsElsewhere}
use Rattle.lockstep_index.proofs.Kept.{keeps-writes, phase-more}
use Rattle.lockstep_slots.specs.Kept.{LockstepKept, kept_within, turned_writes, turned_kept, kept_of, AreJustKept}
use Rattle.lockstep_slots.specs.Standing.{BlocksDiffer}

-- A turn

pub process-turned : (turn : TurnKind) (state : State) (p : ℕ) → process_at (turned turn state) p ≡ turned_process state.time turn (process_at state p)
process-turned PostponedTurn state p = found-mapped (turned_process state.time PostponedTurn) idle_process state.processes p refl
process-turned UpdatesTurn state p = found-mapped (turned_process state.time UpdatesTurn) idle_process state.processes p refl
process-turned (TimeTurn time) state p = found-mapped (turned_process state.time (TimeTurn time)) idle_process state.processes p refl

with-turned : (now : ℕ) (turn : TurnKind) (own : OwnWrites) (process : ProcessState) →
    turned_process now turn (with_writes (Some own) process) ≡ with_writes (Some (turned_writes now turn own)) (turned_process now turn process)
with-turned now PostponedTurn own process = refl
with-turned now UpdatesTurn own process = refl
with-turned now (TimeTurn time) own process = refl

pub within-turned : (turn : TurnKind) (kept : LockstepKept) (good : State) →
    turned_within good.time turn (kept_within kept good) ≡ kept_within (turned_kept good.time turn kept) (turned turn good)
within-turned turn kept good = λ i. record { values = kept.values; nodes = λ number. None; processes = λ p. at p (kept.writes p) i }
  where
    at : (p : ℕ) (own : Option OwnWrites) →
        option_map (turned_process good.time turn) (option_map (λ (o : OwnWrites). with_writes (Some o) (process_at good p)) own)
        ≡ option_map (λ (o : OwnWrites). with_writes (Some o) (process_at (turned turn good) p)) (option_map (turned_writes good.time turn) own)
    at p None = refl
    at p (Some own) =
        ap Some
        (with-turned good.time turn own (process_at good p)
        ∙ ap (with_writes (Some (turned_writes good.time turn own))) (sym (process-turned turn good p)))

-- Between slots

own-begins : (process : ProcessState) (activity : Option Activity) (later : Option (List LaterUpdate)) → activity ≡ None → process.lane ≡ [] →
    elim (is_some activity || is_some later) as (λ _. Option ProcessState) [
      | true ↦ Some (record process { activity = found_or process.activity activity; later = found_or process.later later })
      | false ↦ None
    ]
    ≡ option_map (λ (o : OwnWrites). with_writes (Some o) process) (option_map (λ (l : List LaterUpdate). record { later = l; lane = [] }) later)
own-begins process (Some activity) later e lane = cc
own-begins process None None e lane = refl
own-begins process None (Some later) e lane = λ i. Some (record { activity = process.activity; later = later; lane = lane i })

-- what differences keep where each lane is empty
pub begins-within : (d : Differences) (good : State) → ((p : ℕ) → own_of d.activities p ≡ None) → ((p : ℕ) → (process_at good p).lane ≡ []) → within_of d good ≡ kept_within (kept_of d) good
begins-within d good none lanes = λ i. record {
  values = own_of d.values;
  nodes = λ number. None;
  processes = λ p. own-begins (process_at good p) (own_of d.activities p) (own_of d.updates p) (none p) (lanes p) i;
}

pub just-listed : (kept : LockstepKept) (d : Differences) (good : State) → AreJustKept kept d → AreJustListed (kept_within kept good) d
just-listed kept d good l = record {
  values = l.values;
  activities = l.activities;
  updates = λ p. l.updates p ∙ through (process_at good p) (kept.writes p);
  values_ascend = l.values_ascend;
  activities_ascend = l.activities_ascend;
  updates_ascend = l.updates_ascend;
}
  where
    through : (process : ProcessState) (own : Option OwnWrites) →
        option_map (λ (o : OwnWrites). o.later) own ≡ option_map (λ (s : ProcessState). s.later) (option_map (λ (o : OwnWrites). with_writes (Some o) process) own)
    through process None = refl
    through process (Some own) = refl

-- A block of each machine

found-with : (own : Option OwnWrites) (process : ProcessState) → found_or process (option_map (λ (o : OwnWrites). with_writes (Some o) process) own) ≡ with_writes own process
found-with None process = refl
found-with (Some own) process = refl

pub sets-anew : (design : FlatDesign) (fault : StuckAt) (parts : Parts) (good faulty : State) (ones others : List Event) (old new : LockstepKept) →
    BlocksDiffer design fault parts good faulty ones others old new →
    SetsAnewAtRest parts (happened (good_machine design) good ones) (happened (faulty_machine design fault) faulty others) (kept_within old good)
    (kept_within new (happened (good_machine design) good ones))
sets-anew design fault parts good faulty ones others old new c = record {
  nodes = λ number. refl;
  values_stay = c.compared.values_stay;
  processes_stay = λ p out. λ i. option_map (λ (o : OwnWrites). with_writes (Some o) (c.good_changes.processes p out i)) (c.compared.writes_stay p out i);
  values = c.compared.values;
  processes = λ p here. c.compared.processes p here ∙ sym (found-with (new.writes p) (process_at (happened (good_machine design) good ones) p));
  writes = λ p own here e. differs p own here (new.writes p) refl e;
}
  where
    some-process : (one other : ProcessState) → Some one ≡ Some other → one ≡ other
    some-process one other e = cc

    differs : (p : ℕ) (own : ProcessState) → parts.processes p ≡ true → (writes : Option OwnWrites) → new.writes p ≡ writes →
        option_map (λ (o : OwnWrites). with_writes (Some o) (process_at (happened (good_machine design) good ones) p)) writes ≡ Some own →
        DiffersInWrites (process_at (happened (good_machine design) good ones) p) own
    differs p own here None is e = cc
    differs p own here (Some writes) is e =
        let same : with_writes (Some writes) (process_at (happened (good_machine design) good ones) p) ≡ own =
        some-process (with_writes (Some writes) (process_at (happened (good_machine design) good ones) p)) own e in
        record {
          activity = ap (λ (s : ProcessState). s.activity) (sym same);
          due = ap (λ (s : ProcessState). due_times s.later) (sym same) ∙ c.compared.due p writes here is;
          lane = ap (λ (s : ProcessState). length s.lane) (sym same) ∙ c.compared.lanes p writes here is;
        }

-- Events that leave it alone

-- an object with an own value isn't one of some that have none
none-has : (values : ℕ → Option LogicValue) (objects : List ℕ) → AllHold (λ x. is_some (values x) ≡ false) objects → (object : ℕ) → is_some (values object) ≡ true → has objects object ≡ false
none-has values [] all object own = refl
none-has values (x ∷ objects) all object own = or-none (nat_eq x object) (has objects object) (other (nat_eq x object) refl) (none-has values objects all.1 object own)
  where
    or-none : (b c : Bool) → b ≡ false → c ≡ false → (b || c) ≡ false
    or-none true c e f = cc
    or-none false c e f = f

    other : (b : Bool) → nat_eq x object ≡ b → b ≡ false
    other true e = absurd (let no : true ≡ false = sym own ∙ ap (λ o. is_some (values o)) (sym (eqb-true x object e)) ∙ all.0 in cc)
    other false e = refl

agree-all : (values : ℕ → Option LogicValue) (good : State) (objects : List ℕ) → AllHold (IsFree (apart_values values) good good) objects → AllHold (λ x. is_some (values x) ≡ false) objects
agree-all values good [] all = tt
agree-all values good (x ∷ objects) all = (all.0.agrees, agree-all values good objects all.1)

update-agrees : (design : FlatDesign) (fault : StuckAt) (values : ℕ → Option LogicValue) (good : State) (update : Option ValueUpdate) →
    UpdateIsFree design fault (apart_values values) good good update → AllHold (λ x. is_some (values x) ≡ false) (object_of update)
update-agrees design fault values good None free = tt
update-agrees design fault values good (Some update) free = (free.1.agrees, tt)

action-agrees : (design : FlatDesign) (fault : StuckAt) (values : ℕ → Option LogicValue) (good : State) (action : Action) →
    ActionIsFree design fault (apart_values values) good good action → AllHold (λ x. is_some (values x) ≡ false) (object_of (write_of action))
action-agrees design fault values good (ReadsObject object) free = tt
action-agrees design fault values good (WritesObject update) free = (free.1.agrees, tt)
action-agrees design fault values good (AppendsUpdate delay update) free = tt
action-agrees design fault values good TouchesNothing free = tt

event-agrees : (design : FlatDesign) (fault : StuckAt) (values : ℕ → Option LogicValue) (good : State) (event : Event) → EventIsFree design fault (apart_values values) good good event →
    AllHold (λ x. is_some (values x) ≡ false) (objects_changed (good_machine design) good event)
event-agrees design fault values good (Step p) free = action-agrees design fault values good (step_of (good_machine design) good p).action free.1
event-agrees design fault values good (LaneStep p) free = update-agrees design fault values good (first_update (process_at good p).lane) free.1
event-agrees design fault values good (Evaluation number) free = tt
event-agrees design fault values good (NetUpdate number) free = go (slice_get design.nodes number) refl
  where
    go : (found : Option FlatNode) → slice_get design.nodes number ≡ found → AllHold (λ x. is_some (values x) ≡ false) (nets_of found)
    go None e = tt
    go (Some node) e = agree-all values good node.outputs (free node e)

-- the laws on which this stands
pub record StayLaws : Type 0 where
  pub fit : PhasesFit
  pub changes : EventsChangeOnly

one-stays : StayLaws → (design : FlatDesign) (fault : StuckAt) → KeepsRules design → (kept : LockstepKept) (good : State) (event : Event) → IsInPhase (good_machine design) good →
    EventIsFree design fault (apart_values kept.values) good good event → ActsElsewhere kept.writes event → KeepsNothingSame (kept_within kept good) good →
    KeepsNothingSame (kept_within kept (after (good_machine design) good event)) (after (good_machine design) good event)
one-stays laws design fault rules kept good event good_in free elsewhere none = record {
  values = λ object own e same. none.values object own e (same ∙ value object (ap is_some e));
  processes = λ p own e same. process p own (kept.writes p) refl e same;
}
  where
    value : (object : ℕ) → is_some (kept.values object) ≡ true → value_at (after (good_machine design) good event).values object ≡ value_at good.values object
    value object own =
        (laws.changes (good_machine design) good event (laws.fit (good_machine design) good rules good_in).parts.nodes).values object
        (none-has kept.values (objects_changed (good_machine design) good event) (event-agrees design fault kept.values good event free) object own)

    some-process : (one other : ProcessState) → Some one ≡ Some other → one ≡ other
    some-process one other e = cc

    process : (p : ℕ) (own : ProcessState) (writes : Option OwnWrites) → kept.writes p ≡ writes →
        option_map (λ (o : OwnWrites). with_writes (Some o) (process_at (after (good_machine design) good event) p)) writes ≡ Some own → own ≡ process_at (after (good_machine design) good event) p → ⊥
    process p own None is e same = let no : None ≡ Some own = e in cc
    process p own (Some writes) is e same =
        let all : with_writes (Some writes) (process_at (after (good_machine design) good event) p) ≡ process_at (after (good_machine design) good event) p =
        some-process (with_writes (Some writes) (process_at (after (good_machine design) good event) p)) own e ∙ same in
        let keeps = keeps-writes (good_machine design) kept.writes good event p writes is elsewhere in
        let later : writes.later ≡ (process_at good p).later = ap (λ (s : ProcessState). s.later) all ∙ keeps.0 in
        let lane : writes.lane ≡ (process_at good p).lane = ap (λ (s : ProcessState). s.lane) all ∙ keeps.1 in
        none.processes p (with_writes (Some writes) (process_at good p)) (ap (option_map (λ (o : OwnWrites). with_writes (Some o) (process_at good p))) is)
        (λ i. record { activity = (process_at good p).activity; later = later i; lane = lane i })

pub stays-other : StayLaws → (design : FlatDesign) (fault : StuckAt) → KeepsRules design → (kept : LockstepKept) (good : State) (events : List Event) → IsInPhase (good_machine design) good →
    AreFree design fault (apart_values kept.values) good events → AllHold (ActsElsewhere kept.writes) events → KeepsNothingSame (kept_within kept good) good →
    KeepsNothingSame (kept_within kept (happened (good_machine design) good events)) (happened (good_machine design) good events)
stays-other laws design fault rules kept good [] good_in free elsewhere none = none
stays-other laws design fault rules kept good (event ∷ events) good_in free elsewhere none =
    stays-other laws design fault rules kept (after (good_machine design) good event) events (phase-more (good_machine design) good event good_in) free.1 elsewhere.1
    (one-stays laws design fault rules kept good event good_in free.0 elsewhere.0 none)

-- Events that touch no own value pass, whatever updates some processes have yet to write.
use Rattle.std.proofs.Common.{◌≡◌, ℕ, zero, suc, ◌+◌, ◌<◌, ◌≤◌, List, [], ◌∷◌, length, true, false, refl, sym, ap, subst, ◌∙◌, ◌⊎◌, inl, inr, arith}
use Rattle.std.specs.Prelude.{Option, Some, None, slice_get, is_some}
use Rattle.std.specs.Option.{option_map}
use Rattle.std.proofs.lemmas.Bool.{cases_lt}
use Rattle.four_value.specs.Values.{LogicValue}
use Rattle.vf_base.specs.Lists.{AllHold}
use Rattle.v_design.specs.Designs.{FlatDesign, StuckAt, good_machine, faulty_machine}
use Rattle.v_design.specs.Assignments.{ValueUpdate, value_at}
use Rattle.v_design.specs.Processes.{Action, ReadsObject, WritesObject, AppendsUpdate, TouchesNothing}
use Rattle.v_design.specs.States.{State, ProcessState, Event, Step, LaneStep, Evaluation, NetUpdate, after, process_at, node_at, found_or, idle_node, idle_process, step_of, first_update}
use Rattle.v_design.specs.Runs.{first_event}
use Rattle.v_design.specs.WellFormed.{KeepsRules}
use Rattle.order_laws.specs.NodesRest as nodes
use Rattle.copy_laws.specs.Beside.{AreBeside, EventPasses, GoOnBeside, UntouchedEventsPass}
use Rattle.copy_laws.specs.Touches.{IsFree, UpdateIsFree, ActionIsFree, EventIsFree, FreeEventsPass}
use Rattle.copy_laws.specs.QuietPhases.{NetsAreNotAwaited, DoesAlike, UntouchedAccessesAreAlike, UntouchedEventsDoAlike}
use Rattle.copy_laws.specs.Moves.{ChangesOnly, parts_of, EventsChangeOnly}
use Rattle.lockstep_laws.specs.Lockstep.{due_times, DiffersInWrites, AreInLockstep, StandBeside, LockstepIsBeside}
use Rattle.lockstep_laws.specs.Phases.{IsInPhase, FitsDesign, PhasesFit}
use Rattle.lockstep_index.specs.Alone.{apart_values}
use Rattle.lockstep_index.specs.Writes.{OwnWrites, with_writes, within_writes, ActsElsewhere, WritesPass}
use Rattle.lockstep_index.proofs.Own.{all_with, with_own, after-own, does-own}
use Rattle.lockstep_index.proofs.Kept.{keeps-writes, phase-more}

-- the laws on which this stands
pub record PassLaws : Type 0 where
  pub fit : PhasesFit
  pub side : LockstepIsBeside
  pub pass : UntouchedEventsPass
  pub free : FreeEventsPass
  pub accesses : UntouchedAccessesAreAlike
  pub does : UntouchedEventsDoAlike
  pub changes : EventsChangeOnly
  pub rest : nodes.NodesRestOnInputs

-- An event that is free beside the good state is free beside any other one: no process is apart

object-free : (values : ℕ → Option LogicValue) (good other : State) (object : ℕ) → IsFree (apart_values values) good good object → IsFree (apart_values values) good other object
object-free values good other object f = record {
  agrees = f.agrees;
  good_elsewhere = f.good_elsewhere;
  faulty_elsewhere = λ p h. absurd (let no : false ≡ true = h in cc);
}

update-free : (design : FlatDesign) (fault : StuckAt) (values : ℕ → Option LogicValue) (good other : State) (update : Option ValueUpdate) →
    UpdateIsFree design fault (apart_values values) good good update → UpdateIsFree design fault (apart_values values) good other update
update-free design fault values good other None f = tt
update-free design fault values good other (Some update) f = (f.0, object-free values good other update.object f.1)

action-free : (design : FlatDesign) (fault : StuckAt) (values : ℕ → Option LogicValue) (good other : State) (action : Action) →
    ActionIsFree design fault (apart_values values) good good action → ActionIsFree design fault (apart_values values) good other action
action-free design fault values good other (ReadsObject object) f = f
action-free design fault values good other (WritesObject update) f = (f.0, object-free values good other update.object f.1)
action-free design fault values good other (AppendsUpdate delay update) f = tt
action-free design fault values good other TouchesNothing f = tt

all-free : (values : ℕ → Option LogicValue) (good other : State) (objects : List ℕ) → AllHold (IsFree (apart_values values) good good) objects →
    AllHold (IsFree (apart_values values) good other) objects
all-free values good other [] f = tt
all-free values good other (object ∷ objects) f = (object-free values good other object f.0, all-free values good other objects f.1)

event-free : (design : FlatDesign) (fault : StuckAt) (values : ℕ → Option LogicValue) (good other : State) (event : Event) → EventIsFree design fault (apart_values values) good good event →
    EventIsFree design fault (apart_values values) good other event
event-free design fault values good other (Step process) f = (f.0, action-free design fault values good other (step_of (good_machine design) good process).action f.1)
event-free design fault values good other (LaneStep process) f = (f.0, update-free design fault values good other (first_update (process_at good process).lane) f.1)
event-free design fault values good other (Evaluation number) f = f
event-free design fault values good other (NetUpdate number) f = λ node at. all-free values good other node.outputs (f node at)

nets-elsewhere : (design : FlatDesign) (values : ℕ → Option LogicValue) (good other : State) (event : Event) → NetsAreNotAwaited design (apart_values values) good other event
nets-elsewhere design values good other (Step process) = tt
nets-elsewhere design values good other (LaneStep process) = tt
nets-elsewhere design values good other (Evaluation number) = tt
nets-elsewhere design values good other (NetUpdate number) = λ node at. (λ p h. absurd (let no : false ≡ true = h in cc), λ p h. absurd (let no : false ≡ true = h in cc))

-- The faulty state, and what it is without own updates

-- the faulty state with the good one's processes
abbrev bare : State → State → State
bare good faulty = record faulty { processes = good.processes }

found-with : (own : Option OwnWrites) (process : ProcessState) → found_or process (option_map (λ (o : OwnWrites). with_writes (Some o) process) own) ≡ with_writes own process
found-with None process = refl
found-with (Some own) process = refl

-- processes that are others with own updates, place by place
all-are : (writes : ℕ → Option OwnWrites) (n : ℕ) (xs ys : List ProcessState) → length xs ≡ length ys →
    ((k : ℕ) → found_or idle_process (slice_get xs k) ≡ with_writes (writes (n + k)) (found_or idle_process (slice_get ys k))) → xs ≡ all_with writes n ys
all-are writes n [] [] e h = refl
all-are writes n [] (y ∷ ys) e h = absurd (omega (arith, e))
all-are writes n (x ∷ xs) [] e h = absurd (omega (arith, e))
all-are writes n (x ∷ xs) (y ∷ ys) e h =
    λ i.
    (h 0 ∙ (let z : n + 0 ≡ n = omega arith in ap (λ m. with_writes (writes m) y) z)) i
    ∷ all-are writes (n + 1) xs ys (omega (arith, e))
    (λ k. h (suc k) ∙ (let z : n + suc k ≡ n + 1 + k = omega arith in ap (λ m. with_writes (writes m) (found_or idle_process (slice_get ys k))) z)) i

-- and what stands at a place of such
all-at : (writes : ℕ → Option OwnWrites) (n : ℕ) (ys : List ProcessState) (k : ℕ) → k < length ys →
    found_or idle_process (slice_get (all_with writes n ys) k) ≡ with_writes (writes (n + k)) (found_or idle_process (slice_get ys k))
all-at writes n [] k low = absurd (omega (arith, low))
all-at writes n (y ∷ ys) zero low = let z : n ≡ n + 0 = omega arith in ap (λ m. with_writes (writes m) y) z
all-at writes n (y ∷ ys) (suc k) low =
    all-at writes (n + 1) ys k (omega (arith, low))
    ∙ (let z : n + 1 + k ≡ n + suc k = omega arith in ap (λ m. with_writes (writes m) (found_or idle_process (slice_get ys k))) z)

all-past : (writes : ℕ → Option OwnWrites) (n : ℕ) (ys : List ProcessState) (k : ℕ) → length ys ≤ k → found_or idle_process (slice_get (all_with writes n ys) k) ≡ idle_process
all-past writes n [] k past = refl
all-past writes n (y ∷ ys) zero past = absurd (omega (arith, past))
all-past writes n (y ∷ ys) (suc k) past = all-past writes (n + 1) ys k (omega (arith, past))

past-idle : (ys : List ProcessState) (k : ℕ) → length ys ≤ k → found_or idle_process (slice_get ys k) ≡ idle_process
past-idle [] k past = refl
past-idle (y ∷ ys) zero past = absurd (omega (arith, past))
past-idle (y ∷ ys) (suc k) past = past-idle ys k (omega (arith, past))

same-processes : (xs ys : List ProcessState) → length xs ≡ length ys → ((k : ℕ) → found_or idle_process (slice_get xs k) ≡ found_or idle_process (slice_get ys k)) → xs ≡ ys
same-processes [] [] e h = refl
same-processes [] (y ∷ ys) e h = absurd (omega (arith, e))
same-processes (x ∷ xs) [] e h = absurd (omega (arith, e))
same-processes (x ∷ xs) (y ∷ ys) e h = λ i. h 0 i ∷ same-processes xs ys (omega (arith, e)) (λ k. h (suc k)) i

-- One event

pub record OnePasses (design : FlatDesign) (fault : StuckAt) (values : ℕ → Option LogicValue) (writes : ℕ → Option OwnWrites) (good faulty : State) (event : Event) : Type 0 where
  pub first : first_event faulty ≡ Some event
  pub lockstep : AreInLockstep (within_writes values writes (after (good_machine design) good event)) (after (good_machine design) good event) (after (faulty_machine design fault) faulty event)
  pub alike : DoesAlike design fault good faulty event

pub one-passes : PassLaws → (design : FlatDesign) (fault : StuckAt) (values : ℕ → Option LogicValue) (writes : ℕ → Option OwnWrites) (good faulty : State) (event : Event) → KeepsRules design →
    AreInLockstep (within_writes values writes good) good faulty → IsInPhase (good_machine design) good → IsInPhase (faulty_machine design fault) faulty → first_event good ≡ Some event →
    EventIsFree design fault (apart_values values) good good event → ActsElsewhere writes event → OnePasses design fault values writes good faulty event
one-passes laws design fault values writes good faulty event rules l good_in own_in first free elsewhere = record {
  first = side.first ∙ first;
  lockstep = record {
    within = record {
      value_count = ap (λ (s : State). length s.values) moved ∙ sym behind.value_count;
      node_count = ap (λ (s : State). length s.nodes) moved ∙ ap length (sym behind.nodes);
      process_count = ap (λ (s : State). length s.processes) moved ∙ numbered-length;
      values = λ object. value object (values object) refl;
      nodes = λ number. ap (λ (s : State). node_at s number) moved ∙ ap (λ ns. found_or idle_node (slice_get ns number)) (sym behind.nodes);
      processes = λ p. process p;
    };
    time = behind.times ∙ sym (ap (λ (s : State). s.time) moved);
    nodes = λ number. refl;
    processes = λ p own e. differs p own (writes p) refl e;
  };
  alike =
      subst (λ s. DoesAlike design fault good s event) (sym own_is)
      (does-own design fault writes good (bare good faulty) event elsewhere
      (laws.does design fault (apart_values values) good (bare good faulty) event beside passes
      (laws.accesses design fault (apart_values values) good (bare good faulty) event beside passes (nets-elsewhere design values good (bare good faulty) event))));
}
  where
    side : StandBeside (within_writes values writes good) good faulty
    side = laws.side (within_writes values writes good) good faulty l

    good_fits : FitsDesign (good_machine design) good
    good_fits = laws.fit (good_machine design) good rules good_in

    own_fits : FitsDesign (faulty_machine design fault) faulty
    own_fits = laws.fit (faulty_machine design fault) faulty rules own_in

    at : (p : ℕ) → process_at faulty p ≡ with_writes (writes p) (process_at good p)
    at p = l.within.processes p ∙ found-with (writes p) (process_at good p)

    own_is : faulty ≡ with_own writes (bare good faulty)
    own_is =
        ap (λ (ps : List ProcessState). record faulty { processes = ps })
        (all-are writes 0 faulty.processes good.processes l.within.process_count
        (λ k. at k ∙ (let z : k ≡ 0 + k = omega arith in ap (λ m. with_writes (writes m) (process_at good k)) z)))

    beside : AreBeside (apart_values values) good (bare good faulty)
    beside = record {
      times = l.time;
      nodes = side.beside.nodes;
      value_count = side.beside.value_count;
      values = side.beside.values;
      process_count = refl;
      processes = λ p h. refl;
      ready = λ p. refl;
      lanes = λ p. refl;
    }

    passes : EventPasses design fault (apart_values values) good (bare good faulty) event
    passes =
        laws.free design fault (apart_values values) good (bare good faulty) event beside
        (λ number node here agree. laws.rest (faulty_machine design fault) number node good.values faulty.values rules here good_fits.widths own_fits.widths agree)
        (event-free design fault values good (bare good faulty) event free)

    gone : GoOnBeside design fault (apart_values values) good (bare good faulty) (event ∷ [])
    gone = (laws.pass design fault (apart_values values) good (bare good faulty) (event ∷ []) beside (first, tt) (passes, tt)).1

    later : State
    later = after (good_machine design) good event

    other : State
    other = after (faulty_machine design fault) (bare good faulty) event

    behind : AreBeside (apart_values values) (after (good_machine design) good event) (after (faulty_machine design fault) (bare good faulty) event)
    behind = gone.beside

    moved : after (faulty_machine design fault) faulty event ≡ with_own writes (after (faulty_machine design fault) (bare good faulty) event)
    moved = ap (λ s. after (faulty_machine design fault) s event) own_is ∙ after-own (faulty_machine design fault) writes (bare good faulty) event elsewhere

    same : (after (faulty_machine design fault) (bare good faulty) event).processes ≡ (after (good_machine design) good event).processes
    same = same-processes other.processes later.processes (sym behind.process_count) (λ k. sym (behind.processes k refl))

    numbered-length : length (all_with writes 0 other.processes) ≡ length later.processes
    numbered-length = all-length 0 other.processes ∙ ap length same
      where
        all-length : (n : ℕ) (ys : List ProcessState) → length (all_with writes n ys) ≡ length ys
        all-length n [] = refl
        all-length n (y ∷ ys) = ap suc (all-length (n + 1) ys)

    value : (object : ℕ) (own : Option LogicValue) → values object ≡ own →
        value_at (after (faulty_machine design fault) faulty event).values object ≡ found_or (value_at (after (good_machine design) good event).values object) own
    value object None e =
        ap (λ (s : State). value_at s.values object) moved ∙ sym (behind.values object (ap is_some e))
    value object (Some own) e =
        ap (λ (s : State). value_at s.values object) moved ∙ gone.faulty_keeps.values object (ap is_some e) ∙ l.within.values object ∙ ap (found_or (value_at good.values object)) e

    counts : ChangesOnly (parts_of (good_machine design) good event) good (after (good_machine design) good event)
    counts = laws.changes (good_machine design) good event good_fits.parts.nodes

    process : (p : ℕ) →
        process_at (after (faulty_machine design fault) faulty event) p
        ≡ found_or (process_at (after (good_machine design) good event) p)
        (option_map (λ (own : OwnWrites). with_writes (Some own) (process_at (after (good_machine design) good event) p)) (writes p))
    process p =
        ap (λ (s : State). process_at s p) moved ∙ ap (λ (ps : List ProcessState). found_or idle_process (slice_get (all_with writes 0 ps) p)) same ∙ with-later (cases_lt p (length later.processes))
        ∙ sym (found-with (writes p) (process_at later p))
      where
        with-later : (p < length (after (good_machine design) good event).processes) ⊎ (length (after (good_machine design) good event).processes ≤ p) →
            found_or idle_process (slice_get (all_with writes 0 (after (good_machine design) good event).processes) p) ≡ with_writes (writes p) (process_at (after (good_machine design) good event) p)
        with-later (inl low) =
            all-at writes 0 later.processes p low ∙ (let z : 0 + p ≡ p = omega arith in ap (λ m. with_writes (writes m) (process_at later p)) z)
        with-later (inr past) =
            let good_past : length good.processes ≤ p = (let c : length later.processes ≡ length good.processes = counts.process_count in omega (arith, c, past)) in
            let own_past : length faulty.processes ≤ p = (let c : length faulty.processes ≡ length good.processes = l.within.process_count in omega (arith, c, good_past)) in
            all-past writes 0 later.processes p past ∙ sym (past-idle faulty.processes p own_past) ∙ at p
            ∙ ap (with_writes (writes p)) (past-idle good.processes p good_past ∙ sym (past-idle later.processes p past))

    differs : (p : ℕ) (own : ProcessState) (kept : Option OwnWrites) → writes p ≡ kept →
        option_map (λ (o : OwnWrites). with_writes (Some o) (process_at (after (good_machine design) good event) p)) (writes p) ≡ Some own →
        DiffersInWrites (process_at (after (good_machine design) good event) p) own
    differs p own None e is = absurd (let no : None ≡ Some own = sym (ap (option_map (λ (o : OwnWrites). with_writes (Some o) (process_at later p))) e) ∙ is in cc)
    differs p own (Some o) e is =
        subst (DiffersInWrites (process_at later p)) (found (with_writes (Some o) (process_at later p)) own (sym (ap (option_map (λ (w : OwnWrites). with_writes (Some w) (process_at later p))) e) ∙ is))
        (record {
          activity = refl;
          due = old.due ∙ ap due_times (sym keeps.0);
          lane = old.lane ∙ ap length (sym keeps.1);
        })
      where
        found : (x y : ProcessState) → Some x ≡ Some y → x ≡ y
        found x y h = ap (found_or x) h

        old : DiffersInWrites (process_at good p) (with_writes (Some o) (process_at good p))
        old = l.processes p (with_writes (Some o) (process_at good p)) (ap (option_map (λ (w : OwnWrites). with_writes (Some w) (process_at good p))) e)

        keeps : ((process_at (after (good_machine design) good event) p).later ≡ (process_at good p).later) × ((process_at (after (good_machine design) good event) p).lane ≡ (process_at good p).lane)
        keeps = keeps-writes (good_machine design) writes good event p o e elsewhere

-- Several events

pub writes_pass : PassLaws → WritesPass
writes_pass laws design fault values writes good faulty [] rules l good_in own_in first free elsewhere = record { first = tt; lockstep = l; alike = tt }
writes_pass laws design fault values writes good faulty (event ∷ events) rules l good_in own_in first free elsewhere =
    let one = one-passes laws design fault values writes good faulty event rules l good_in own_in first.0 free.0 elsewhere.0 in
    let rest = writes_pass laws design fault values writes (after (good_machine design) good event) (after (faulty_machine design fault) faulty event) events rules one.lockstep
    (phase-more (good_machine design) good event good_in) (phase-more (faulty_machine design fault) faulty event own_in) first.1 free.1 elsewhere.1 in
    record { first = (one.first, rest.first); lockstep = rest.lockstep; alike = (one.alike, rest.alike) }

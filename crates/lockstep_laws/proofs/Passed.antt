-- Events of the good machine that touch nothing in which a faulty machine in lockstep differs.
use Rattle.std.proofs.Common.{◌≡◌, ℕ, List, [], ◌∷◌, Bool, true, false, ◌||◌, refl, sym, ap, subst, ◌∙◌, inl, inr}
use Rattle.std.specs.Prelude.{Option, Some, None, is_some, nat_eq}
use Rattle.std.proofs.lemmas.Bool.{cases_eq, eq-eqb, ne_eqb}
use Rattle.vf_base.specs.Lists.{AllHold, has}
use Rattle.v_design.specs.Trees.{Entry}
use Rattle.v_design.specs.Designs.{FlatDesign, StuckAt, good_machine, faulty_machine}
use Rattle.v_design.specs.Assignments.{ValueUpdate}
use Rattle.v_design.specs.Processes.{Activity, Action, ReadsObject, WritesObject, AppendsUpdate, TouchesNothing}
use Rattle.v_design.specs.States.{State, ProcessState, Event, Step, LaneStep, Evaluation, NetUpdate, after, process_at, first_update, some_entry, step_of}
use Rattle.v_design.specs.Accesses.{waiting_entries}
use Rattle.v_design.specs.Runs.{happened}
use Rattle.v_design.specs.WellFormed.{KeepsRules}
use Rattle.order_laws.specs.NodesRest as nodes
use Rattle.copy_laws.specs.Beside.{Apart, AreFirst, Keeps, EventPasses, GoOnBeside, UntouchedEventsPass}
use Rattle.copy_laws.specs.Touches as touches
use Rattle.copy_laws.specs.Touches.{IsFree, UpdateIsFree, ActionIsFree, EventIsFree, FreeEventsPass}
use Rattle.copy_laws.specs.QuietPhases.{NetsAreNotAwaited, UntouchedAccessesAreAlike, UntouchedEventsDoAlike}
use Rattle.copy_laws.specs.Moves.{Within, IsWithin, MayJump, apart_within, WithinStays}
use Rattle.lockstep_laws.specs.Lockstep.{DiffersInWrites, AreInLockstep, StandBeside, LockstepIsBeside}
use Rattle.lockstep_laws.specs.Phases.{IsInPhase, PhasesFit}
use Rattle.lockstep_laws.proofs.Lists.{none-either, all-map}
use Rattle.lockstep_laws.proofs.Phases.{phase-more}
use Rattle.lockstep_laws.specs.Passing.{PassTogether, LockstepPasses}

-- the laws on which this stands
pub record PassLaws : Type 0 where
  pub fit : PhasesFit
  pub side : LockstepIsBeside
  pub pass : UntouchedEventsPass
  pub free : FreeEventsPass
  pub accesses : UntouchedAccessesAreAlike
  pub does : UntouchedEventsDoAlike
  pub stays : WithinStays
  pub rest : nodes.NodesRestOnInputs

-- An event that is free beside the good state is free beside a faulty one in which each process does the same

-- each process does the same in two states
abbrev DoTheSame : State → State → Type 0
DoTheSame good faulty = (process : ℕ) → (process_at faulty process).activity ≡ (process_at good process).activity

object-free : (apart : Apart) (good faulty : State) → DoTheSame good faulty → (object : ℕ) → IsFree apart good good object → IsFree apart good faulty object
object-free apart good faulty same object f = record {
  agrees = f.agrees;
  good_elsewhere = f.good_elsewhere;
  faulty_elsewhere = λ p h. ap (λ (a : Activity). some_entry (λ (entry : Entry). nat_eq entry.object object) (waiting_entries a)) (same p) ∙ f.faulty_elsewhere p h;
}

update-free : (design : FlatDesign) (fault : StuckAt) (apart : Apart) (good faulty : State) → DoTheSame good faulty → (update : Option ValueUpdate) →
    UpdateIsFree design fault apart good good update → UpdateIsFree design fault apart good faulty update
update-free design fault apart good faulty same None f = tt
update-free design fault apart good faulty same (Some update) f = (f.0, object-free apart good faulty same update.object f.1)

action-free : (design : FlatDesign) (fault : StuckAt) (apart : Apart) (good faulty : State) → DoTheSame good faulty → (action : Action) →
    ActionIsFree design fault apart good good action → ActionIsFree design fault apart good faulty action
action-free design fault apart good faulty same (ReadsObject object) f = f
action-free design fault apart good faulty same (WritesObject update) f = (f.0, object-free apart good faulty same update.object f.1)
action-free design fault apart good faulty same (AppendsUpdate delay update) f = tt
action-free design fault apart good faulty same TouchesNothing f = tt

event-free : (design : FlatDesign) (fault : StuckAt) (apart : Apart) (good faulty : State) → DoTheSame good faulty → (event : Event) →
    EventIsFree design fault apart good good event → EventIsFree design fault apart good faulty event
event-free design fault apart good faulty same (Step process) f = (f.0, action-free design fault apart good faulty same (step_of (good_machine design) good process).action f.1)
event-free design fault apart good faulty same (LaneStep process) f = (f.0, update-free design fault apart good faulty same (first_update (process_at good process).lane) f.1)
event-free design fault apart good faulty same (Evaluation number) f = f
event-free design fault apart good faulty same (NetUpdate number) f =
    λ node at. all-map (IsFree apart good good) (IsFree apart good faulty) node.outputs (λ object h. object-free apart good faulty same object h) (f node at)

-- No process that is apart waits for a net that a free event updates

or-none : (b c : Bool) → b ≡ false → c ≡ false → (b || c) ≡ false
or-none true c e f = cc
or-none false c e f = f

eq-turned : (a b : ℕ) → nat_eq a b ≡ nat_eq b a
eq-turned a b = elim (cases_eq a b) [ inl e ↦ eq-eqb a b e ∙ sym (eq-eqb b a (sym e)) | inr other ↦ ne_eqb a b other ∙ sym (ne_eqb b a (λ e. other (sym e))) ]

-- no entry of a wait is on one of some objects, where none is on any of them
none-awaits : (objects : List ℕ) (entries : List Entry) → AllHold (λ object. some_entry (λ (entry : Entry). nat_eq entry.object object) entries ≡ false) objects →
    some_entry (λ (entry : Entry). has objects entry.object) entries ≡ false
none-awaits objects [] all = refl
none-awaits objects (entry ∷ entries) all =
    or-none (has objects entry.object) (some_entry (λ (e : Entry). has objects e.object) entries) (first objects all)
    (none-awaits objects entries
    (all-map (λ object. some_entry (λ (e : Entry). nat_eq e.object object) (entry ∷ entries) ≡ false) (λ object. some_entry (λ (e : Entry). nat_eq e.object object) entries ≡ false) objects
    (λ object h. (none-either (nat_eq entry.object object) (some_entry (λ (e : Entry). nat_eq e.object object) entries) h).1) all))
  where
    first : (xs : List ℕ) → AllHold (λ object. some_entry (λ (e : Entry). nat_eq e.object object) (entry ∷ entries) ≡ false) xs → has xs entry.object ≡ false
    first [] h = refl
    first (x ∷ xs) h =
        or-none (nat_eq x entry.object) (has xs entry.object)
        (eq-turned x entry.object ∙ (none-either (nat_eq entry.object x) (some_entry (λ (e : Entry). nat_eq e.object x) entries) h.0).0) (first xs h.1)

nets-elsewhere : (design : FlatDesign) (fault : StuckAt) (apart : Apart) (good faulty : State) (event : Event) → EventIsFree design fault apart good faulty event →
    NetsAreNotAwaited design apart good faulty event
nets-elsewhere design fault apart good faulty (Step process) f = tt
nets-elsewhere design fault apart good faulty (LaneStep process) f = tt
nets-elsewhere design fault apart good faulty (Evaluation number) f = tt
nets-elsewhere design fault apart good faulty (NetUpdate number) f = λ node at. (
  λ p h.
      none-awaits node.outputs (waiting_entries (process_at good p).activity)
      (all-map (IsFree apart good faulty) (λ object. some_entry (λ (e : Entry). nat_eq e.object object) (waiting_entries (process_at good p).activity) ≡ false) node.outputs
      (λ object free. free.good_elsewhere p h) (f node at)),
  λ p h.
      none-awaits node.outputs (waiting_entries (process_at faulty p).activity)
      (all-map (IsFree apart good faulty) (λ object. some_entry (λ (e : Entry). nat_eq e.object object) (waiting_entries (process_at faulty p).activity) ≡ false) node.outputs
      (λ object free. free.faulty_elsewhere p h) (f node at)),
)

-- Lockstep over a jump

is-apart : (d : Within) (p : ℕ) (own : ProcessState) → d.processes p ≡ Some own → (apart_within d).processes p ≡ true
is-apart d p own e = ap is_some e

jumped : WithinStays → (design : FlatDesign) (fault : StuckAt) (d : Within) (good faulty : State) (events : List Event) → AreInLockstep d good faulty → MayJump d good faulty →
    GoOnBeside design fault (apart_within d) good faulty events → AreInLockstep d (happened (good_machine design) good events) (happened (faulty_machine design fault) faulty events)
jumped law design fault d good faulty events l m g = record {
  within = stays.0;
  time = stays.1.times;
  nodes = l.nodes;
  processes = λ p own e. subst (λ (s : ProcessState). DiffersInWrites s own) (sym (g.good_keeps.processes p (is-apart d p own e))) (l.processes p own e);
}
  where
    stays : IsWithin d (happened (good_machine design) good events) (happened (faulty_machine design fault) faulty events)
        × MayJump d (happened (good_machine design) good events) (happened (faulty_machine design fault) faulty events)
    stays = law design fault d good faulty events l.within m g

-- One event

event-together : PassLaws → (design : FlatDesign) (fault : StuckAt) (d : Within) (good faulty : State) (event : Event) → KeepsRules design → AreInLockstep d good faulty →
    IsInPhase (good_machine design) good → IsInPhase (faulty_machine design fault) faulty → AreFirst (good_machine design) good (event ∷ []) →
    EventIsFree design fault (apart_within d) good good event → PassTogether design fault d good faulty (event ∷ [])
event-together laws design fault d good faulty event rules l good_in own_in first free = record {
  first = gone.0;
  lockstep = jumped laws.stays design fault d good faulty (event ∷ []) l side.jump gone.1;
  beside = gone.1;
  alike = (
    laws.does design fault (apart_within d) good faulty event side.beside passes
        (laws.accesses design fault (apart_within d) good faulty event side.beside passes (nets-elsewhere design fault (apart_within d) good faulty event free_here)),
    tt,
  );
}
  where
    side : StandBeside d good faulty
    side = laws.side d good faulty l

    free_here : EventIsFree design fault (apart_within d) good faulty event
    free_here = event-free design fault (apart_within d) good faulty (λ p. (side.processes p).activity) event free

    rest : touches.NodesRestOnInputs design fault good faulty
    rest = λ number node here agree.
        laws.rest (faulty_machine design fault) number node good.values faulty.values rules here (laws.fit (good_machine design) good rules good_in).widths
        (laws.fit (faulty_machine design fault) faulty rules own_in).widths agree

    passes : EventPasses design fault (apart_within d) good faulty event
    passes = laws.free design fault (apart_within d) good faulty event side.beside rest free_here

    gone : AreFirst (faulty_machine design fault) faulty (event ∷ []) × GoOnBeside design fault (apart_within d) good faulty (event ∷ [])
    gone = laws.pass design fault (apart_within d) good faulty (event ∷ []) side.beside first (passes, tt)

-- Several events

keeps-then : (apart : Apart) (one two three : State) → Keeps apart one two → Keeps apart two three → Keeps apart one three
keeps-then apart one two three k l = record { values = λ x h. k.values x h ∙ l.values x h; processes = λ p h. k.processes p h ∙ l.processes p h }

keeps-all : (apart : Apart) (state : State) → Keeps apart state state
keeps-all apart state = record { values = λ x h. refl; processes = λ p h. refl }

pub lockstep_passes : PassLaws → LockstepPasses
lockstep_passes laws design fault d good faulty [] rules l good_in own_in first free = record {
  first = tt;
  lockstep = l;
  beside = record {
    beside = (laws.side d good faulty l).beside;
    good_keeps = keeps-all (apart_within d) good;
    faulty_keeps = keeps-all (apart_within d) faulty;
  };
  alike = tt;
}
lockstep_passes laws design fault d good faulty (event ∷ events) rules l good_in own_in first free =
    let one = event-together laws design fault d good faulty event rules l good_in own_in (first.0, tt) free.0 in
    let rest = lockstep_passes laws design fault d (after (good_machine design) good event) (after (faulty_machine design fault) faulty event) events rules one.lockstep
    (phase-more (good_machine design) good event good_in) (phase-more (faulty_machine design fault) faulty event own_in) first.1 free.1 in
    record {
      first = (one.first.0, rest.first);
      lockstep = rest.lockstep;
      beside = record {
        beside = rest.beside.beside;
        good_keeps =
            keeps-then (apart_within d) (happened (good_machine design) (after (good_machine design) good event) events) (after (good_machine design) good event) good
            rest.beside.good_keeps one.beside.good_keeps;
        faulty_keeps =
            keeps-then (apart_within d) (happened (faulty_machine design fault) (after (faulty_machine design fault) faulty event) events) (after (faulty_machine design fault) faulty event) faulty
            rest.beside.faulty_keeps one.beside.faulty_keeps;
      };
      alike = (one.alike.0, rest.alike);
    }

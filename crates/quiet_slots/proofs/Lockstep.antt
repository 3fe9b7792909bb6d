-- The good machine and the faulty one event by event and turn by turn through a slot in which nothing touches what differs.
use Rattle.std.proofs.Common.{◌≡◌, ℕ, ◌+◌, ◌≤◌, List, [], ◌∷◌, ◌++◌, Bool, true, false, refl, sym, ap, subst, ◌∙◌}
use Rattle.std.specs.Prelude.{Option, Some, None, is_some}
use Rattle.vf_base.specs.Lists.{AllHold}
use Rattle.v_design.specs.Assignments.{value_at}
use Rattle.v_design.specs.Designs.{FlatDesign, Machine, StuckAt, good_machine, faulty_machine}
use Rattle.v_design.specs.States.{State, ProcessState, Event, TurnKind, PostponedTurn, UpdatesTurn, TimeTurn, after, process_at, found_or, is_ready, is_any, is_postponed, wake_time}
use Rattle.v_design.specs.States.{due_time, turn_of, turned}
use Rattle.v_design.specs.Accesses.{held_by, held_accesses}
use Rattle.v_design.specs.PhaseLogs.{phase_race}
use Rattle.v_design.specs.Runs.{Turns, first_event, happened, turn_in_slot, most_steps}
use Rattle.v_design.specs.Grades.{Phase}
use Rattle.v_design.specs.WellFormed.{KeepsRules}
use Rattle.order_laws.specs.NodesRest as nodes
use Rattle.machine_laws.specs.SlotLoop.{Moment, ComesTo, EventsGoOn, TurnsGoOn, QuietSlotsEnd, SlotsBegin, after_event, after_turn, present_phase, phases_so_far}
use Rattle.copy_laws.specs.Beside.{Apart, AreBeside, AreFirst, Keeps, EventPasses, GoOnBeside, FirstEventsAreOne, UntouchedEventsPass}
use Rattle.copy_laws.specs.Touches as touches
use Rattle.copy_laws.specs.Touches.{EventIsFree, FreeEventsPass}
use Rattle.copy_laws.specs.QuietPhases.{DoesAlike, AllDoAlike, UntouchedAccessesAreAlike, UntouchedEventsDoAlike, AlikePhasesLogAlike}
use Rattle.copy_laws.specs.Moves.{Within, IsWithin, MayJump, apart_within, WithinIsBeside, WithinStays}
use Rattle.copy_laws.specs.Turns.{SleepsPast, SleepsOn, KeptSleepOn, TurnsPass}
use Rattle.copy_laws.specs.Differences.{Differences, own_of, apart_of}
use Rattle.copy_laws.specs.Rest.{with_own, within_of}
use Rattle.quiet_slots.proofs.FirstSlots.{idle-at}
use Rattle.quiet_slots.proofs.Rests.{after-lower, after-due}
use Rattle.quiet_slots.proofs.Untouched.{event-free, nets-elsewhere, held-alike}
use Rattle.quiet_slots.proofs.Wide.{IsWide, after-wide, turned-wide}

-- the laws on which a walk stands
pub record WalkLaws : Type 0 where
  pub first : FirstEventsAreOne
  pub pass : UntouchedEventsPass
  pub free : FreeEventsPass
  pub accesses : UntouchedAccessesAreAlike
  pub does : UntouchedEventsDoAlike
  pub logs : AlikePhasesLogAlike
  pub beside : WithinIsBeside
  pub jump : WithinStays
  pub turns : TurnsPass
  pub nodes_rest : nodes.NodesRestOnInputs
  pub begin : SlotsBegin
  pub event : EventsGoOn
  pub turn : TurnsGoOn
  pub quiet : QuietSlotsEnd

-- What is kept

-- a process that stays as it is until a time, whatever turns come by then
pub record StillSleeps (until : ℕ) (process : ProcessState) : Type 0 where
  pub not_ready : is_ready process.activity ≡ false
  pub not_postponed : is_postponed process.activity ≡ false
  pub no_lane : is_any process.lane ≡ false
  pub past : SleepsPast (TimeTurn until) process

-- a good and a faulty state with these differences, in which each process that is kept stays as it is until a time
pub record Kept (design : FlatDesign) (d : Differences) (until : ℕ) (good own : State) : Type 0 where
  pub within : IsWithin (within_of d good) good own
  pub good_sleeps : (process : ℕ) → (apart_of d).processes process ≡ true → StillSleeps until (process_at good process)
  pub own_sleeps : (process : ℕ) → (apart_of d).processes process ≡ true → StillSleeps until (process_at own process)
  pub held : (process : ℕ) → (apart_of d).processes process ≡ true → held_by design process (process_at good process) ≡ held_by design process (process_at own process)

-- the states are apart where something is kept
pub apart-is : (d : Differences) (good : State) → apart_within (within_of d good) ≡ apart_of d
apart-is d good = λ i. record { objects = λ object. is_some (own_of d.values object); processes = λ p. some-if ((apart_of d).processes p) (with_own d good p) i }
  where
    some-if : (b : Bool) (own : ProcessState) → is_some (elim b as (λ _. Option ProcessState) [ true ↦ Some own | false ↦ None ]) ≡ b
    some-if true own = refl
    some-if false own = refl

-- what is kept of a process, and where nothing is
pub kept-own : (d : Differences) (good : State) (p : ℕ) → (apart_of d).processes p ≡ true → (within_of d good).processes p ≡ Some (with_own d good p)
kept-own d good p h = ap (λ (b : Bool). elim b as (λ _. Option ProcessState) [ true ↦ Some (with_own d good p) | false ↦ None ]) h

pub kept-none : (d : Differences) (good : State) (p : ℕ) → (apart_of d).processes p ≡ false → (within_of d good).processes p ≡ None
kept-none d good p h = ap (λ (b : Bool). elim b as (λ _. Option ProcessState) [ true ↦ Some (with_own d good p) | false ↦ None ]) h

pub own-is : (d : Differences) (good0 good faulty : State) → IsWithin (within_of d good0) good faulty → (p : ℕ) → (apart_of d).processes p ≡ true → process_at faulty p ≡ with_own d good0 p
own-is d good0 good faulty w p h = w.processes p ∙ ap (found_or (process_at good p)) (kept-own d good0 p h)

pub same-is : (d : Differences) (good0 good faulty : State) → IsWithin (within_of d good0) good faulty → (p : ℕ) → (apart_of d).processes p ≡ false → process_at faulty p ≡ process_at good p
same-is d good0 good faulty w p h = w.processes p ∙ ap (found_or (process_at good p)) (kept-none d good0 p h)

-- a process of which something is kept
record IsKept (d : Differences) (good : State) (p : ℕ) (own : ProcessState) : Type 0 where
  apart : (apart_of d).processes p ≡ true
  is : own ≡ with_own d good p

some-process : (one other : ProcessState) → Some one ≡ Some other → one ≡ other
some-process one other e = cc

is-kept : (d : Differences) (good : State) (p : ℕ) (own : ProcessState) → (within_of d good).processes p ≡ Some own → IsKept d good p own
is-kept d good p own e = go ((apart_of d).processes p) refl
  where
    go : (b : Bool) → (apart_of d).processes p ≡ b → IsKept d good p own
    go true h = record { apart = h; is = some-process own (with_own d good p) (sym e ∙ kept-own d good p h) }
    go false h = absurd (let no : None ≡ Some own = sym (kept-none d good p h) ∙ e in cc)

-- Where both stand

-- both machines stand beside each other at a moment of the faulty machine's slot: the good machine's phase began in a state and took the same events
pub record InStep (design : FlatDesign) (fault : StuckAt) (d : Differences) (good0 : State) (phase_begins good : State) (at : Moment) : Type 0 where
  pub within : IsWithin (within_of d good0) good at.state
  pub jump : MayJump (within_of d good0) good at.state
  pub keeps : Keeps (apart_of d) good good0
  pub comes : ComesTo (faulty_machine design fault) at
  pub good_wide : IsWide design good
  pub own_wide : IsWide design at.state
  pub happened_so_far : good ≡ happened (good_machine design) phase_begins at.events
  pub alike : AllDoAlike design fault phase_begins at.phase_begins at.events
  pub held : held_accesses (good_machine design) phase_begins ≡ held_accesses (faulty_machine design fault) at.phase_begins
  pub clean : AllHold (λ (phase : Phase). phase_race (faulty_machine design fault) phase.begins phase.events ≡ None) at.ended

-- An event

happened-more : (machine : Machine) (state : State) (events : List Event) (event : Event) →
    happened machine state (events ++ event ∷ []) ≡ after machine (happened machine state events) event
happened-more machine state [] event = refl
happened-more machine state (first ∷ events) event = happened-more machine (after machine state first) events event

alike-more : (design : FlatDesign) (fault : StuckAt) (good faulty : State) (events : List Event) (event : Event) → AllDoAlike design fault good faulty events →
    DoesAlike design fault (happened (good_machine design) good events) (happened (faulty_machine design fault) faulty events) event → AllDoAlike design fault good faulty (events ++ event ∷ [])
alike-more design fault good faulty [] event all does = (does, tt)
alike-more design fault good faulty (first ∷ events) event all does =
    (all.0, alike-more design fault (after (good_machine design) good first) (after (faulty_machine design fault) faulty first) events event all.1 does)

pub keeps-then : (apart : Apart) (one two three : State) → Keeps apart one two → Keeps apart two three → Keeps apart one three
keeps-then apart one two three k l = record { values = λ x h. k.values x h ∙ l.values x h; processes = λ p h. k.processes p h ∙ l.processes p h }

pub event-goes : WalkLaws → (design : FlatDesign) (fault : StuckAt) → KeepsRules design → (d : Differences) (until : ℕ) (good0 faulty0 : State) → Kept design d until good0 faulty0 →
    (phase_begins good : State) (at : Moment) → InStep design fault d good0 phase_begins good at → at.steps ≤ most_steps → (event : Event) → first_event good ≡ Some event →
    EventIsFree design fault (apart_of d) good faulty0 event →
    InStep design fault d good0 phase_begins (after (good_machine design) good event) (after_event (faulty_machine design fault) event at)
event-goes laws design fault rules d until good0 faulty0 kept phase_begins good at s few event first free0 = record {
  within = stays.0;
  jump = stays.1;
  keeps = keeps-then (apart_of d) (after (good_machine design) good event) good good0 gone.1.good_keeps s.keeps;
  comes = laws.event (faulty_machine design fault) at event rules s.comes few gone.0.0;
  good_wide = after-wide (good_machine design) rules good event s.good_wide;
  own_wide = after-wide (faulty_machine design fault) rules at.state event s.own_wide;
  happened_so_far = ap (λ x. after (good_machine design) x event) s.happened_so_far ∙ sym (happened-more (good_machine design) phase_begins at.events event);
  alike = alike-more design fault phase_begins at.phase_begins at.events event s.alike
      (subst (λ x. DoesAlike design fault x (happened (faulty_machine design fault) at.phase_begins at.events) event) s.happened_so_far
      (subst (λ x. DoesAlike design fault good x event) s.comes.happened_so_far does));
  held = s.held;
  clean = s.clean;
}
  where
    free : EventIsFree design fault (apart_of d) good at.state event
    free = event-free design fault (apart_of d) good faulty0 at.state
        (λ p h. own-is d good0 good0 faulty0 kept.within p h ∙ sym (own-is d good0 good at.state s.within p h)) event free0

    beside : AreBeside (apart_of d) good at.state
    beside = subst (λ a. AreBeside a good at.state) (apart-is d good0) (laws.beside (within_of d good0) good at.state s.within s.jump)

    rest : touches.NodesRestOnInputs design fault good at.state
    rest = λ number node here agree.
        laws.nodes_rest (faulty_machine design fault) number node good.values at.state.values rules here s.good_wide.values s.own_wide.values agree

    passes : EventPasses design fault (apart_of d) good at.state event
    passes = laws.free design fault (apart_of d) good at.state event beside rest free

    gone : AreFirst (faulty_machine design fault) at.state (event ∷ []) × GoOnBeside design fault (apart_of d) good at.state (event ∷ [])
    gone = laws.pass design fault (apart_of d) good at.state (event ∷ []) beside (first, tt) (passes, tt)

    does : DoesAlike design fault good at.state event
    does = laws.does design fault (apart_of d) good at.state event beside passes
        (laws.accesses design fault (apart_of d) good at.state event beside passes (nets-elsewhere design fault (apart_of d) good at.state event free))

    stays : IsWithin (within_of d good0) (after (good_machine design) good event) (after (faulty_machine design fault) at.state event)
        × MayJump (within_of d good0) (after (good_machine design) good event) (after (faulty_machine design fault) at.state event)
    stays = laws.jump design fault (within_of d good0) good at.state (event ∷ []) s.within s.jump
        (subst (λ a. GoOnBeside design fault a good at.state (event ∷ [])) (sym (apart-is d good0)) gone.1)

-- A turn

-- a turn leads to no later time than this
abbrev pub TurnsBy : ℕ → TurnKind → Type 0
TurnsBy until PostponedTurn = Unit {0}
TurnsBy until UpdatesTurn = Unit {0}
TurnsBy until (TimeTurn time) = time ≤ until

sleeps-past : (until : ℕ) (turn : TurnKind) (process : ProcessState) → TurnsBy until turn → SleepsPast (TimeTurn until) process → SleepsPast turn process
sleeps-past until PostponedTurn process by past = tt
sleeps-past until UpdatesTurn process by past = tt
sleeps-past until (TimeTurn time) process by past = (after-lower time until (wake_time process.activity) by past.0, after-lower time until (due_time process.later) by past.1)

pub sleeps-on : (until now : ℕ) (turn : TurnKind) (process : ProcessState) → now ≤ until → TurnsBy until turn → StillSleeps until process → SleepsOn now turn process
sleeps-on until now turn process low by s = record {
  not_postponed = s.not_postponed;
  none_due = after-due now process.later (after-lower now until (due_time process.later) low s.past.1);
  sleeps = sleeps-past until turn process by s.past;
}

pub kept-sleep : (design : FlatDesign) (d : Differences) (until : ℕ) (good0 faulty0 : State) → Kept design d until good0 faulty0 → (good : State) (turn : TurnKind) →
    Keeps (apart_of d) good good0 → good.time ≤ until → TurnsBy until turn → KeptSleepOn (within_of d good0) good turn
kept-sleep design d until good0 faulty0 kept good turn keeps low by p own e =
    let own-here = is-kept d good0 p own e in
    let one : process_at faulty0 p ≡ own = own-is d good0 good0 faulty0 kept.within p own-here.apart ∙ sym own-here.is in (
      subst (SleepsOn good.time turn) one (sleeps-on until good.time turn (process_at faulty0 p) low by (kept.own_sleeps p own-here.apart)),
      subst (SleepsOn good.time turn) (sym (keeps.processes p own-here.apart)) (sleeps-on until good.time turn (process_at good0 p) low by (kept.good_sleeps p own-here.apart)),
    )

-- the values stay, and each process that sleeps on
values-turned : (turn : TurnKind) (state : State) → (turned turn state).values ≡ state.values
values-turned PostponedTurn state = refl
values-turned UpdatesTurn state = refl
values-turned (TimeTurn time) state = refl

-- a state as itself with what some processes are in it
abbrev itself : Apart → State → Within
itself apart state = record {
  values = λ object. None;
  nodes = λ number. None;
  processes = λ p. elim (apart.processes p) as (λ _. Option ProcessState) [ true ↦ Some (process_at state p) | false ↦ None ];
}

itself-is : (apart : Apart) (state : State) → IsWithin (itself apart state) state state
itself-is apart state = record {
  value_count = refl;
  node_count = refl;
  process_count = refl;
  values = λ object. refl;
  nodes = λ number. refl;
  processes = λ p. at (apart.processes p) (process_at state p);
}
  where
    at : (b : Bool) (process : ProcessState) → process ≡ found_or process (elim b as (λ _. Option ProcessState) [ true ↦ Some process | false ↦ None ])
    at true process = refl
    at false process = refl

itself-own : (apart : Apart) (state : State) (p : ℕ) (own : ProcessState) → (itself apart state).processes p ≡ Some own → (apart.processes p ≡ true) × (process_at state p ≡ own)
itself-own apart state p own e = go (apart.processes p) refl e
  where
    go : (b : Bool) → apart.processes p ≡ b → elim b as (λ _. Option ProcessState) [ true ↦ Some (process_at state p) | false ↦ None ] ≡ Some own →
        (apart.processes p ≡ true) × (process_at state p ≡ own)
    go true h f = (h, some-process (process_at state p) own f)
    go false h f = cc

pub turned-keeps : TurnsPass → (apart : Apart) (state : State) (turn : TurnKind) → turn_of state ≡ Some turn →
    ((p : ℕ) → apart.processes p ≡ true → SleepsOn state.time turn (process_at state p)) → Keeps apart (turned turn state) state
turned-keeps law apart state turn e sleep = record {
  values = λ object h. ap (λ vs. value_at vs object) (values-turned turn state);
  processes = λ p h. stays.processes p ∙ ap (λ (b : Bool). found_or (process_at (turned turn state) p) (elim b as (λ _. Option ProcessState) [ true ↦ Some (process_at state p) | false ↦ None ])) h;
}
  where
    stays : IsWithin (itself apart state) (turned turn state) (turned turn state)
    stays = (law (itself apart state) state state turn (itself-is apart state)
        (record {
          times = refl;
          nodes = λ number. refl;
          ready = λ p own f. ap (λ (s : ProcessState). is_ready s.activity) (itself-own apart state p own f).1;
          lanes = λ p own f. ap (λ (s : ProcessState). is_any s.lane) (itself-own apart state p own f).1;
        })
        e
        (λ p own f.
        let at = itself-own apart state p own f in
        (subst (SleepsOn state.time turn) at.1 (sleep p at.0), sleep p at.0))).1

-- what both hold from a phase's beginning
pub held-same : (design : FlatDesign) (fault : StuckAt) (d : Differences) (until : ℕ) (good0 faulty0 : State) → Kept design d until good0 faulty0 → (good faulty : State) →
    IsWithin (within_of d good0) good faulty → Keeps (apart_of d) good good0 → held_accesses (good_machine design) good ≡ held_accesses (faulty_machine design fault) faulty
held-same design fault d until good0 faulty0 kept good faulty w keeps = held-alike design fault good faulty (sym w.process_count) (λ p. at p ((apart_of d).processes p) refl)
  where
    at : (p : ℕ) (b : Bool) → (apart_of d).processes p ≡ b → held_by design p (process_at good p) ≡ held_by design p (process_at faulty p)
    at p true h =
        ap (held_by design p) (keeps.processes p h) ∙ kept.held p h
        ∙ ap (held_by design p) (own-is d good0 good0 faulty0 kept.within p h ∙ sym (own-is d good0 good faulty w p h))
    at p false h = sym (ap (held_by design p) (same-is d good0 good faulty w p h))

all-append : (P : Phase → Type 0) (xs : List Phase) (x : Phase) → AllHold P xs → P x → AllHold P (xs ++ x ∷ [])
all-append P [] x all h = (h, tt)
all-append P (y ∷ xs) x all h = (all.0, all-append P xs x all.1 h)

-- the phases so far have no race, where the good machine's present one has none
pub phases-clean : AlikePhasesLogAlike → (design : FlatDesign) (fault : StuckAt) (d : Differences) (good0 phase_begins good : State) (at : Moment) →
    InStep design fault d good0 phase_begins good at → phase_race (good_machine design) phase_begins at.events ≡ None →
    AllHold (λ (phase : Phase). phase_race (faulty_machine design fault) phase.begins phase.events ≡ None) (phases_so_far at)
phases-clean law design fault d good0 phase_begins good at s none =
    all-append (λ (phase : Phase). phase_race (faulty_machine design fault) phase.begins phase.events ≡ None) at.ended (present_phase at) s.clean
    (sym (law design fault phase_begins at.phase_begins at.events s.alike s.held).1 ∙ none)

pub turn-goes : WalkLaws → (design : FlatDesign) (fault : StuckAt) → KeepsRules design → (d : Differences) (until : ℕ) (good0 faulty0 : State) → Kept design d until good0 faulty0 →
    (phase_begins good : State) (at : Moment) → InStep design fault d good0 phase_begins good at → at.steps ≤ most_steps → at.state.time ≤ until → first_event good ≡ None →
    (turn : TurnKind) → turn_of good ≡ Some turn → turn_in_slot (Some turn) ≡ Some Turns → TurnsBy until turn → phase_race (good_machine design) phase_begins at.events ≡ None →
    InStep design fault d good0 (turned turn good) (turned turn good) (after_turn turn at)
turn-goes laws design fault rules d until good0 faulty0 kept phase_begins good at s few low first turn e inside by none = record {
  within = gone.1;
  jump = gone.2;
  keeps = keeps;
  comes = laws.turn (faulty_machine design fault) at turn rules s.comes few
      (idle-at at.state (sym (laws.first (apart_of d) good at.state beside) ∙ first)) gone.0 inside;
  good_wide = turned-wide design turn good s.good_wide;
  own_wide = turned-wide design turn at.state s.own_wide;
  happened_so_far = refl;
  alike = tt;
  held = held-same design fault d until good0 faulty0 kept (turned turn good) (turned turn at.state) gone.1 keeps;
  clean = phases-clean laws.logs design fault d good0 phase_begins good at s none;
}
  where
    early : good.time ≤ until
    early = subst (λ t. t ≤ until) (sym s.jump.times) low

    beside : AreBeside (apart_of d) good at.state
    beside = subst (λ a. AreBeside a good at.state) (apart-is d good0) (laws.beside (within_of d good0) good at.state s.within s.jump)

    gone : (turn_of at.state ≡ Some turn) × IsWithin (within_of d good0) (turned turn good) (turned turn at.state) × MayJump (within_of d good0) (turned turn good) (turned turn at.state)
    gone = laws.turns (within_of d good0) good at.state turn s.within s.jump e (kept-sleep design d until good0 faulty0 kept good turn s.keeps early by)

    keeps : Keeps (apart_of d) (turned turn good) good0
    keeps = keeps-then (apart_of d) (turned turn good) good good0
        (turned-keeps laws.turns (apart_of d) good turn e
        (λ p h. subst (SleepsOn good.time turn) (sym (s.keeps.processes p h)) (sleeps-on until good.time turn (process_at good0 p) early by (kept.good_sleeps p h))))
        s.keeps

-- A slot of the faulty machine beside a slot of the good one in which nothing touches what differs.
use Rattle.std.proofs.Common.{◌≡◌, ℕ, zero, suc, ◌+◌, ◌≤◌, List, [], ◌∷◌, Bool, true, false, not, ◌&&◌, refl, sym, ap, subst, ◌∙◌, arith}
use Rattle.std.specs.Prelude.{Option, Some, None, is_some, cond}
use Rattle.std.proofs.lemmas.List.Sums.{sum_by-append}
use Rattle.vf_base.specs.Lists.{AllHold, first_place, earlier_place}
use Rattle.v_design.specs.Designs.{FlatDesign, StuckAt, good_machine, faulty_machine}
use Rattle.v_design.specs.States.{State, NodeState, ProcessState, Event, Step, LaneStep, Evaluation, NetUpdate, TurnKind, PostponedTurn, UpdatesTurn, TimeTurn, after, process_at, is_ready, is_any}
use Rattle.v_design.specs.States.{has_event, has_work, some_in, is_quiescent, is_postponed, is_due, turn_of, due_time}
use Rattle.v_design.specs.PhaseLogs.{phase_race}
use Rattle.v_design.specs.Runs.{Move, Happens, Turns, work_of, least_work, or_event, named_event, first_event, turn_in_slot, event_or_turn, turned_by, made, all_made, is_counted, counted_steps}
use Rattle.v_design.specs.Runs.{less_one_if, slot_moves, most_steps}
use Rattle.v_design.specs.Grades.{Phase, cut}
use Rattle.v_design.specs.WellFormed.{KeepsRules}
use Rattle.machine_laws.specs.SlotLoop.{Moment, EndsAt, steps_of, after_event, after_turn, phases_so_far}
use Rattle.copy_laws.specs.Beside.{AreBeside, Keeps}
use Rattle.copy_laws.specs.Touches.{EventIsFree}
use Rattle.copy_laws.specs.Moves.{IsWithin}
use Rattle.copy_laws.specs.Differences.{Differences, apart_of}
use Rattle.copy_laws.specs.Rest.{within_of}
use Rattle.trace_window.specs.Moments.{Seen}
use Rattle.quiet_slots.specs.SlotMoves.{seen_moves}
use Rattle.quiet_slots.proofs.FirstSlots.{idle-at, moves_from}
use Rattle.quiet_slots.proofs.Rests.{or-neither, NoneTurns, none-turns, turn-outside, after-lower, after-due}
use Rattle.quiet_slots.proofs.Lockstep.{WalkLaws, Kept, InStep, TurnsBy, apart-is, own-is, same-is, event-goes, turn-goes, phases-clean}

-- Where no event is possible the first order takes none

no-work : (n : ℕ) (nodes : List NodeState) → some_in has_work nodes ≡ false → work_of n nodes ≡ None
no-work n [] e = refl
no-work n (node ∷ nodes) e =
    let parts = or-neither (has_work node) (some_in has_work nodes) e in
    let own = or-neither node.marked (is_some node.pending) parts.0 in
    λ i. least_work n (own.0 i) (own.1 i) (no-work (n + 1) nodes parts.1 i)

no-place : (test : ProcessState → Bool) (xs : List ProcessState) → ((p : ProcessState) → has_event p ≡ false → test p ≡ false) → some_in has_event xs ≡ false → first_place test xs ≡ None
no-place test [] h e = refl
no-place test (x ∷ xs) h e =
    let parts = or-neither (has_event x) (some_in has_event xs) e in
    λ i. earlier_place (h x parts.0 i) (no-place test xs h parts.1 i)

quiet-both : (b c : Bool) → (not b && not c) ≡ true → (b ≡ false) × (c ≡ false)
quiet-both true c e = cc
quiet-both false true e = cc
quiet-both false false e = (refl, refl)

pub no-first : (state : State) → is_quiescent state ≡ true → first_event state ≡ None
no-first state e =
    let parts = quiet-both (some_in has_event state.processes) (some_in has_work state.nodes) e in
    λ i. or_event (no-work 0 state.nodes parts.1 i)
    (or_event (named_event LaneStep (no-place (λ (p : ProcessState). is_any p.lane) state.processes (λ p h. (or-neither (is_ready p.activity) (is_any p.lane) h).1) parts.0 i))
    (named_event Step (no-place (λ (p : ProcessState). is_ready p.activity) state.processes (λ p h. (or-neither (is_ready p.activity) (is_any p.lane) h).0) parts.0 i)))

-- What the good machine has left of its slot

-- the moves that are left, from a state of a phase that began in another and took some events: nothing in them touches what differs, and no phase has a race
pub record IsLeft (design : FlatDesign) (fault : StuckAt) (d : Differences) (faulty0 : State) (turn : Option TurnKind) (phase_begins : State) (events : List Event) (good : State)
    (moves : List Move) (steps : ℕ) : Type 0 where
  pub few : steps + counted_steps moves ≤ most_steps
  pub free : AllHold (λ (seen : Seen). EventIsFree design fault (apart_of d) seen.before faulty0 seen.event) (seen_moves (good_machine design) good moves)
  pub clean : AllHold (λ (phase : Phase). phase_race (good_machine design) phase.begins phase.events ≡ None) (cut (good_machine design) turn phase_begins events good moves)
  pub quiescent : is_quiescent (all_made (good_machine design) good moves) ≡ true
  pub no_turn : turn_in_slot (turn_of (all_made (good_machine design) good moves)) ≡ None

-- the faulty machine's slot ends beside a good state, without a race
pub record EndsBeside (design : FlatDesign) (fault : StuckAt) (d : Differences) (good0 begins good : State) : Type 0 where
  pub at : Moment
  pub same_slot : at.begins ≡ begins
  pub ends : EndsAt (faulty_machine design fault) false at
  pub within : IsWithin (within_of d good0) good at.state
  pub keeps : Keeps (apart_of d) good good0
  pub clean : AllHold (λ (phase : Phase). phase_race (faulty_machine design fault) phase.begins phase.events ≡ None) (phases_so_far at)

counted-first : (move : Move) (moves : List Move) → counted_steps (move ∷ moves) ≡ cond (is_counted move) 1 0 + counted_steps moves
counted-first move moves = sum_by-append (λ m. cond (is_counted m) 1 0) (move ∷ []) moves ∙ ap (λ n. n + counted_steps moves) (first (is_counted move))
  where
    first : (b : Bool) → ◌≡◌ {A = ℕ} (0 + cond b 1 0) (cond b 1 0)
    first true = refl
    first false = refl

few-more : (event : Event) (steps : ℕ) (moves : List Move) → steps + counted_steps (Happens event ∷ moves) ≤ most_steps → steps + steps_of event + counted_steps moves ≤ most_steps
few-more (Step process) steps moves few = let e : counted_steps (Happens (Step process) ∷ moves) ≡ 1 + counted_steps moves = counted-first (Happens (Step process)) moves in omega (arith, few, e)
few-more (LaneStep process) steps moves few = let e : counted_steps (Happens (LaneStep process) ∷ moves) ≡ 1 + counted_steps moves = counted-first (Happens (LaneStep process)) moves in omega (arith, few, e)
few-more (Evaluation node) steps moves few = let e : counted_steps (Happens (Evaluation node) ∷ moves) ≡ 0 + counted_steps moves = counted-first (Happens (Evaluation node)) moves in omega (arith, few, e)
few-more (NetUpdate node) steps moves few = let e : counted_steps (Happens (NetUpdate node) ∷ moves) ≡ 0 + counted_steps moves = counted-first (Happens (NetUpdate node)) moves in omega (arith, few, e)

few-now : (steps : ℕ) (moves : List Move) → steps + counted_steps moves ≤ most_steps → steps ≤ most_steps
few-now steps moves few = omega (arith, few)

-- the end
ends-beside : WalkLaws → (design : FlatDesign) (fault : StuckAt) → KeepsRules design → (d : Differences) (until : ℕ) (good0 faulty0 : State) → Kept design d until good0 faulty0 →
    (turn : Option TurnKind) (phase_begins good : State) (at : Moment) → InStep design fault d good0 phase_begins good at → at.begins.time ≤ until →
    IsLeft design fault d faulty0 turn phase_begins at.events good [] at.steps → EndsBeside design fault d good0 at.begins good
ends-beside laws design fault rules d until good0 faulty0 kept turn phase_begins good at s low left = record {
  at = at;
  same_slot = refl;
  ends = laws.quiet (faulty_machine design fault) at s.comes (few-now at.steps [] left.few)
      (idle-at at.state (sym (laws.first (apart_of d) good at.state beside) ∙ no-first good left.quiescent)) (turn-outside at.state own-turns);
  within = s.within;
  keeps = s.keeps;
  clean = phases-clean laws.logs design fault d good0 phase_begins good at s left.clean.0;
}
  where
    beside : AreBeside (apart_of d) good at.state
    beside = subst (λ a. AreBeside a good at.state) (apart-is d good0) (laws.beside (within_of d good0) good at.state s.within s.jump)

    early : at.state.time ≤ until
    early = subst (λ t. t ≤ until) (sym s.comes.same_time) low

    turns : NoneTurns good.time good
    turns = none-turns good left.no_turn

    postponed : (p : ℕ) (b : Bool) → (apart_of d).processes p ≡ b → is_postponed (process_at at.state p).activity ≡ false
    postponed p true h =
        ap (λ (x : ProcessState). is_postponed x.activity) (own-is d good0 good at.state s.within p h ∙ sym (own-is d good0 good0 faulty0 kept.within p h)) ∙ (kept.own_sleeps p h).not_postponed
    postponed p false h = ap (λ (x : ProcessState). is_postponed x.activity) (same-is d good0 good at.state s.within p h) ∙ turns.not_postponed p

    due : (p : ℕ) (b : Bool) → (apart_of d).processes p ≡ b → some_in (is_due at.state.time) (process_at at.state p).later ≡ false
    due p true h =
        ap (λ (x : ProcessState). some_in (is_due at.state.time) x.later) (own-is d good0 good at.state s.within p h ∙ sym (own-is d good0 good0 faulty0 kept.within p h))
        ∙ after-due at.state.time (process_at faulty0 p).later (after-lower at.state.time until (due_time (process_at faulty0 p).later) early (kept.own_sleeps p h).past.1)
    due p false h =
        (λ i. some_in (is_due (sym s.jump.times i)) (same-is d good0 good at.state s.within p h i).later) ∙ turns.none_due p

    own-turns : NoneTurns at.state.time at.state
    own-turns = record { not_postponed = λ p. postponed p ((apart_of d).processes p) refl; none_due = λ p. due p ((apart_of d).processes p) refl }

-- The walk

abbrev WalksFrom : FlatDesign → StuckAt → Differences → ℕ → State → State → ℕ → Type 0
WalksFrom design fault d until good0 faulty0 most =
    (left : ℕ) (turn : Option TurnKind) (phase_begins good : State) (at : Moment) → InStep design fault d good0 phase_begins good at → at.begins.time ≤ until →
    IsLeft design fault d faulty0 turn phase_begins at.events good (slot_moves most left (good_machine design) good) at.steps →
    EndsBeside design fault d good0 at.begins (all_made (good_machine design) good (slot_moves most left (good_machine design) good))

-- a turn within the slot
inside-walks : WalkLaws → (design : FlatDesign) (fault : StuckAt) → KeepsRules design → (d : Differences) (until : ℕ) (good0 faulty0 : State) → Kept design d until good0 faulty0 →
    (most left : ℕ) (turn : Option TurnKind) (phase_begins good : State) (at : Moment) → InStep design fault d good0 phase_begins good at → at.begins.time ≤ until →
    WalksFrom design fault d until good0 faulty0 most → first_event good ≡ None → (next : TurnKind) → turn_of good ≡ Some next → turn_in_slot (Some next) ≡ Some Turns →
    TurnsBy until next →
    IsLeft design fault d faulty0 turn phase_begins at.events good (Turns ∷ slot_moves most (suc left) (good_machine design) (made (good_machine design) good Turns)) at.steps →
    EndsBeside design fault d good0 at.begins
    (all_made (good_machine design) good (Turns ∷ slot_moves most (suc left) (good_machine design) (made (good_machine design) good Turns)))
inside-walks laws design fault rules d until good0 faulty0 kept most left turn phase_begins good at s low rest e next t inside by l =
    rest (suc left) (turn_of good) (made (good_machine design) good Turns) (made (good_machine design) good Turns) (after_turn next at)
    (subst (λ (x : State). InStep design fault d good0 x x (after_turn next at)) (ap (λ o. turned_by o good) (sym t))
    (turn-goes laws design fault rules d until good0 faulty0 kept phase_begins good at s (few-now at.steps (slot_moves most (suc left) (good_machine design) (made (good_machine design) good Turns)) l.few)
    (subst (λ time. time ≤ until) (sym s.comes.same_time) low) e next t inside by l.clean.0))
    low
    (record { few = l.few; free = l.free; clean = l.clean.1; quiescent = l.quiescent; no_turn = l.no_turn })

turn-walks : WalkLaws → (design : FlatDesign) (fault : StuckAt) → KeepsRules design → (d : Differences) (until : ℕ) (good0 faulty0 : State) → Kept design d until good0 faulty0 →
    (most left : ℕ) (turn : Option TurnKind) (phase_begins good : State) (at : Moment) → InStep design fault d good0 phase_begins good at → at.begins.time ≤ until →
    WalksFrom design fault d until good0 faulty0 most → first_event good ≡ None → (next : Option TurnKind) → turn_of good ≡ next →
    IsLeft design fault d faulty0 turn phase_begins at.events good (moves_from most left (good_machine design) good (turn_in_slot next)) at.steps →
    EndsBeside design fault d good0 at.begins (all_made (good_machine design) good (moves_from most left (good_machine design) good (turn_in_slot next)))
turn-walks laws design fault rules d until good0 faulty0 kept most left turn phase_begins good at s low rest e None t l =
    ends-beside laws design fault rules d until good0 faulty0 kept turn phase_begins good at s low l
turn-walks laws design fault rules d until good0 faulty0 kept most left turn phase_begins good at s low rest e (Some (TimeTurn time)) t l =
    ends-beside laws design fault rules d until good0 faulty0 kept turn phase_begins good at s low l
turn-walks laws design fault rules d until good0 faulty0 kept most left turn phase_begins good at s low rest e (Some PostponedTurn) t l =
    inside-walks laws design fault rules d until good0 faulty0 kept most left turn phase_begins good at s low rest e PostponedTurn t refl tt l
turn-walks laws design fault rules d until good0 faulty0 kept most left turn phase_begins good at s low rest e (Some UpdatesTurn) t l =
    inside-walks laws design fault rules d until good0 faulty0 kept most left turn phase_begins good at s low rest e UpdatesTurn t refl tt l

move-walks : WalkLaws → (design : FlatDesign) (fault : StuckAt) → KeepsRules design → (d : Differences) (until : ℕ) (good0 faulty0 : State) → Kept design d until good0 faulty0 →
    (most left : ℕ) (turn : Option TurnKind) (phase_begins good : State) (at : Moment) → InStep design fault d good0 phase_begins good at → at.begins.time ≤ until →
    WalksFrom design fault d until good0 faulty0 most → (found : Option Event) → first_event good ≡ found →
    IsLeft design fault d faulty0 turn phase_begins at.events good (moves_from most left (good_machine design) good (event_or_turn found (turn_of good))) at.steps →
    EndsBeside design fault d good0 at.begins (all_made (good_machine design) good (moves_from most left (good_machine design) good (event_or_turn found (turn_of good))))
move-walks laws design fault rules d until good0 faulty0 kept most left turn phase_begins good at s low rest (Some event) e l =
    let more : List Move = slot_moves most (less_one_if (is_counted (Happens event)) (suc left)) (good_machine design) (after (good_machine design) good event) in
    rest (less_one_if (is_counted (Happens event)) (suc left)) turn phase_begins (after (good_machine design) good event) (after_event (faulty_machine design fault) event at)
    (event-goes laws design fault rules d until good0 faulty0 kept phase_begins good at s (few-now at.steps (Happens event ∷ more) l.few) event e l.free.0)
    low
    (record { few = few-more event at.steps more l.few; free = l.free.1; clean = l.clean; quiescent = l.quiescent; no_turn = l.no_turn })
move-walks laws design fault rules d until good0 faulty0 kept most left turn phase_begins good at s low rest None e l =
    turn-walks laws design fault rules d until good0 faulty0 kept most left turn phase_begins good at s low rest e (turn_of good) refl l

pub walks : WalkLaws → (design : FlatDesign) (fault : StuckAt) → KeepsRules design → (d : Differences) (until : ℕ) (good0 faulty0 : State) → Kept design d until good0 faulty0 → (most : ℕ) →
    WalksFrom design fault d until good0 faulty0 most
walks laws design fault rules d until good0 faulty0 kept zero left turn phase_begins good at s low l =
    ends-beside laws design fault rules d until good0 faulty0 kept turn phase_begins good at s low l
walks laws design fault rules d until good0 faulty0 kept (suc most) zero turn phase_begins good at s low l =
    ends-beside laws design fault rules d until good0 faulty0 kept turn phase_begins good at s low l
walks laws design fault rules d until good0 faulty0 kept (suc most) (suc left) turn phase_begins good at s low l =
    move-walks laws design fault rules d until good0 faulty0 kept most left turn phase_begins good at s low (walks laws design fault rules d until good0 faulty0 kept most) (first_event good) refl l

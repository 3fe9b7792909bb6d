-- The phase at a place of a fine slot: it takes the events of the first order until none is possible, has no race, and is followed by the next one; and the steps there.
use Rattle.std.proofs.Common.{◌≡◌, ℕ, ◌+◌, ◌≤◌, List, [], ◌∷◌, ◌++◌, Bool, true, false, ◌||◌, refl, sym, ap, subst, ◌∙◌, arith}
use Rattle.std.specs.Prelude.{Option, Some, None, is_some, sum_by}
use Rattle.std.proofs.lemmas.List.{append-nil}
use Rattle.std.proofs.lemmas.List.Sums.{sum_by-append, sum_by-cons}
use Rattle.vf_base.specs.Base.{ReportedPair}
use Rattle.v_design.specs.Designs.{Machine}
use Rattle.v_design.specs.States.{State, NodeState, TurnKind, PostponedTurn, UpdatesTurn, TimeTurn, Event, has_work, some_in, turned}
use Rattle.v_design.specs.Logs.{PhaseAccess}
use Rattle.v_design.specs.PhaseLogs.{phase_race}
use Rattle.v_design.specs.Runs.{Turns, FirstSlot, happened, least_work, work_of, made, most_steps, is_hyper}
use Rattle.v_design.specs.Grades.{Phase, SlotOutcome, Fine, Hyper, phases, race_of, first_race, race_or_fine, slot_outcome}
use Rattle.v_design.specs.Laws.{BeginsPhase}
use Rattle.machine_laws.specs.SlotLoop.{IsIdle, NoNodeWorks, steps_of}
use Rattle.between_slots.specs.FewLaws.{fine-few}
use Rattle.copy_laws.specs.Beside.{AreFirst}
use Rattle.phase_order.specs.Order.{IsFirstPhase, ComeNext, FollowOrder, SlotInOrder, PhasesFollow, phase_steps}
use Rattle.lockstep_slots.specs.Places.{Place, IsPlaceOf, IsFineSlot}

-- Nodes

-- where a phase begins no node has work
no-work : (start : ℕ) (nodes : List NodeState) → some_in has_work nodes ≡ false → work_of start nodes ≡ None
no-work start [] e = refl
no-work start (node ∷ nodes) e =
    let parts = neither (has_work node) (some_in has_work nodes) e in
    let own = neither node.marked (is_some node.pending) parts.0 in
    λ i. least_work start (own.0 i) (own.1 i) (no-work (start + 1) nodes parts.1 i)
  where
    neither : (b c : Bool) → (b || c) ≡ false → (b ≡ false) × (c ≡ false)
    neither true c e = cc
    neither false c e = (refl, e)

pub begun-rests : (machine : Machine) (state : State) → BeginsPhase machine state → NoNodeWorks state
begun-rests machine state asked = no-work 0 state.nodes asked.idle

pub turned-rests : (turn : TurnKind) (state : State) → NoNodeWorks state → NoNodeWorks (turned turn state)
turned-rests PostponedTurn state e = e
turned-rests UpdatesTurn state e = e
turned-rests (TimeTurn time) state e = e

-- The phase

-- a phase of the first order, with the phases that come behind it
pub record IsFollowed (machine : Machine) (phase : Phase) (later : List Phase) : Type 0 where
  pub first : AreFirst machine phase.begins phase.events
  pub idle : IsIdle (happened machine phase.begins phase.events)
  pub next : ComeNext machine (happened machine phase.begins phase.events) later

first-at : (machine : Machine) (turn : Option TurnKind) (begins : State) (phase : Phase) (later : List Phase) → IsFirstPhase machine turn begins phase →
    ComeNext machine (happened machine begins phase.events) later → IsFollowed machine phase later
first-at machine turn begins phase later is next = record {
  first = subst (λ (s : State). AreFirst machine s phase.events) (sym is.begins_is) is.first;
  idle = subst (λ (s : State). IsIdle (happened machine s phase.events)) (sym is.begins_is) is.idle;
  next = subst (λ (s : State). ComeNext machine (happened machine s phase.events) later) (sym is.begins_is) next;
}

come-at : (machine : Machine) (end : State) (ended : List Phase) (phase : Phase) (later : List Phase) → ComeNext machine end (ended ++ phase ∷ later) → IsFollowed machine phase later
come-at machine end [] phase later c = first-at machine _ (made machine end Turns) phase later c.1 c.2
come-at machine end (first ∷ ended) phase later c = come-at machine (happened machine (made machine end Turns) first.events) ended phase later c.2

follow-at : (machine : Machine) (turn : Option TurnKind) (begins : State) (ended : List Phase) (phase : Phase) (later : List Phase) → FollowOrder machine turn begins (ended ++ phase ∷ later) →
    IsFollowed machine phase later
follow-at machine turn begins [] phase later f = first-at machine turn begins phase later f.0 f.1
follow-at machine turn begins (first ∷ ended) phase later f = come-at machine (happened machine begins first.events) ended phase later f.1

in-order : PhasesFollow → (machine : Machine) (slot : FirstSlot) → IsFineSlot machine slot → SlotInOrder machine slot.begins
in-order law machine slot s = law machine slot.begins s.rules s.asked (ap is_hyper (sym s.is) ∙ fine-few machine slot s.fine)

follow-order : PhasesFollow → (machine : Machine) (slot : FirstSlot) (parts : List Phase) → IsFineSlot machine slot → phases machine slot ≡ parts → FollowOrder machine None slot.begins parts
follow-order law machine slot parts s are =
    subst (FollowOrder machine None slot.begins) (ap (phases machine) (sym s.is) ∙ are) (in-order law machine slot s).follow

pub followed : PhasesFollow → (machine : Machine) (slot : FirstSlot) (place : Place) → IsFineSlot machine slot → IsPlaceOf machine slot place → IsFollowed machine place.phase place.later
followed law machine slot place s is = follow-at machine None slot.begins place.ended place.phase place.later (follow-order law machine slot _ s is.phases_are)

pub first-phase : PhasesFollow → (machine : Machine) (slot : FirstSlot) (phase : Phase) (later : List Phase) → IsFineSlot machine slot → phases machine slot ≡ phase ∷ later →
    IsFirstPhase machine None slot.begins phase
first-phase law machine slot phase later s are = (follow-order law machine slot (phase ∷ later) s are).0

-- Its events

pub all-passed : (machine : Machine) (slot : FirstSlot) (place : Place) → IsPlaceOf machine slot place → place.left ≡ [] → place.phase.events ≡ place.passed
all-passed machine slot place is none = is.events_are ∙ ap (λ l. place.passed ++ l) none ∙ append-nil place.passed

-- Its race

-- what the first race is by that of the first phase
abbrev raced_by : Machine → ℕ → Phase → List Phase → Option (PhaseAccess × PhaseAccess) → Option ReportedPair
raced_by machine number phase rest found = elim found as (λ _. Option ReportedPair) [
  | None ↦ first_race machine (number + 1) rest
  | Some pair ↦ Some (race_of phase.begins.time number pair)
]

no-race-at : (machine : Machine) (number : ℕ) (ended : List Phase) (phase : Phase) (later : List Phase) → first_race machine number (ended ++ phase ∷ later) ≡ None →
    phase_race machine phase.begins phase.events ≡ None
no-race-at machine number [] phase later e = go (phase_race machine phase.begins phase.events) e
  where
    go : (found : Option (PhaseAccess × PhaseAccess)) → raced_by machine number phase later found ≡ None → found ≡ None
    go None f = refl
    go (Some pair) f = cc
no-race-at machine number (first ∷ ended) phase later e = go (phase_race machine first.begins first.events) e (no-race-at machine (number + 1) ended phase later)
  where
    go : (found : Option (PhaseAccess × PhaseAccess)) → raced_by machine number first (ended ++ phase ∷ later) found ≡ None →
        (first_race machine (number + 1) (ended ++ phase ∷ later) ≡ None → phase_race machine phase.begins phase.events ≡ None) → phase_race machine phase.begins phase.events ≡ None
    go None f rest = rest f
    go (Some pair) f rest = cc

fine-race : (machine : Machine) (slot : FirstSlot) → slot_outcome machine slot ≡ Fine → first_race machine 1 (phases machine slot) ≡ None
fine-race machine slot fine = none (first_race machine 1 (phases machine slot)) (sym (ap by (fine-few machine slot fine)) ∙ fine)
  where
    by : Bool → SlotOutcome
    by hyper = elim hyper as (λ _. SlotOutcome) [ true ↦ Hyper | false ↦ race_or_fine (first_race machine 1 (phases machine slot)) ]

    none : (race : Option ReportedPair) → race_or_fine race ≡ Fine → race ≡ None
    none None e = refl
    none (Some pair) e = cc

pub no-race : (machine : Machine) (slot : FirstSlot) (place : Place) → IsFineSlot machine slot → IsPlaceOf machine slot place → phase_race machine place.phase.begins place.phase.events ≡ None
no-race machine slot place s is =
    no-race-at machine 1 place.ended place.phase place.later (ap (first_race machine 1) (sym is.phases_are) ∙ fine-race machine slot s.fine)

-- Its steps

pub few-there : PhasesFollow → (machine : Machine) (slot : FirstSlot) (place : Place) (events more : List Event) → IsFineSlot machine slot → IsPlaceOf machine slot place →
    place.left ≡ events ++ more →
    sum_by phase_steps place.ended + sum_by steps_of place.passed + sum_by steps_of events + (sum_by steps_of more + sum_by phase_steps place.later) ≤ most_steps
few-there law machine slot place events more s is left =
    let total : sum_by phase_steps (phases machine slot) ≤ most_steps =
    subst (λ (x : FirstSlot). sum_by phase_steps (phases machine x) ≤ most_steps) (sym s.is) (in-order law machine slot s).few in
    let parts : sum_by phase_steps (phases machine slot) ≡ sum_by phase_steps place.ended + sum_by phase_steps (place.phase ∷ place.later) =
    ap (sum_by phase_steps) is.phases_are ∙ sum_by-append phase_steps place.ended (place.phase ∷ place.later) in
    let own : sum_by phase_steps (place.phase ∷ place.later) ≡ sum_by steps_of place.phase.events + sum_by phase_steps place.later = sum_by-cons phase_steps place.phase place.later in
    let here : sum_by steps_of place.phase.events ≡ sum_by steps_of place.passed + sum_by steps_of place.left =
    ap (sum_by steps_of) is.events_are ∙ sum_by-append steps_of place.passed place.left in
    let rest : sum_by steps_of place.left ≡ sum_by steps_of events + sum_by steps_of more = ap (sum_by steps_of) left ∙ sum_by-append steps_of events more in
    omega (arith, total, parts, own, here, rest)

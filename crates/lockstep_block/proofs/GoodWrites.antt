-- What the good machine's processes are still to write at a place of a slot, and the lane that its block steps.
use Rattle.std.proofs.Common.{◌≡◌, ℕ, ◌+◌, ◌<◌, List, [], ◌∷◌, ◌++◌, length, true, ◌||◌, sym, ap, subst, ◌∙◌, refl, arith}
use Rattle.std.specs.Prelude.{Option, Some, None}
use Rattle.std.proofs.lemmas.Bool.{eq-eqb}
use Rattle.v_design.specs.Designs.{FlatDesign, Machine, TestPlan, good_machine}
use Rattle.v_design.specs.Grades.{Phase, cut, phases}
use Rattle.v_design.specs.PhaseLogs.{is_lane_of}
use Rattle.v_design.specs.Runs.{FirstSlot, Move, Happens, Turns, first_event, first_run, named_event, or_event}
use Rattle.v_design.specs.States.{State, Event, TurnKind, Step, LaneStep, after, some_in}
use Rattle.between_slots.proofs.Leading.{through-get}
use Rattle.machine_laws.specs.SlotLoop.{ComesTo, NoNodeWorks, first_lane, first_ready}
use Rattle.copy_laws.specs.Beside.{AreFirst}
use Rattle.race_laws.specs.Writes.{WritesAreOf, WritesStay}
use Rattle.good_moment.specs.moment_laws.Places.{IsShownAt}
use Rattle.good_moment.specs.moment_laws.Shown.{MomentKept}
use Rattle.lockstep_steps.specs.lockstep_slots.Places.{IsPlaceOf, Place, moment_there, state_there}

-- Where a slot begins

abbrev begins_first : List Phase → Option State
begins_first [] = None
begins_first (phase ∷ rest) = Some phase.begins

cut-begins : (machine : Machine) (turn : Option TurnKind) (begins : State) (events : List Event) (state : State) (moves : List Move) →
    begins_first (cut machine turn begins events state moves) ≡ Some begins
cut-begins machine turn begins events state [] = refl
cut-begins machine turn begins events state (Happens event ∷ moves) = cut-begins machine turn begins (events ++ event ∷ []) (after machine state event) moves
cut-begins machine turn begins events state (Turns ∷ moves) = refl

same-state : (one other : State) → Some one ≡ Some other → one ≡ other
same-state one other e = cc

-- slots of the same phases begin in the same state
begins-same : (machine : Machine) (one other : FirstSlot) → phases machine one ≡ phases machine other → one.begins ≡ other.begins
begins-same machine one other same =
    same-state one.begins other.begins
    (sym (cut-begins machine None one.begins [] one.begins one.moves) ∙ ap begins_first same ∙ cut-begins machine None other.begins [] other.begins other.moves)

-- Writes

-- at a place of a slot of the good machine its processes are still to write objects of the design alone
pub good-writes : WritesStay → (design : FlatDesign) (plan : TestPlan) (slot : FirstSlot) (place : Place) (kept : MomentKept) → IsShownAt design plan place kept →
    IsPlaceOf (good_machine design) slot place → ComesTo (good_machine design) (moment_there (good_machine design) slot place) →
    WritesAreOf design (state_there (good_machine design) place)
good-writes law design plan slot place kept shown is comes =
    let machine = good_machine design in
    let begins : shown.slot.begins ≡ slot.begins = begins-same machine shown.slot slot (shown.place_is.phases_are ∙ sym is.phases_are) in
    let first : WritesAreOf design shown.slot.begins =
    law.slots_begin machine plan.end (kept.before + kept.slot) shown.slot shown.in_order.rules
    (through-get machine (first_run machine plan.end) (kept.before + kept.slot) shown.slot shown.stands) in
    subst (WritesAreOf design) (sym comes.made_so_far) (law.after_moves machine slot.begins comes.moves shown.in_order.rules (subst (WritesAreOf design) begins first))

-- Lanes

same-event : (one other : Event) → Some one ≡ Some other → one ≡ other
same-event one other e = cc

lane-event : (state : State) (process : ℕ) → NoNodeWorks state → first_lane state ≡ Some process → first_event state ≡ Some (LaneStep process)
lane-event state process rests lane = λ i. or_event (rests i) (or_event (named_event LaneStep (lane i)) (named_event Step (first_ready state)))

-- the first lane of a state is stepped by the block that comes
pub lane-steps : (machine : Machine) (state : State) (process : ℕ) (events : List Event) → NoNodeWorks state → first_lane state ≡ Some process → 0 < length events →
    AreFirst machine state events → some_in (is_lane_of process) events ≡ true
lane-steps machine state process [] rests lane some first = absurd (omega (arith, some))
lane-steps machine state process (event ∷ events) rests lane some first =
    let is : event ≡ LaneStep process = same-event event (LaneStep process) (sym first.0 ∙ lane-event state process rests lane) in
    ap (λ (e : Event). is_lane_of process e || some_in (is_lane_of process) events) is ∙ ap (λ b. b || some_in (is_lane_of process) events) (eq-eqb process process refl)

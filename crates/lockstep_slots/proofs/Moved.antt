-- Both machines from one place in the slot to another, by a pair of blocks.
use Rattle.std.proofs.Common.{◌≡◌, ◌+◌, ◌≤◌, List, [], ◌∷◌, ◌++◌, sym, ap, subst, ◌∙◌, arith}
use Rattle.std.specs.Prelude.{IsTrue, sum_by}
use Rattle.std.proofs.lemmas.List.{append_assoc}
use Rattle.v_design.specs.Designs.{FlatDesign, Machine, StuckAt, good_machine, faulty_machine}
use Rattle.v_design.specs.States.{State, Event}
use Rattle.v_design.specs.Runs.{FirstSlot, happened, all_possible, most_steps, work_of}
use Rattle.v_design.specs.WellFormed.{KeepsRules}
use Rattle.machine_laws.specs.SlotLoop.{Moment, ComesTo, NoNodeWorks, StretchesGoOn, steps_of, after_events}
use Rattle.copy_laws.specs.Beside.{AreFirst}
use Rattle.copy_laws.specs.Moves.{Within}
use Rattle.block_filter.specs.Likes.{Marks, AlikeStretchesGoAlike}
use Rattle.block_filter.specs.Blocks.{BlockPair, good_events, faulty_events, good_phase, faulty_phase, IsBlockPair, BlocksGoOn, BlocksWiden}
use Rattle.block_filter.specs.Suffice.{BlocksSuffice}
use Rattle.block_causes.specs.Caused.{IsFromRest, StretchesAreCaused, BlocksAreCaused}
use Rattle.phase_blocks.specs.Blocks.{IsBetweenRuns, BlocksFollow, BlocksJoin}
use Rattle.phase_blocks.proofs.Lists.{happened-append, first-before, first-behind}
use Rattle.phase_order.specs.Order.{PhasesFollow, phase_steps}
use Rattle.lockstep_laws.specs.Lockstep.{AreInLockstep, LockstepIsBeside, LockstepHolds}
use Rattle.lockstep_laws.specs.Phases.{IsInPhase}
use Rattle.lockstep_laws.specs.Slots.{KeepsNothingSame, NothingBecomesSame}
use Rattle.lockstep_laws.specs.Moments.{InLockstepAt, LockstepGoesOn}
use Rattle.lockstep_index.specs.Alone.{IndexTellsFree}
use Rattle.lockstep_index.specs.Writes.{WritesPass}
use Rattle.lockstep_slots.specs.Kept.{LockstepKept, kept_within}
use Rattle.lockstep_slots.specs.Places.{Place, IsPlaceOf, IsFineSlot, state_there, moment_there, steps_left, behind_events}
use Rattle.lockstep_slots.specs.Standing.{StandsInLockstep}
use Rattle.lockstep_slots.proofs.Kept.{StayLaws}
use Rattle.lockstep_slots.proofs.Pairs.{phase-more}
use Rattle.lockstep_slots.proofs.Followed.{followed, few-there}
use Rattle.lockstep_slots.proofs.Moments.{stretched, after-is, behind-there}

-- the laws on which this stands
pub record SlotLaws : Type 0 where
  pub side : LockstepIsBeside
  pub holds : LockstepHolds
  pub goes : LockstepGoesOn
  pub index : IndexTellsFree
  pub writes : WritesPass
  pub stretch : StretchesGoOn
  pub stay : StayLaws
  pub same : NothingBecomesSame
  pub join : BlocksJoin
  pub follow : BlocksFollow
  pub phases : PhasesFollow
  pub stretches : StretchesAreCaused
  pub blocks : BlocksAreCaused
  pub alike : AlikeStretchesGoAlike
  pub more : BlocksGoOn
  pub wider : BlocksWiden
  pub race : BlocksSuffice

-- What holds at a place

pub in-phase : (machine : Machine) (at : Moment) → ComesTo machine at → IsInPhase machine at.state
in-phase machine at comes = record { begins = at.phase_begins; events = at.events; asked = comes.phase_asked; is = comes.happened_so_far }

pub own-rests : LockstepIsBeside → (d : Within) (good faulty : State) → AreInLockstep d good faulty → NoNodeWorks good → NoNodeWorks faulty
own-rests law d good faulty lockstep rests = ap (work_of 0) (sym (law d good faulty lockstep).beside.nodes) ∙ rests

-- the next events of the phase are those of the first order
pub next-first : PhasesFollow → (machine : Machine) (slot : FirstSlot) (place : Place) (events more : List Event) → IsFineSlot machine slot → IsPlaceOf machine slot place →
    place.left ≡ events ++ more → AreFirst machine (state_there machine place) events
next-first law machine slot place events more s is left =
    first-before machine (state_there machine place) events more
    (subst (AreFirst machine (state_there machine place)) left
    (first-behind machine place.phase.begins place.passed place.left
    (subst (AreFirst machine place.phase.begins) is.events_are (followed law machine slot place s is).first)))

-- and the slot has steps left for them
pub good-room : PhasesFollow → (machine : Machine) (slot : FirstSlot) (place : Place) (events more : List Event) → IsFineSlot machine slot → IsPlaceOf machine slot place →
    place.left ≡ events ++ more → (moment_there machine slot place).steps + sum_by steps_of events ≤ most_steps
good-room law machine slot place events more s is left =
    let few : sum_by phase_steps place.ended + sum_by steps_of place.passed + sum_by steps_of events + (sum_by steps_of more + sum_by phase_steps place.later) ≤ most_steps =
    few-there law machine slot place events more s is left in
    omega (arith, few)

-- events behind a place where no node has work
pub from-rest : (machine : Machine) (before events : List Event) (at : Moment) → KeepsRules machine.design → ComesTo machine at → at.events ≡ before →
    IsTrue (all_possible machine at.phase_begins (before ++ events)) → NoNodeWorks (happened machine at.phase_begins before) → IsFromRest machine at.phase_begins before events
from-rest machine before events at rules comes is possible rests = record { rules = rules; asked = comes.phase_asked; possible = possible; rests = rests }

-- A pair more

-- the pairs so far lead to the place, and to the moment
at-pairs : (design : FlatDesign) (fault : StuckAt) (slot : FirstSlot) (begins : State) (place : Place) (own : Moment) (pairs : List BlockPair) (marks : Marks) (kept : LockstepKept)
    (pair : BlockPair) →
    StandsInLockstep design fault slot begins place own pairs marks kept → IsBlockPair design fault marks (state_there (good_machine design) place) own.state pair →
    IsBlockPair design fault marks (happened (good_machine design) place.phase.begins (good_phase pairs)) (happened (faulty_machine design fault) own.phase_begins (faulty_phase pairs)) pair
at-pairs design fault slot begins place own pairs marks kept pair s is =
    subst (λ (x : State). IsBlockPair design fault marks x (happened (faulty_machine design fault) own.phase_begins (faulty_phase pairs)) pair)
    (ap (happened (good_machine design) place.phase.begins) (sym s.good_pairs))
    (subst (λ (x : State). IsBlockPair design fault marks (state_there (good_machine design) place) x pair)
    (s.lockstep.own_comes.happened_so_far ∙ ap (happened (faulty_machine design fault) own.phase_begins) (sym s.own_pairs)) is)

-- what stands behind a pair
pub record Gone (design : FlatDesign) (fault : StuckAt) (slot : FirstSlot) (place : Place) (own : Moment) (ones others : List Event) (pair : BlockPair) (marks : Marks) (new : LockstepKept) : Type
    0 where
  pub lockstep : InLockstepAt design fault (kept_within new (happened (good_machine design) (state_there (good_machine design) place) ones))
      (after_events (good_machine design) ones (moment_there (good_machine design) slot place)) (after_events (faulty_machine design fault) others own)
  pub between : IsBetweenRuns (good_machine design) place.phase.begins (place.passed ++ ones)
  pub nothing_same : KeepsNothingSame (kept_within new (happened (good_machine design) (state_there (good_machine design) place) ones))
      (happened (good_machine design) (state_there (good_machine design) place) ones)
  pub is : IsBlockPair design fault marks (state_there (good_machine design) place) own.state pair
  pub good_is : good_events pair ≡ ones
  pub own_is : faulty_events pair ≡ others

pub moved : SlotLaws → (design : FlatDesign) (fault : StuckAt) (slot : FirstSlot) (begins : State) (place : Place) (own : Moment) (pairs : List BlockPair) (marks : Marks) (old new : LockstepKept)
    (ones more others : List Event) (pair : BlockPair) → StandsInLockstep design fault slot begins place own pairs marks old → place.left ≡ ones ++ more →
    Gone design fault slot place own ones others pair marks new → own.steps + sum_by steps_of others + steps_left (behind_events ones more place) ≤ most_steps →
    StandsInLockstep design fault slot begins (behind_events ones more place) (after_events (faulty_machine design fault) others own) (pairs ++ pair ∷ []) marks new
moved laws design fault slot begins place own pairs marks old new ones more others pair s left gone room =
    subst (λ (at : Moment). StandsInLockstep design fault slot begins (behind_events ones more place) at (pairs ++ pair ∷ []) marks new) (sym (after-is (faulty_machine design fault) others own))
    (record {
      good_slot = s.good_slot;
      place_is = record {
        phases_are = s.place_is.phases_are;
        events_are = s.place_is.events_are ∙ ap (λ l. place.passed ++ l) left ∙ sym (append_assoc place.passed ones more);
      };
      own_begins = s.own_begins;
      lockstep = subst (λ (x : State). InLockstepAt design fault (kept_within new x) (moment_there (good_machine design) slot (behind_events ones more place))
          (stretched (faulty_machine design fault) others own)) (sym state_is)
          (subst (λ (at : Moment). InLockstepAt design fault (kept_within new (happened (good_machine design) (state_there (good_machine design) place) ones)) at
          (stretched (faulty_machine design fault) others own)) (behind-there (good_machine design) slot place ones more)
          (subst (λ (at : Moment). InLockstepAt design fault (kept_within new (happened (good_machine design) (state_there (good_machine design) place) ones))
          (after_events (good_machine design) ones (moment_there (good_machine design) slot place)) at) (after-is (faulty_machine design fault) others own) gone.lockstep));
      between = gone.between;
      nothing_same = subst (λ (x : State). KeepsNothingSame (kept_within new x) x) (sym state_is) gone.nothing_same;
      room = room;
      held = s.held;
      good_pairs = phase-more good_events pairs pair ∙ (λ i. s.good_pairs i ++ gone.good_is i);
      own_pairs = phase-more faulty_events pairs pair ∙ (λ i. s.own_pairs i ++ gone.own_is i);
      blocks = laws.more design fault marks place.phase.begins own.phase_begins pairs pair s.blocks (at-pairs design fault slot begins place own pairs marks old pair s gone.is);
      clean = s.clean;
    })
  where
    state_is : state_there (good_machine design) (behind_events ones more place) ≡ happened (good_machine design) (state_there (good_machine design) place) ones
    state_is = happened-append (good_machine design) place.phase.begins place.passed ones

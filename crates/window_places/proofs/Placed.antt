-- The moments of places.
use Rattle.std.proofs.Common.{◌≡◌, ℕ, zero, suc, ◌+◌, ◌<◌, ◌≤◌, List, [], ◌∷◌, ◌++◌, map, length, take, drop, refl, sym, ap, ◌∙◌, arith}
use Rattle.std.specs.Prelude.{Some, slice_get, sum_by}
use Rattle.std.proofs.Math.Seq.{drop-append_seam}
use Rattle.std.proofs.lemmas.List.{append_assoc, drop-drop, length-append}
use Rattle.std.proofs.lemmas.List.Sums.{sum_by-append, sum_by-cons}
use Rattle.vf_base.specs.Lists.{joined}
use Rattle.v_design.specs.Designs.{FlatDesign, Machine, TestPlan, good_machine}
use Rattle.v_design.specs.States.{State, Event, after}
use Rattle.v_design.specs.Runs.{FirstSlot, happened}
use Rattle.v_design.specs.Grades.{Phase, phases}
use Rattle.copy_laws.specs.Windows.{good_slots, window_slots}
use Rattle.between_slots.specs.Between.{slots_phases, window_phases}
use Rattle.between_slots.specs.WindowLaws.{window_slots-part, window_phases-none, window_phases-more, window_phases-part}
use Rattle.block_filter.proofs.Places.{joined-append}
use Rattle.phase_blocks.proofs.Lists.{happened-append}
use Rattle.trace_window.specs.Moments.{Seen, seen_from, phase_seen, slot_seen, window_events}
use Rattle.lockstep_slots.specs.Places.{Place, state_there, first_place, behind_events, next_phase}
use Rattle.window_places.specs.Windows.{seen_left, IsAtMoment}

-- Events in two parts

pub seen-append : (machine : Machine) (state : State) (first more : List Event) → seen_from machine state (first ++ more) ≡ seen_from machine state first
    ++ seen_from machine (happened machine state first) more
seen-append machine state [] more = refl
seen-append machine state (event ∷ first) more = ap (λ l. record { before = state; event = event } ∷ l) (seen-append machine (after machine state event) first more)

pub seen-length : (machine : Machine) (state : State) (events : List Event) → length (seen_from machine state events) ≡ length events
seen-length machine state [] = refl
seen-length machine state (event ∷ events) = ap suc (seen-length machine (after machine state event) events)

-- A slot's beginning

one-slot : (slots : List FirstSlot) (number : ℕ) (slot : FirstSlot) → slice_get slots number ≡ Some slot → drop number (take (suc number) slots) ≡ slot ∷ []
one-slot [] number slot here = cc
one-slot (first ∷ slots) zero slot here = ap (λ (s : FirstSlot). s ∷ []) (some-slot first slot here)
  where
    some-slot : (a b : FirstSlot) → Some a ≡ Some b → a ≡ b
    some-slot a b e = cc
one-slot (first ∷ slots) (suc number) slot here = one-slot slots number slot here

pub slot-begins : (design : FlatDesign) (plan : TestPlan) (begins ends number : ℕ) (slot : FirstSlot) (phase : Phase) (later : List Phase) → begins ≤ number → number < ends →
    slice_get (good_slots design plan) number ≡ Some slot → phases (good_machine design) slot ≡ phase ∷ later →
    IsAtMoment design plan begins ends (length (window_events design plan begins number)) (first_place phase later)
slot-begins design plan begins ends number slot phase later low high here parts = record {
  others = joined (map (slot_seen (good_machine design)) (window_slots design plan (suc number) ends));
  seen_are =
      ap (drop (length (window_events design plan begins number))) all ∙ drop-append_seam (window_events design plan begins number)
      (slot_seen (good_machine design) slot ++ joined (map (slot_seen (good_machine design)) (window_slots design plan (suc number) ends)))
      ∙ ap (λ l. joined (map (phase_seen (good_machine design)) l) ++ joined (map (slot_seen (good_machine design)) (window_slots design plan (suc number) ends))) parts;
}
  where
    slots : window_slots design plan begins ends ≡ window_slots design plan begins number ++ slot ∷ window_slots design plan (suc number) ends
    slots =
        window_slots-part design plan begins number ends low (omega (arith, high))
        ∙ ap (λ l. window_slots design plan begins number ++ l)
        (window_slots-part design plan number (suc number) ends (omega arith) (omega (arith, high))
        ∙ ap (λ l. l ++ window_slots design plan (suc number) ends) (one-slot (good_slots design plan) number slot here))

    all : window_events design plan begins ends
        ≡ window_events design plan begins number
        ++ (slot_seen (good_machine design) slot ++ joined (map (slot_seen (good_machine design)) (window_slots design plan (suc number) ends)))
    all =
        ap (λ l. joined (map (slot_seen (good_machine design)) l)) slots
        ∙ joined-append (slot_seen (good_machine design)) (window_slots design plan begins number) (slot ∷ window_slots design plan (suc number) ends)

-- The phases of a window

phases-length : (machine : Machine) (parts : List Phase) → length (joined (map (phase_seen machine) parts)) ≡ sum_by (λ (phase : Phase). length phase.events) parts
phases-length machine [] = refl
phases-length machine (phase ∷ parts) =
    let all : length (joined (map (phase_seen machine) (phase ∷ parts))) ≡ length (phase_seen machine phase) + length (joined (map (phase_seen machine) parts)) =
    length-append (phase_seen machine phase) (joined (map (phase_seen machine) parts)) in
    let one : length (phase_seen machine phase) ≡ length phase.events = seen-length machine phase.begins phase.events in
    let rest : length (joined (map (phase_seen machine) parts)) ≡ sum_by (λ (p : Phase). length p.events) parts = phases-length machine parts in
    let sum : sum_by (λ (p : Phase). length p.events) (phase ∷ parts) ≡ length phase.events + sum_by (λ (p : Phase). length p.events) parts =
    sum_by-cons (λ (p : Phase). length p.events) phase parts in
    omega (arith, all, one, rest, sum)

slots-length : (machine : Machine) (slots : List FirstSlot) → length (joined (map (slot_seen machine) slots)) ≡ sum_by (λ (phase : Phase). length phase.events) (slots_phases machine slots)
slots-length machine [] = refl
slots-length machine (slot ∷ slots) =
    let all : length (joined (map (slot_seen machine) (slot ∷ slots))) ≡ length (slot_seen machine slot) + length (joined (map (slot_seen machine) slots)) =
    length-append (slot_seen machine slot) (joined (map (slot_seen machine) slots)) in
    let one : length (slot_seen machine slot) ≡ sum_by (λ (p : Phase). length p.events) (phases machine slot) = phases-length machine (phases machine slot) in
    let rest : length (joined (map (slot_seen machine) slots)) ≡ sum_by (λ (p : Phase). length p.events) (slots_phases machine slots) = slots-length machine slots in
    let sum : sum_by (λ (p : Phase). length p.events) (slots_phases machine (slot ∷ slots))
    ≡ sum_by (λ (p : Phase). length p.events) (phases machine slot) + sum_by (λ (p : Phase). length p.events) (slots_phases machine slots) =
    sum_by-append (λ (p : Phase). length p.events) (phases machine slot) (slots_phases machine slots) in
    omega (arith, all, one, rest, sum)

pub slot-phases : (design : FlatDesign) (plan : TestPlan) (begins ends number : ℕ) (slot : FirstSlot) → begins ≤ number → number < ends → slice_get (good_slots design plan) number ≡ Some slot →
    (window_phases design plan begins ends ≡ window_phases design plan begins number ++ (phases (good_machine design) slot ++ window_phases design plan (suc number) ends))
    × (length (window_events design plan begins number) ≡ sum_by (λ (phase : Phase). length phase.events) (window_phases design plan begins number))
slot-phases design plan begins ends number slot low high here = (
  window_phases-part design plan begins number ends low (omega (arith, high))
      ∙ ap (λ (l : List Phase). window_phases design plan begins number ++ l)
      (window_phases-part design plan number (suc number) ends (omega arith) (omega (arith, high))
      ∙ ap (λ (l : List Phase). l ++ window_phases design plan (suc number) ends)
      (window_phases-more design plan number number slot (omega arith) here
      ∙ ap (λ (l : List Phase). l ++ phases (good_machine design) slot) (window_phases-none design plan number))),
  slots-length (good_machine design) (window_slots design plan begins number),
)

-- The events from a place on

-- a stretch, and what is left behind it
pub stretch-left : (design : FlatDesign) (plan : TestPlan) (begins ends moment : ℕ) (place : Place) (events more : List Event) (at : IsAtMoment design plan begins ends moment place) →
    place.left ≡ events ++ more →
    drop moment (window_events design plan begins ends)
    ≡ seen_from (good_machine design) (state_there (good_machine design) place) events ++ (seen_left design (behind_events events more place) ++ at.others)
stretch-left design plan begins ends moment place events more at left =
    at.seen_are
    ∙ ap (λ (l : List Event). (seen_from (good_machine design) (state_there (good_machine design) place) l ++ joined (map (phase_seen (good_machine design)) place.later)) ++ at.others) left
    ∙ ap (λ (l : List Seen). (l ++ joined (map (phase_seen (good_machine design)) place.later)) ++ at.others)
    (seen-append (good_machine design) (state_there (good_machine design) place) events more
    ∙ ap (λ (s : State). seen_from (good_machine design) (state_there (good_machine design) place) events ++ seen_from (good_machine design) s more)
    (sym (happened-append (good_machine design) place.phase.begins place.passed events)))
    ∙ ap (λ (l : List Seen). l ++ at.others)
    (append_assoc (seen_from (good_machine design) (state_there (good_machine design) place) events)
    (seen_from (good_machine design) (state_there (good_machine design) (behind_events events more place)) more) (joined (map (phase_seen (good_machine design)) place.later)))
    ∙ append_assoc (seen_from (good_machine design) (state_there (good_machine design) place) events) (seen_left design (behind_events events more place)) at.others

pub goes-on : (design : FlatDesign) (plan : TestPlan) (begins ends moment : ℕ) (place : Place) (events more : List Event) → IsAtMoment design plan begins ends moment place →
    place.left ≡ events ++ more → IsAtMoment design plan begins ends (moment + length events) (behind_events events more place)
goes-on design plan begins ends moment place events more at left = record {
  others = at.others;
  seen_are =
      sym (drop-drop (length events) moment (window_events design plan begins ends))
      ∙ ap (drop (length events)) (stretch-left design plan begins ends moment place events more at left)
      ∙ ap (λ n. drop n (seen_from (good_machine design) (state_there (good_machine design) place) events ++ (seen_left design (behind_events events more place) ++ at.others)))
      (sym (seen-length (good_machine design) (state_there (good_machine design) place) events))
      ∙ drop-append_seam (seen_from (good_machine design) (state_there (good_machine design) place) events) (seen_left design (behind_events events more place) ++ at.others);
}

pub turns : (design : FlatDesign) (plan : TestPlan) (begins ends moment : ℕ) (place : Place) (next : Phase) (later : List Phase) → IsAtMoment design plan begins ends moment place →
    place.left ≡ [] → place.later ≡ next ∷ later → IsAtMoment design plan begins ends moment (next_phase next later place)
turns design plan begins ends moment place next later at none later_is = record {
  others = at.others;
  seen_are =
      at.seen_are
      ∙ (λ i. (seen_from (good_machine design) (state_there (good_machine design) place) (none i) ++ joined (map (phase_seen (good_machine design)) (later_is i))) ++ at.others);
}

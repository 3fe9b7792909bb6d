-- Places among the phases of a window.
use Rattle.std.proofs.Common.{◌≡◌, ℕ, zero, suc, ◌+◌, ◌<◌, ◌≤◌, List, [], ◌∷◌, ◌++◌, map, length, refl, sym, ap, ◌∙◌, arith}
use Rattle.std.specs.Prelude.{Some, slice_get, take, drop}
use Rattle.std.proofs.lemmas.List.{append_assoc, append-nil, length-append}
use Rattle.vf_base.specs.Lists.{joined}
use Rattle.v_design.specs.Designs.{FlatDesign, TestPlan, Machine, good_machine}
use Rattle.v_design.specs.States.{State, Event, after}
use Rattle.v_design.specs.Runs.{FirstSlot}
use Rattle.v_design.specs.Grades.{Phase, phases}
use Rattle.copy_laws.specs.Windows.{good_slots, window_slots}
use Rattle.between_slots.specs.Between.{slots_phases, window_phases}
use Rattle.between_slots.specs.WindowLaws.{window_phases-part, window_slots-part}
use Rattle.trace_window.specs.Moments.{Seen, seen_from, phase_seen, slot_seen, slots_seen, window_events}
use Rattle.window_blocks.specs.Blocks.{events_in, ArePhaseEnds}
use Rattle.lockstep_slots.specs.Places.{Place, first_place, behind_events, next_phase}
use Rattle.lockstep_places.specs.Places.{IsPlaceIn}

-- How many events

pub events_in-append : (one other : List Phase) → events_in (one ++ other) ≡ events_in one + events_in other
events_in-append [] other = omega arith
events_in-append (phase ∷ one) other = let e : events_in (one ++ other) ≡ events_in one + events_in other = events_in-append one other in omega (arith, e)

seen-length : (machine : Machine) (state : State) (events : List Event) → length (seen_from machine state events) ≡ length events
seen-length machine state [] = refl
seen-length machine state (event ∷ events) = ap suc (seen-length machine (after machine state event) events)

phases-length : (machine : Machine) (parts : List Phase) → length (joined (map (phase_seen machine) parts)) ≡ events_in parts
phases-length machine [] = refl
phases-length machine (phase ∷ parts) =
    let a : length (joined (map (phase_seen machine) (phase ∷ parts))) ≡ length (phase_seen machine phase) + length (joined (map (phase_seen machine) parts)) =
    length-append (phase_seen machine phase) (joined (map (phase_seen machine) parts)) in
    let b : length (phase_seen machine phase) ≡ length phase.events = seen-length machine phase.begins phase.events in
    let c : length (joined (map (phase_seen machine) parts)) ≡ events_in parts = phases-length machine parts in
    let d : events_in (phase ∷ parts) ≡ length phase.events + events_in parts = refl in
    omega (arith, a, b, c, d)

slots-length : (machine : Machine) (slots : List FirstSlot) → length (slots_seen machine slots) ≡ events_in (slots_phases machine slots)
slots-length machine [] = refl
slots-length machine (slot ∷ slots) =
    let a : length (slots_seen machine (slot ∷ slots)) ≡ length (slot_seen machine slot) + length (slots_seen machine slots) = length-append (slot_seen machine slot) (slots_seen machine slots) in
    let b : length (slot_seen machine slot) ≡ events_in (phases machine slot) = phases-length machine (phases machine slot) in
    let c : length (slots_seen machine slots) ≡ events_in (slots_phases machine slots) = slots-length machine slots in
    let d : events_in (slots_phases machine (slot ∷ slots)) ≡ events_in (phases machine slot) + events_in (slots_phases machine slots) =
    events_in-append (phases machine slot) (slots_phases machine slots) in
    omega (arith, a, b, c, d)

-- A slot's beginning

one-slot : (slots : List FirstSlot) (number : ℕ) (slot : FirstSlot) → slice_get slots number ≡ Some slot → drop number (take (suc number) slots) ≡ slot ∷ []
one-slot [] number slot here = cc
one-slot (first ∷ slots) zero slot here = ap (λ (s : FirstSlot). s ∷ []) (some-slot first slot here)
  where
    some-slot : (a b : FirstSlot) → Some a ≡ Some b → a ≡ b
    some-slot a b e = cc
one-slot (first ∷ slots) (suc number) slot here = one-slot slots number slot here

one-phases : (design : FlatDesign) (plan : TestPlan) (number : ℕ) (slot : FirstSlot) → slice_get (good_slots design plan) number ≡ Some slot →
    window_phases design plan number (suc number) ≡ phases (good_machine design) slot
one-phases design plan number slot here =
    ap (slots_phases (good_machine design)) (one-slot (good_slots design plan) number slot here) ∙ append-nil (phases (good_machine design) slot)

pub slot-begins : (design : FlatDesign) (plan : TestPlan) (begins ends number : ℕ) (slot : FirstSlot) (phase : Phase) (later : List Phase) → begins ≤ number → number < ends →
    slice_get (good_slots design plan) number ≡ Some slot → phases (good_machine design) slot ≡ phase ∷ later →
    IsPlaceIn (window_phases design plan begins ends) (length (window_phases design plan begins number)) (length (window_events design plan begins number)) (first_place phase later)
slot-begins design plan begins ends number slot phase later low high here parts = record {
  before = window_phases design plan begins number;
  others = window_phases design plan (suc number) ends;
  phases_are =
      window_phases-part design plan begins number ends low (omega (arith, high))
      ∙ ap (λ l. window_phases design plan begins number ++ l)
      (window_phases-part design plan number (suc number) ends (omega arith) (omega (arith, high))
      ∙ ap (λ l. l ++ window_phases design plan (suc number) ends) (one-phases design plan number slot here ∙ parts));
  number_is = refl;
  moment_is = let e = slots-length (good_machine design) (window_slots design plan begins number) in e ∙ plus-none (events_in (window_phases design plan begins number));
  events_are = refl;
}
  where
    plus-none : (n : ℕ) → n ≡ n + 0
    plus-none n = omega arith

-- One event or one turn more

pub goes-on : (phases : List Phase) (number moment : ℕ) (place : Place) (events more : List Event) → IsPlaceIn phases number moment place → place.left ≡ events ++ more →
    IsPlaceIn phases number (moment + length events) (behind_events events more place)
goes-on phases number moment place events more at left = record {
  before = at.before;
  others = at.others;
  phases_are = at.phases_are;
  number_is = at.number_is;
  moment_is =
      (let e : length (place.passed ++ events) ≡ length place.passed + length events = length-append place.passed events in
      let m : moment ≡ events_in at.before + length place.passed = at.moment_is in
      omega (arith, e, m));
  events_are = at.events_are ∙ ap (λ l. place.passed ++ l) left ∙ sym (append_assoc place.passed events more);
}

pub turns : (phases : List Phase) (number moment : ℕ) (place : Place) (next : Phase) (later : List Phase) → IsPlaceIn phases number moment place → place.left ≡ [] →
    place.later ≡ next ∷ later → IsPlaceIn phases (number + 1) moment (next_phase next later place)
turns phases number moment place next later at none later_is = record {
  before = at.before ++ place.phase ∷ [];
  others = at.others;
  phases_are =
      at.phases_are ∙ ap (λ l. at.before ++ place.phase ∷ (l ++ at.others)) later_is
      ∙ sym (append_assoc at.before (place.phase ∷ []) (next ∷ (later ++ at.others)));
  number_is =
      (let e : length (at.before ++ place.phase ∷ []) ≡ length at.before + length (place.phase ∷ []) = length-append at.before (place.phase ∷ []) in
      let one : length (place.phase ∷ []) ≡ 1 = refl in
      let n : number ≡ length at.before = at.number_is in
      omega (arith, e, one, n));
  moment_is =
      (let e : events_in (at.before ++ place.phase ∷ []) ≡ events_in at.before + events_in (place.phase ∷ []) = events_in-append at.before (place.phase ∷ []) in
      let one : events_in (place.phase ∷ []) ≡ length place.phase.events + 0 = refl in
      let all : length place.phase.events ≡ length place.passed = ap length (at.events_are ∙ ap (λ l. place.passed ++ l) none ∙ append-nil place.passed) in
      let m : moment ≡ events_in at.before + length place.passed = at.moment_is in
      let z : length (next_phase next later place).passed ≡ 0 = refl in
      omega (arith, e, one, all, m, z));
  events_are = refl;
}

-- The phase's end

pub within : (phases : List Phase) (number moment : ℕ) (place : Place) → IsPlaceIn phases number moment place → number < length phases
within phases number moment place at =
    let e : length phases ≡ length at.before + length (place.phase ∷ (place.later ++ at.others)) =
    ap length at.phases_are ∙ length-append at.before (place.phase ∷ (place.later ++ at.others)) in
    let one : length (place.phase ∷ (place.later ++ at.others)) ≡ suc (length (place.later ++ at.others)) = refl in
    let n : number ≡ length at.before = at.number_is in
    omega (arith, e, one, n)

take-more : (before : List Phase) (phase : Phase) (rest : List Phase) → take (length before + 1) (before ++ phase ∷ rest) ≡ before ++ phase ∷ []
take-more [] phase rest = refl
take-more (first ∷ before) phase rest =
    let e : length (first ∷ before) + 1 ≡ suc (length before + 1) = omega arith in
    ap (λ n. take n (first ∷ (before ++ phase ∷ rest))) e ∙ ap (λ l. first ∷ l) (take-more before phase rest)

pub ends : (phases : List Phase) (number moment : ℕ) (place : Place) (told : List ℕ) (end : ℕ) → IsPlaceIn phases number moment place → ArePhaseEnds phases told →
    slice_get told number ≡ Some end → end ≡ moment + length place.left
ends phases number moment place told end at are here =
    let a : end ≡ events_in (take (number + 1) phases) = are.each number end here in
    let b : take (number + 1) phases ≡ at.before ++ place.phase ∷ [] =
    (λ i. take (at.number_is i + 1) (at.phases_are i)) ∙ take-more at.before place.phase (place.later ++ at.others) in
    let c : events_in (at.before ++ place.phase ∷ []) ≡ events_in at.before + events_in (place.phase ∷ []) = events_in-append at.before (place.phase ∷ []) in
    let d : events_in (place.phase ∷ []) ≡ length place.phase.events + 0 = refl in
    let e : length place.phase.events ≡ length place.passed + length place.left = ap length at.events_are ∙ length-append place.passed place.left in
    let m : moment ≡ events_in at.before + length place.passed = at.moment_is in
    let f : events_in (take (number + 1) phases) ≡ events_in (at.before ++ place.phase ∷ []) = ap events_in b in
    omega (arith, a, c, d, e, m, f)

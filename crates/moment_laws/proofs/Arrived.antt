-- The beginning of a slot is shown by what a window tells of the state before it (slots by IEEE 1364-2001, clause 5).
use Rattle.std.proofs.Common.{◌≡◌, ℕ, zero, suc, ◌+◌, ◌<◌, false, List, [], ◌∷◌, length, get_or, refl, sym, ap, subst, ◌∙◌, inl, inr, arith}
use Rattle.std.specs.Prelude.{Option, Some, None, is_some, slice_get}
use Rattle.std.proofs.lemmas.Bool.{cases_lt}
use Rattle.std.proofs.lemmas.List.{get_or_past, length-map, ext_get_or}
use Rattle.std.proofs.lemmas.Option.{slice_get_within, slice_get-get_or, slice_get-map, slice_get_past}
use Rattle.std.specs.Option.{option_map}
use Rattle.v_design.specs.Designs.{FlatDesign, Machine, TestPlan, good_machine}
use Rattle.v_design.specs.States.{State, ProcessState, NodeState, process_at, idle_process, idle_node, found_or, time_turn, awake_at}
use Rattle.v_design.specs.Runs.{FirstSlot, is_hyper, work_of, least_work}
use Rattle.v_design.specs.Grades.{Phase, phases}
use Rattle.v_design.specs.WellFormed.{KeepsRules}
use Rattle.machine_laws.specs.SlotLoop.{NoNodeWorks}
use Rattle.phase_order.specs.Order.{IsFirstPhase, FollowOrder, PhasesFollow}
use Rattle.copy_laws.specs.Windows.{good_slots, IsWindow, WindowEnd}
use Rattle.process_code.specs.declared.state.ProcState.{ProcState}
use Rattle.between_slots.specs.Between.{state_through, activity_through, window_phases}
use Rattle.between_slots.specs.Updates.{Rests, LastIsFew}
use Rattle.between_slots.proofs.Ends.{IsAsked, good-asked}
use Rattle.between_slots.proofs.Resting.{LoopLaws}
use Rattle.good_trace.specs.RunsKept.{Stands}
use Rattle.trace_window.specs.Moments.{window_events}
use Rattle.window_places.specs.Passing.{events_before}
use Rattle.window_places.specs.Windows.{IsAtMoment, PlacesInWindows}
use Rattle.lockstep_slots.specs.Places.{Place, first_place}
use Rattle.lockstep_places.specs.Places.{IsPlaceIn, PlacesTold}
use Rattle.moment_laws.specs.Places.{IsSlotInOrder, IsAtSlot}
use Rattle.moment_laws.specs.Shown.{MomentKept, ShowsState}
use Rattle.moment_laws.specs.Begins.{PutsSlot, HasSlot}
use Rattle.moment_laws.proofs.Following.{slot-order}
use Rattle.moment_laws.proofs.Begun.{begun}
use Rattle.moment_laws.proofs.Moved.{move4}
use Rattle.moment_laws.proofs.Readied.{awake-stands}

-- the process of a number after time has moved on
awake-process : (now : ℕ) (state : State) (p : ℕ) → process_at (time_turn now state) p ≡ record (process_at state p) { activity = awake_at now (process_at state p).activity }
awake-process now state p = ap (found_or idle_process) (slice_get-map (λ (process : ProcessState). record process { activity = awake_at now process.activity }) state.processes p) ∙ go (slice_get state.processes p)
  where
    go : (found : Option ProcessState) → found_or idle_process (option_map (λ (process : ProcessState). record process { activity = awake_at now process.activity }) found)
        ≡ record (found_or idle_process found) { activity = awake_at now (found_or idle_process found).activity }
    go None = refl
    go (Some process) = refl

no-work : (start : ℕ) (nodes : List NodeState) → ((n : ℕ) → found_or idle_node (slice_get nodes n) ≡ idle_node) → work_of start nodes ≡ None
no-work start [] idle = refl
no-work start (node ∷ nodes) idle =
    ap (λ (x : NodeState). least_work start x.marked (is_some x.pending) (work_of (start + 1) nodes)) (idle 0) ∙ no-work (start + 1) nodes (λ n. idle (suc n))

pub arrived : PlacesTold → PlacesInWindows → PhasesFollow → (design : FlatDesign) (plan : TestPlan) (before through number : ℕ) (slot : FirstSlot) (states woken : List ProcState) (kept : MomentKept) →
    before + number < through → slice_get (good_slots design plan) (before + number) ≡ Some slot → IsSlotInOrder (good_machine design) slot →
    slot.begins ≡ time_turn slot.begins.time (state_through design plan (before + number)) → Rests design (state_through design plan (before + number)) →
    PutsSlot design plan before through number slot states woken kept → IsAtSlot design plan before through number kept
arrived told windows follow design plan before through number slot states woken kept within here ordered begun rests is = record {
  window = record { before_is = is.before_is; through_is = is.through_is };
  number_is = is.slot_is;
  phase_is = is.phase_is;
  moment_is = is.moment_is;
  slot = slot;
  stands = here;
  first = first;
  later = later;
  phases_are = parts.2;
  shown = record {
    slot = slot;
    within = (let b : kept.before ≡ before = is.before_is in let t : kept.through ≡ through = is.through_is in let s : kept.slot ≡ number = is.slot_is in omega (arith, within, b, t, s));
    stands = (λ i. slice_get (good_slots design plan) (is.before_is i + is.slot_is i)) ∙ here;
    in_order = ordered;
    place_is = record { phases_are = parts.2; events_are = refl };
    in_window =
        move4 (λ b t ph m. IsPlaceIn (window_phases design plan b t) ph m place) before through (length (window_phases design plan before (before + number)))
        (length (window_events design plan before (before + number))) kept.before kept.through kept.phase kept.moment (sym is.before_is) (sym is.through_is) (sym is.phase_is) (sym is.moment_is)
        (told.begins design plan before through (before + number) slot first later (omega arith) within here parts.2);
    at_moment =
        move4 (λ b t ph m. IsAtMoment design plan b t m place) before through 0 (length (window_events design plan before (before + number))) kept.before kept.through 0 kept.moment
        (sym is.before_is) (sym is.through_is) refl (sym is.moment_is) (windows.begins design plan before through (before + number) slot first later (omega arith) within here parts.2);
    phase_is =
        (let p : kept.phase ≡ length (window_phases design plan before (before + number)) = is.phase_is in
        let e : length (window_phases design plan kept.before (kept.before + kept.slot)) ≡ length (window_phases design plan before (before + number)) =
        (λ i. length (window_phases design plan (is.before_is i) (is.before_is i + is.slot_is i))) in
        let z : length place.ended ≡ 0 = refl in
        omega (arith, p, e, z));
    moment_is =
        (let m : kept.moment ≡ length (window_events design plan before (before + number)) = is.moment_is in
        let e : length (window_events design plan kept.before (kept.before + kept.slot)) ≡ length (window_events design plan before (before + number)) =
        (λ i. length (window_events design plan (is.before_is i) (is.before_is i + is.slot_is i))) in
        let z : events_before place ≡ 0 = refl in
        omega (arith, m, e, z));
    between = record { nodes = subst NoNodeWorks (sym begins) (no-work 0 last.nodes rests.nodes); runs = λ p. refl };
    process_count = ap (λ (s : State). length s.processes) begins ∙ count;
    shows = subst (λ s. ShowsState design s kept) (sym begins) shows;
    counts = record { runs = is.runs; ran = λ p low. is.ran p };
  };
}
  where
    machine : Machine
    machine = good_machine design

    last : State
    last = state_through design plan (before + number)

    now : State
    now = time_turn slot.begins.time last

    follows : FollowOrder machine None slot.begins (phases machine slot)
    follows = subst (λ (s : FirstSlot). FollowOrder machine None slot.begins (phases machine s)) (sym ordered.is) (slot-order follow machine slot ordered).follow

    some-phase : (all : List Phase) → FollowOrder machine None slot.begins all → (one : Phase) × (more : List Phase) × (all ≡ one ∷ more) × IsFirstPhase machine None slot.begins one
    some-phase [] f = absurd f
    some-phase (one ∷ more) f = (one, more, refl, f.0)

    parts : (one : Phase) × (more : List Phase) × (phases machine slot ≡ one ∷ more) × IsFirstPhase machine None slot.begins one
    parts = some-phase (phases machine slot) follows

    first : Phase
    first = parts.0

    later : List Phase
    later = parts.1

    place : Place
    place = first_place first later

    begins : first.begins ≡ now
    begins = parts.3.begins_is ∙ begun

    count : length now.processes ≡ length design.processes
    count = length-map last.processes (λ (process : ProcessState). record process { activity = awake_at slot.begins.time process.activity }) ∙ rests.process_count

    shows : ShowsState design now kept
    shows = record {
      counts = record {
        values = is.value_count;
        states = ap length is.states_are ∙ is.wakes.count ∙ is.state_count;
        later = is.later_count;
        lanes = is.lane_count;
        ran = is.ran_count;
      };
      process_count = count;
      node_count = rests.node_count;
      values = ext_get_or [] kept.values last.values (is.value_count ∙ sym rests.value_count) (λ object low. is.values object (let e : length kept.values ≡ length design.objects = is.value_count in omega (arith, e, low)));
      stands = λ p own at.
          let there : slice_get woken p ≡ Some own = ap (λ l. slice_get l p) (sym is.states_are) ∙ at in
          let low : p < length states = (let l = slice_get_within woken p own there in let e : length woken ≡ length states = is.wakes.count in omega (arith, l, e)) in
          let was : slice_get states p ≡ Some (get_or states p own) = slice_get-get_or states p own low in
          subst (λ a. Stands design p a own) (sym (ap (λ (x : ProcessState). x.activity) (awake-process slot.begins.time last p)))
          (awake-stands design p slot.begins.time (activity_through design plan (before + number) p) (get_or states p own) own (is.stand p (get_or states p own) was) (is.wakes.each p (get_or states p own) own was there));
      later = λ p. elim (cases_lt p (length design.processes)) [
        | inl low ↦ is.later p low ∙ sym (ap (λ (x : ProcessState). x.later) (awake-process slot.begins.time last p))
        | inr high ↦
            get_or_past kept.later p [] (let e : length kept.later ≡ length design.processes = is.later_count in omega (arith, e, high))
            ∙ ap (λ (x : ProcessState). x.later) (sym (ap (found_or idle_process) (slice_get_past now.processes p (omega (arith, count, high)))))
      ];
      lanes = λ p. is.lanes p ∙ sym (rests.lanes p) ∙ sym (ap (λ (x : ProcessState). x.lane) (awake-process slot.begins.time last p));
      time = is.time_is;
    }

-- A slot of a window

inside-slot : (slots : List FirstSlot) (n : ℕ) → n < length slots → (slot : FirstSlot) × (slice_get slots n ≡ Some slot)
inside-slot [] n low = absurd (omega (arith, low))
inside-slot (slot ∷ slots) zero low = (slot, refl)
inside-slot (slot ∷ slots) (suc n) low = inside-slot slots n (omega (arith, low))

-- is there
pub slot-there : (design : FlatDesign) (plan : TestPlan) (before through number : ℕ) (ending : WindowEnd) → IsWindow design plan before through ending → before + number < through →
    HasSlot design plan (before + number)
slot-there design plan before zero number ending window low = absurd (omega (arith, low))
slot-there design plan before (suc last) number ending window low =
    let l : last < length (good_slots design plan) = slice_get_within (good_slots design plan) last window.last (window.stands last refl) in
    let found = inside-slot (good_slots design plan) (before + number) (omega (arith, l, low)) in
    record { slot = found.0; is = found.1 }

-- and keeps the order, where it isn't hyperactive
pub slot-in-order : LoopLaws → (design : FlatDesign) (plan : TestPlan) (number : ℕ) (slot : FirstSlot) → KeepsRules design → slice_get (good_slots design plan) number ≡ Some slot →
    is_hyper slot ≡ false → IsSlotInOrder (good_machine design) slot
slot-in-order laws design plan number slot rules here few = record {
  rules = rules;
  is = ap (λ moves. record { begins = slot.begins; moves = moves }) asked.moves;
  asked = asked.asked;
  few_steps = few;
}
  where
    asked : IsAsked (good_machine design) slot
    asked = good-asked laws design plan rules number slot here

-- all that the beginning rests on
pub record Rested (design : FlatDesign) (plan : TestPlan) (before number : ℕ) (slot : FirstSlot) : Type 0 where
  pub ordered : IsSlotInOrder (good_machine design) slot
  pub begun : slot.begins ≡ time_turn slot.begins.time (state_through design plan (before + number))

pub rested : LoopLaws → (design : FlatDesign) (plan : TestPlan) (before number : ℕ) (slot : FirstSlot) → KeepsRules design → slice_get (good_slots design plan) (before + number) ≡ Some slot →
    LastIsFew design plan (before + (number + 1)) → Rested design plan before number slot
rested laws design plan before number slot rules here few = record {
  ordered =
      slot-in-order laws design plan (before + number) slot rules here
      (subst (LastIsFew design plan) (let z : before + (number + 1) ≡ suc (before + number) = omega arith in z) few slot here);
  begun = begun laws design plan rules (before + number) slot here;
}

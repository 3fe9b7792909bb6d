-- A slot of the first run: the run to its end is legal to its time, and it stands in the first run to that time too.
use Rattle.std.proofs.Common.{◌≡◌, ℕ, zero, suc, ◌+◌, ◌<◌, ◌≤◌, List, [], ◌∷◌, ◌++◌, Bool, true, false, refl, sym, ap, subst, ◌∙◌, arith}
use Rattle.std.specs.Prelude.{Option, Some, None, slice_get}
use Rattle.std.proofs.lemmas.Bool.{le-leb, lt-leb}
use Rattle.vf_base.specs.Lists.{AllHold}
use Rattle.v_design.specs.Designs.{Machine}
use Rattle.v_design.specs.States.{State, TurnKind, turn_of, time_turn}
use Rattle.v_design.specs.Runs.{Move, Turns, only_if, Leads, turned_by, made, first_moves, FirstSlot, next_slot_at, next_slot, first_slots}
use Rattle.v_design.specs.Grades.{Phase, cut}
use Rattle.v_design.specs.WellFormed.{KeepsRules}
use Rattle.v_design.specs.Laws.{moves_after_turns, run_moves}
use Rattle.order_laws.specs.EveryRun.{slots_by}
use Rattle.order_laws.proofs.RunsEndAlike.{some_eq}
use Rattle.order_laws.proofs.FirstOrder.SlotChain.{Begins, slot_from, end_from, Closes, closes, NextSlot, next_begins, slot_moves_may}
use Rattle.order_laws.proofs.FirstOrder.FineSlots.{slots_on, SlotBegins, slot_begins}
use Rattle.order_laws.proofs.FirstOrder.FirstRuns.{turns-on}
use Rattle.order_laws.proofs.FirstOrder.Cuts.{hold-append, cut_on}

-- The run to the end of a slot

abbrev pub Earlier : ℕ → List Phase → Type 0
Earlier time phases = AllHold (λ (phase : Phase). phase.begins.time < time) phases

-- a run to the end of a slot, whose phases before the slot are of earlier times
pub record Reaches (machine : Machine) (state slot : State) : Type 0 where
  pub moves : List Move
  -- the slots that it goes through
  pub front : List FirstSlot
  pub moves_are : moves ≡ run_moves front
  pub turns_are : moves_after_turns front ≡ Turns ∷ moves
  pub leads : Leads machine slot.time state moves (end_from machine slot)
  pub cuts : (turn : Option TurnKind) →
      (earlier : List Phase) × (other : Option TurnKind) × Earlier slot.time earlier × (cut machine turn state [] state moves ≡ earlier ++ cut machine other slot [] slot (first_moves machine slot))

append-nothing : {A : Type 0} (xs : List A) → xs ++ [] ≡ xs
append-nothing [] = refl
append-nothing (x ∷ xs) = ap (λ rest. x ∷ rest) (append-nothing xs)

append-assoc : {A : Type 0} (xs ys zs : List A) → (xs ++ ys) ++ zs ≡ xs ++ (ys ++ zs)
append-assoc [] ys zs = refl
append-assoc (x ∷ xs) ys zs = ap (λ rest. x ∷ rest) (append-assoc xs ys zs)

all-earlier : (time now : ℕ) (phases : List Phase) → now < time → AllHold (λ (phase : Phase). phase.begins.time ≡ now) phases → Earlier time phases
all-earlier time now [] h a = tt
all-earlier time now (phase ∷ rest) h a = (subst (λ n. n < time) (sym a.0) h, all-earlier time now rest h a.1)

reach-on : (machine : Machine) (until : ℕ) (state next slot : State) → Closes machine state → NextSlot machine until state next → next.time ≤ slot.time → Reaches machine next slot →
    Reaches machine state slot
reach-on machine until state next slot c n h r = record {
  moves = first_moves machine state ++ Turns ∷ r.moves;
  front = slot_from machine state ∷ r.front;
  moves_are = ap (λ ms. first_moves machine state ++ ms) (sym r.turns_are);
  turns_are = ap (λ ms. Turns ∷ (first_moves machine state ++ ms)) r.turns_are;
  leads = turns-on machine slot.time until state next r.moves (end_from machine slot) c n (let t : n.later ≡ next.time = ap (λ (s : State). s.time) n.is_next in omega (arith, t, h)) r.leads;
  cuts = λ turn.
      let l = r.cuts (turn_of (end_from machine state)) in (
        cut machine turn state [] state (first_moves machine state) ++ l.0,
        l.1,
        hold-append _ (cut machine turn state [] state (first_moves machine state)) l.0
            (all-earlier slot.time state.time (cut machine turn state [] state (first_moves machine state)) (let u : state.time < next.time = n.rises in omega (arith, u, h))
            ((slot_moves_may machine state.time state).phases turn state [] refl)) l.2,
        cut_on machine r.moves (first_moves machine state) turn state [] state
            ∙ ap (λ s. cut machine turn state [] state (first_moves machine state) ++ cut machine (turn_of (end_from machine state)) s [] s r.moves) made-next
            ∙ ap (λ phases. cut machine turn state [] state (first_moves machine state) ++ phases) l.3
            ∙ sym (append-assoc (cut machine turn state [] state (first_moves machine state)) l.0 (cut machine l.1 slot [] slot (first_moves machine slot))),
      );
}
  where
    made-next : made machine (end_from machine state) Turns ≡ next
    made-next = ap (λ o. turned_by o (end_from machine state)) n.turn ∙ n.is_next

-- a slot that stands in the first run
pub record Found (machine : Machine) (state : State) (slots : List FirstSlot) (slot : FirstSlot) : Type 0 where
  pub begin : State
  pub from : slot ≡ slot_from machine begin
  pub begins : Begins machine begin
  pub since : state.time ≤ begin.time
  pub reach : Reaches machine state begin
  pub front_is : slots_by begin.time slots ≡ reach.front

-- no slot up to a time follows one of that time
none-after : (machine : Machine) (until count time : ℕ) (found : Option State) → ((next : State) → found ≡ Some next → time < next.time) → slots_by time (slots_on count machine until found) ≡ []
none-after machine until count time None h = refl
none-after machine until zero time (Some next) h = refl
none-after machine until (suc count) time (Some next) h = ap (λ b. by_time b) (lt-leb next.time time (h next refl))
  where
    by_time : Bool → List FirstSlot
    by_time b = elim b [ true ↦ slot_from machine next ∷ slots_by time (slots_on count machine until (next_slot machine until (slot_from machine next))) | false ↦ [] ]

-- a slot that is there by a time
front-on : (machine : Machine) (time : ℕ) (state : State) (rest front : List FirstSlot) → state.time ≤ time → slots_by time rest ≡ front →
    slots_by time (slot_from machine state ∷ rest) ≡ slot_from machine state ∷ front
front-on machine time state rest front h e = ap (λ b. by_time b) (le-leb state.time time h) ∙ ap (λ slots. slot_from machine state ∷ slots) e
  where
    by_time : Bool → List FirstSlot
    by_time b = elim b [ true ↦ slot_from machine state ∷ slots_by time rest | false ↦ [] ]

pub found_slot : (machine : Machine) (until : ℕ) → KeepsRules machine.design → (count : ℕ) (state : State) → Begins machine state → (number : ℕ) (slot : FirstSlot) →
    slice_get (first_slots count machine until state) number ≡ Some slot → Found machine state (first_slots count machine until state) slot
unfolding reach-on
found_slot machine until rules zero state b number slot e = cc
found_slot machine until rules (suc count) state b zero slot e = record {
  begin = state;
  from = sym (some_eq (slot_from machine state) slot e);
  begins = b;
  since = omega arith;
  reach = record {
    moves = first_moves machine state;
    front = slot_from machine state ∷ [];
    moves_are = sym (append-nothing (first_moves machine state));
    turns_are = ap (λ ms. Turns ∷ ms) (append-nothing (first_moves machine state));
    leads = (slot_moves_may machine state.time state).leads;
    cuts = λ turn. ([], turn, tt, refl);
  };
  front_is = front-on machine state.time state (slots_on count machine until (next_slot machine until (slot_from machine state))) [] (omega arith)
      (none-after machine until count state.time (next_slot machine until (slot_from machine state)) (λ next f. let n = next_begins machine until state next rules b f in n.rises));
}
found_slot machine until rules (suc count) state b (suc number) slot e = go (next_slot machine until (slot_from machine state)) refl e
    (λ next c f. found_slot machine until rules count next c number slot f)
  where
    go : (found : Option State) → next_slot machine until (slot_from machine state) ≡ found → slice_get (slots_on count machine until found) number ≡ Some slot →
        ((next : State) → Begins machine next → slice_get (first_slots count machine until next) number ≡ Some slot → Found machine next (first_slots count machine until next) slot) →
        Found machine state (slot_from machine state ∷ slots_on count machine until found) slot
    go None h f rest = cc
    go (Some next) h f rest =
        let n = next_begins machine until state next rules b h in
        let r = rest next n.begins f in
        record {
          begin = r.begin;
          from = r.from;
          begins = r.begins;
          since = (let x : state.time < next.time = n.rises in let y : next.time ≤ r.begin.time = r.since in omega (arith, x, y));
          reach = reach-on machine until state next r.begin (closes machine state rules b n.calm) n r.since r.reach;
          front_is = front-on machine r.begin.time state (first_slots count machine until next) r.reach.front
              (let x : state.time < next.time = n.rises in let y : next.time ≤ r.begin.time = r.since in omega (arith, x, y)) r.front_is;
        }

-- The same slot in the first run to its time

begins-since : (machine : Machine) (now : ℕ) (slot : FirstSlot) → SlotBegins machine now slot → now ≤ slot.begins.time
begins-since machine now slot s = subst (λ (sl : FirstSlot). now ≤ sl.begins.time) (sym s.from) s.since

pub same_slot : (machine : Machine) (until : ℕ) → KeepsRules machine.design → (count less : ℕ) (state : State) → Begins machine state → (number : ℕ) (slot : FirstSlot) →
    slice_get (first_slots count machine until state) number ≡ Some slot →
    slot.begins.time < state.time + less → slice_get (first_slots less machine slot.begins.time state) number ≡ Some slot
same_slot machine until rules zero less state b number slot e h = cc
same_slot machine until rules (suc count) zero state b number slot e h =
    let s = begins-since machine state.time slot (slot_begins machine until rules (suc count) state b number slot e) in absurd (omega (arith, s, h))
same_slot machine until rules (suc count) (suc less) state b zero slot e h = e
same_slot machine until rules (suc count) (suc less) state b (suc number) slot e h =
    go (next_slot machine until (slot_from machine state)) refl e (λ next c f k. same_slot machine until rules count less next c number slot f k)
  where
    go : (found : Option State) → next_slot machine until (slot_from machine state) ≡ found → slice_get (slots_on count machine until found) number ≡ Some slot →
        ((next : State) → Begins machine next → slice_get (first_slots count machine until next) number ≡ Some slot → slot.begins.time < next.time + less →
        slice_get (first_slots less machine slot.begins.time next) number ≡ Some slot) →
        slice_get (slots_on less machine slot.begins.time (next_slot machine slot.begins.time (slot_from machine state))) number ≡ Some slot
    go None f g rest = cc
    go (Some next) f g rest =
        let n = next_begins machine until state next rules b f in
        let s = begins-since machine next.time slot (slot_begins machine until rules count next n.begins number slot g) in
        let t : n.later ≡ next.time = ap (λ (u : State). u.time) n.is_next in
        ap (λ o. slice_get (slots_on less machine slot.begins.time o) number) (there n (omega (arith, t, s)))
        ∙ rest next n.begins g (let x : state.time < next.time = n.rises in omega (arith, x, h))
      where
        by_hyper : Bool → Option State
        by_hyper h = elim h [ true ↦ None | false ↦ next_slot_at slot.begins.time (end_from machine state) (turn_of (end_from machine state)) ]

        there : (n : NextSlot machine until state next) → n.later ≤ slot.begins.time → next_slot machine slot.begins.time (slot_from machine state) ≡ Some next
        there n h =
            ap (λ h. by_hyper h) n.calm ∙ ap (next_slot_at slot.begins.time (end_from machine state)) n.turn
            ∙ ap (λ b. only_if b (time_turn n.later (end_from machine state))) (le-leb n.later slot.begins.time h) ∙ ap (λ s. Some s) n.is_next

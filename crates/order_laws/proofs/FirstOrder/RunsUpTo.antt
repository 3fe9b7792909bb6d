-- Where the slots of the first run up to a time are fine, every legal run has after all slots up to then the values of the first run.
use Rattle.std.proofs.Common.{◌≡◌, ℕ, zero, suc, ◌+◌, ◌<◌, ◌≤◌, List, [], ◌∷◌, ◌++◌, Bool, true, false, refl, sym, ap, subst, ◌∙◌, arith}
use Rattle.std.specs.Prelude.{Option, Some, None, nat_le}
use Rattle.std.proofs.lemmas.Bool.{leb-false, leb-true, le-leb, lt-leb}
use Rattle.four_value.specs.Values.{LogicValue}
use Rattle.v_design.specs.Designs.{Machine}
use Rattle.v_design.specs.States.{State, TurnKind, PostponedTurn, UpdatesTurn, TimeTurn, turn_of, time_turn}
use Rattle.v_design.specs.Runs.{Move, Turns, only_if, ends_by, Leads, turned_by, made, first_moves, FirstSlot, slot_end, is_hyper, next_slot_at, next_slot, first_slots}
use Rattle.v_design.specs.Grades.{cut, SlotOutcome, Fine, Race, Hyper, slot_outcome, values_after, Stop, first_stop}
use Rattle.v_design.specs.WellFormed.{KeepsRules}
use Rattle.order_laws.proofs.RunsEndAlike.{NoConflicts}
use Rattle.order_laws.proofs.FirstOrder.SlotChain.{Begins, slot_from, end_from, Closes, closes, NextSlot, next_begins, slot_moves_may, ends_before}
use Rattle.order_laws.proofs.FirstOrder.FineSlots.{slots_on, fine_calm}
use Rattle.order_laws.proofs.FirstOrder.FirstRuns.{turns-on}
use Rattle.order_laws.proofs.FirstOrder.Cuts.{hold-append, free_turn, cut_on}

-- The first run up to a time

-- a stop after a time, or none
abbrev pub StopsAfter : ℕ → Option Stop → Type 0
StopsAfter time None = Unit {0}
StopsAfter time (Some stop) = time < stop.time

-- the first stop of a slot and those after it
abbrev pub stop_by : Machine → FirstSlot → List FirstSlot → SlotOutcome → Option Stop
stop_by machine slot slots outcome = elim outcome [
  | Fine ↦ first_stop machine slots
  | Race pair ↦ Some (record { time = slot.begins.time; outcome = Race pair })
  | Hyper ↦ Some (record { time = slot.begins.time; outcome = Hyper })
]

first-fine : (machine : Machine) (time : ℕ) (slot : FirstSlot) (slots : List FirstSlot) → slot.begins.time ≤ time → StopsAfter time (first_stop machine (slot ∷ slots)) →
    (slot_outcome machine slot ≡ Fine) × StopsAfter time (first_stop machine slots)
first-fine machine time slot slots low h = go (slot_outcome machine slot) refl h
  where
    go : (outcome : SlotOutcome) → slot_outcome machine slot ≡ outcome → StopsAfter time (stop_by machine slot slots outcome) →
        (slot_outcome machine slot ≡ Fine) × StopsAfter time (first_stop machine slots)
    go Fine e k = (e, k)
    go (Race pair) e k = absurd (omega (arith, low, k))
    go Hyper e k = absurd (omega (arith, low, k))

-- a run to a time without conflict, that ends with these values
pub record RunTo (machine : Machine) (time : ℕ) (state : State) (values : List LogicValue) : Type 0 where
  pub moves : List Move
  pub final : State
  pub leads : Leads machine time state moves final
  pub ends : ends_by time final ≡ true
  pub free : (turn : Option TurnKind) → NoConflicts machine (cut machine turn state [] state moves)
  pub same_values : final.values ≡ values

-- the phases of a slot and of what follows
free-on : (machine : Machine) (until : ℕ) (state next : State) (rest : List Move) (turn : Option TurnKind) → NextSlot machine until state next →
    NoConflicts machine (cut machine None state [] state (first_moves machine state)) →
    ((turn : Option TurnKind) → NoConflicts machine (cut machine turn next [] next rest)) → NoConflicts machine (cut machine turn state [] state (first_moves machine state ++ Turns ∷ rest))
free-on machine until state next rest turn n own later =
    subst (λ phases. NoConflicts machine phases) (sym (cut_on machine rest (first_moves machine state) turn state [] state))
    (hold-append _ (cut machine turn state [] state (first_moves machine state)) _ (free_turn machine None turn (first_moves machine state) state [] state own)
    (subst (λ s. NoConflicts machine (cut machine (turn_of (end_from machine state)) s [] s rest)) (sym made-next) (later (turn_of (end_from machine state)))))
  where
    made-next : made machine (end_from machine state) Turns ≡ next
    made-next = ap (λ o. turned_by o (end_from machine state)) n.turn ∙ n.is_next

next-time : (machine : Machine) (until : ℕ) (state next : State) → NextSlot machine until state next → ((later : ℕ) → turn_of (end_from machine state) ≡ Some (TimeTurn later) → later ≡ next.time)
next-time machine until state next n later e = time_of_some (sym e ∙ n.turn) ∙ ap (λ (s : State). s.time) n.is_next
  where
    time_of : Option TurnKind → ℕ
    time_of None = 0
    time_of (Some PostponedTurn) = 0
    time_of (Some UpdatesTurn) = 0
    time_of (Some (TimeTurn t)) = t

    time_of_some : {a b : ℕ} → Some (TimeTurn a) ≡ Some (TimeTurn b) → a ≡ b
    time_of_some f = ap time_of f

none-later : (until : ℕ) (state : State) (turn : Option TurnKind) → next_slot_at until state turn ≡ None → (later : ℕ) → turn ≡ Some (TimeTurn later) → until < later
none-later until state turn e later f = leb-false later until (no-only (nat_le later until) (ap (next_slot_at until state) (sym f) ∙ e))
  where
    no-only : (b : Bool) → only_if b (time_turn later state) ≡ None → b ≡ false
    no-only true g = cc
    no-only false g = refl

-- the values after a slot that isn't later than a time
values-first : (machine : Machine) (time : ℕ) (last : List LogicValue) (slot : FirstSlot) (slots : List FirstSlot) → slot.begins.time ≤ time →
    values_after machine last (slot ∷ slots) time ≡ values_after machine (slot_end machine slot).values slots time
values-first machine time last slot slots h = ap (λ b. by_time b) (le-leb slot.begins.time time h)
  where
    by_time : Bool → List LogicValue
    by_time b = elim b [ true ↦ values_after machine (slot_end machine slot).values slots time | false ↦ last ]

values-later : (machine : Machine) (time until count : ℕ) (last : List LogicValue) (next : State) → time < next.time → values_after machine last (first_slots count machine until next) time ≡ last
values-later machine time until zero last next h = refl
values-later machine time until (suc count) last next h = ap (λ b. by_time b) (lt-leb next.time time h)
  where
    by_time : Bool → List LogicValue
    by_time b = elim b [ true ↦ values_after machine (end_from machine next).values (slots_on count machine until (next_slot machine until (slot_from machine next))) time | false ↦ last ]

pub up_to : (machine : Machine) (time until : ℕ) → KeepsRules machine.design → time ≤ until → (count : ℕ) (state : State) → Begins machine state → state.time ≤ time → until < state.time + count →
    StopsAfter time (first_stop machine (first_slots count machine until state)) → (last : List LogicValue) →
    RunTo machine time state (values_after machine last (first_slots count machine until state) time)
up_to machine time until rules short zero state b low high h last = absurd (omega (arith, short, low, high))
up_to machine time until rules short (suc count) state b low high h last =
    let f = first-fine machine time (slot_from machine state) (slots_on count machine until (next_slot machine until (slot_from machine state))) low h in
    subst (λ vs. RunTo machine time state vs) (sym (values-first machine time last (slot_from machine state) (slots_on count machine until (next_slot machine until (slot_from machine state))) low))
    (go (fine_calm machine (slot_from machine state) f.0) (next_slot machine until (slot_from machine state)) refl f.1
    (λ next c l k s vs. up_to machine time until rules short count next c l k s vs))
  where
    go : (is_hyper (slot_from machine state) ≡ false) × NoConflicts machine (cut machine None state [] state (first_moves machine state)) → (found : Option State) →
        next_slot machine until (slot_from machine state) ≡ found →
        StopsAfter time (first_stop machine (slots_on count machine until found)) →
        ((next : State) → Begins machine next → next.time ≤ time → until < next.time + count → StopsAfter time (first_stop machine (first_slots count machine until next)) → (vs : List LogicValue) →
        RunTo machine time next (values_after machine vs (first_slots count machine until next) time)) →
        RunTo machine time state (values_after machine (end_from machine state).values (slots_on count machine until found) time)
    go calm None e s rest =
        let c = closes machine state rules b calm.0 in
        record {
          moves = first_moves machine state;
          final = end_from machine state;
          leads = (slot_moves_may machine time state).leads;
          ends = ends_before machine time state c (λ later g. let u : until < later = none-later until (end_from machine state) (turn_of (end_from machine state)) last-one later g in
              omega (arith, u, short));
          free = λ turn. free_turn machine None turn (first_moves machine state) state [] state calm.1;
          same_values = refl;
        }
      where
        by_hyper : Bool → Option State
        by_hyper h = elim h [ true ↦ None | false ↦ next_slot_at until (end_from machine state) (turn_of (end_from machine state)) ]

        last-one : next_slot_at until (end_from machine state) (turn_of (end_from machine state)) ≡ None
        last-one = sym (ap (λ h. by_hyper h) calm.0) ∙ e
    go calm (Some next) e s rest = both (nat_le next.time time) refl
      where
        n : NextSlot machine until state next
        n = next_begins machine until state next rules b e

        c : Closes machine state
        c = closes machine state rules b calm.0

        both : (before : Bool) → nat_le next.time time ≡ before → RunTo machine time state (values_after machine (end_from machine state).values (first_slots count machine until next) time)
        both true g =
            let l : next.time ≤ time = leb-true next.time time g in
            let r = rest next n.begins l (let x : state.time < next.time = n.rises in omega (arith, x, high)) s (end_from machine state).values in
            record {
              moves = first_moves machine state ++ Turns ∷ r.moves;
              final = r.final;
              leads = turns-on machine time until state next r.moves r.final c n (let t : n.later ≡ next.time = next-time machine until state next n n.later n.turn in omega (arith, t, l)) r.leads;
              ends = r.ends;
              free = λ turn. free-on machine until state next r.moves turn n calm.1 r.free;
              same_values = r.same_values;
            }
        both false g =
            let l : time < next.time = leb-false next.time time g in
            record {
              moves = first_moves machine state;
              final = end_from machine state;
              leads = (slot_moves_may machine time state).leads;
              ends = ends_before machine time state c (λ later k. let t : later ≡ next.time = next-time machine until state next n later k in omega (arith, t, l));
              free = λ turn. free_turn machine None turn (first_moves machine state) state [] state calm.1;
              same_values = sym (values-later machine time until count (end_from machine state).values next l);
            }

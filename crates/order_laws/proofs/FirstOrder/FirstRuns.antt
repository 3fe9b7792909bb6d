-- The first run is legal to a time where none of its slots up to then is hyperactive.
use Rattle.std.proofs.Common.{◌≡◌, ℕ, zero, suc, ◌+◌, ◌<◌, ◌≤◌, List, [], ◌∷◌, ◌++◌, Bool, true, false, ◌&&◌, refl, sym, ap, subst, ◌∙◌, arith}
use Rattle.std.specs.Prelude.{Option, Some, None, slice_get}
use Rattle.std.proofs.lemmas.Bool.{le-leb}
use Rattle.v_design.specs.Designs.{Machine}
use Rattle.v_design.specs.States.{State, start, turn_of, time_turn}
use Rattle.v_design.specs.Runs.{Move, Turns, then_state, only_if, turn_within, moved, replayed, ends_by, Leads, first_moves, FirstSlot, is_hyper, next_slot_at, next_slot, first_slots}
use Rattle.v_design.specs.WellFormed.{KeepsRules}
use Rattle.v_design.specs.Laws.{moves_after_turns, run_moves, FirstRunsAreLegal}
use Rattle.order_laws.proofs.FirstOrder.SlotChain.{Begins, slot_from, end_from, Closes, closes, NextSlot, next_begins, slot_moves_may, last_ends}
use Rattle.order_laws.proofs.FirstOrder.FineSlots.{slots_on, first_begins}

-- moves after moves
pub leads-on : (machine : Machine) (time : ℕ) (moves rest : List Move) (state middle final : State) → Leads machine time state moves middle → Leads machine time middle rest final →
    Leads machine time state (moves ++ rest) final
leads-on machine time [] rest state middle final a b = subst (λ s. replayed machine time s rest ≡ Some final) (sym (some-same state middle a)) b
  where
    some-same : (x y : State) → Some x ≡ Some y → x ≡ y
    some-same x y e = cc
leads-on machine time (move ∷ moves) rest state middle final a b = go (moved machine time state move) a (λ next e. leads-on machine time moves rest next middle final e b)
  where
    go : (found : Option State) → then_state found (λ next. replayed machine time next moves) ≡ Some middle →
        ((next : State) → replayed machine time next moves ≡ Some middle → replayed machine time next (moves ++ rest) ≡ Some final) →
        then_state found (λ next. replayed machine time next (moves ++ rest)) ≡ Some final
    go None e k = cc
    go (Some next) e k = k next e

-- the turn to the next slot
pub turns-on : (machine : Machine) (time until : ℕ) (state next : State) (rest : List Move) (final : State) → Closes machine state → (n : NextSlot machine until state next) → n.later ≤ time →
    Leads machine time next rest final →
    Leads machine time state (first_moves machine state ++ Turns ∷ rest) final
turns-on machine time until state next rest final c n h leads =
    leads-on machine time (first_moves machine state) (Turns ∷ rest) state (end_from machine state) final (slot_moves_may machine time state).leads
    (ap (λ o. then_state o (λ s. replayed machine time s rest))
    (ap (turn_within time (end_from machine state)) n.turn
    ∙ (λ i. only_if (c.quiet i && le-leb n.later time h i) (time_turn n.later (end_from machine state)))
    ∙ ap (λ s. Some s) n.is_next) ∙ leads)

-- no slot of a list is hyperactive
abbrev pub AreCalm : List FirstSlot → Type 0
AreCalm slots = (number : ℕ) (slot : FirstSlot) → slice_get slots number ≡ Some slot → is_hyper slot ≡ false

-- a run to a time
abbrev Ended : Machine → ℕ → State → List Move → Type 0
Ended machine time state moves = (final : State) × Leads machine time state moves final × (ends_by time final ≡ true)

slots-legal : (machine : Machine) (time : ℕ) → KeepsRules machine.design → (count : ℕ) (state : State) → Begins machine state → state.time ≤ time → time < state.time + count →
    AreCalm (first_slots count machine time state) →
    Ended machine time state (run_moves (first_slots count machine time state))
slots-legal machine time rules zero state b low high calm = absurd (omega (arith, low, high))
slots-legal machine time rules (suc count) state b low high calm =
    go (next_slot machine time (slot_from machine state)) refl calm (λ next c l h k. slots-legal machine time rules count next c l h k)
  where
    here : is_hyper (slot_from machine state) ≡ false
    here = calm 0 (slot_from machine state) refl

    c : Closes machine state
    c = closes machine state rules b (calm 0 (slot_from machine state) refl)

    go : (found : Option State) → next_slot machine time (slot_from machine state) ≡ found → AreCalm (slot_from machine state ∷ slots_on count machine time found) →
        ((next : State) → Begins machine next → next.time ≤ time → time < next.time + count → AreCalm (first_slots count machine time next) →
        Ended machine time next (run_moves (first_slots count machine time next))) →
        Ended machine time state (run_moves (slot_from machine state ∷ slots_on count machine time found))
    go None e k rest = (
      end_from machine state,
      leads-on machine time (first_moves machine state) [] state (end_from machine state) (end_from machine state) (slot_moves_may machine time state).leads refl,
      last_ends machine time state c (last e),
    )
      where
        last : next_slot machine time (slot_from machine state) ≡ None → next_slot_at time (end_from machine state) (turn_of (end_from machine state)) ≡ None
        last f = sym (ap (λ h. by_hyper h) here) ∙ f
          where
            by_hyper : Bool → Option State
            by_hyper h = elim h [ true ↦ None | false ↦ next_slot_at time (end_from machine state) (turn_of (end_from machine state)) ]
    go (Some next) e k rest =
        let n = next_begins machine time state next rules b e in
        let low' : next.time ≤ time = (let w : n.later ≤ time = n.within in let t : n.later ≡ next.time = ap (λ (s : State). s.time) n.is_next in omega (arith, w, t)) in
        let high' : time < next.time + count = (let r : state.time < next.time = n.rises in omega (arith, r, high)) in
        let r = rest next n.begins low' high' (λ number slot f. k (suc number) slot f) in
        (r.0, on count next n low' high' r.0 r.1, r.2)
      where
        on : (count : ℕ) (next : State) (n : NextSlot machine time state next) → next.time ≤ time → time < next.time + count → (final : State) →
            Leads machine time next (run_moves (first_slots count machine time next)) final →
            Leads machine time state (first_moves machine state ++ moves_after_turns (first_slots count machine time next)) final
        on zero next n l h final leads = absurd (omega (arith, l, h))
        on (suc count) next n l h final leads = turns-on machine time time state next (run_moves (first_slots (suc count) machine time next)) final c n n.within leads

pub first_runs_are_legal : FirstRunsAreLegal
first_runs_are_legal machine time rules calm =
    let r = slots-legal machine time rules (time + 1) (start machine) (first_begins machine rules) (omega arith) (omega arith) calm in
    (r.0, record { leads = r.1; ends = r.2 })

-- The first run up to a time has every slot to which a turn leads by then, each later than those before it.
use Rattle.std.proofs.Common.{◌≡◌, ℕ, zero, suc, ◌+◌, ◌<◌, ◌≤◌, List, [], ◌∷◌, refl, ap, arith}
use Rattle.std.specs.Prelude.{Option, Some, None}
use Rattle.vf_base.specs.Lists.{AllHold}
use Rattle.v_design.specs.Designs.{Machine}
use Rattle.v_design.specs.States.{State, start}
use Rattle.v_design.specs.Runs.{FirstSlot, next_slot, first_slots}
use Rattle.v_design.specs.WellFormed.{KeepsRules}
use Rattle.order_laws.specs.FirstRuns.{Follow, Rise, FirstRunsGoOn}
use Rattle.order_laws.proofs.FirstOrder.SlotChain.{Begins, slot_from, next_begins}
use Rattle.order_laws.proofs.FirstOrder.FineSlots.{slots_on, first_begins}
use Rattle.order_laws.proofs.FirstOrder.ReportLines.{race-time}

follow : (machine : Machine) (time : ℕ) → KeepsRules machine.design → (count : ℕ) (state : State) → Begins machine state → state.time ≤ time → time < state.time + count →
    Follow machine time (Some state) (first_slots count machine time state)
follow machine time rules zero state b low high = absurd (omega (arith, low, high))
follow machine time rules (suc count) state b low high = (refl, go (next_slot machine time (slot_from machine state)) refl (λ next c l h. follow machine time rules count next c l h))
  where
    go : (found : Option State) → next_slot machine time (slot_from machine state) ≡ found →
        ((next : State) → Begins machine next → next.time ≤ time → time < next.time + count → Follow machine time (Some next) (first_slots count machine time next)) →
        Follow machine time found (slots_on count machine time found)
    go None e rest = tt
    go (Some next) e rest =
        let n = next_begins machine time state next rules b e in
        let t : n.later ≡ next.time = ap (λ (s : State). s.time) n.is_next in
        let w : n.later ≤ time = n.within in
        let r : state.time < next.time = n.rises in
        rest next n.begins (omega (arith, t, w)) (omega (arith, r, high))

all-later : (machine : Machine) (time low : ℕ) → KeepsRules machine.design → (count : ℕ) (state : State) → Begins machine state → low < state.time →
    AllHold (λ (later : FirstSlot). low < later.begins.time) (first_slots count machine time state)
all-later machine time low rules zero state b h = tt
all-later machine time low rules (suc count) state b h = (h, go (next_slot machine time (slot_from machine state)) refl (λ next c l. all-later machine time low rules count next c l))
  where
    go : (found : Option State) → next_slot machine time (slot_from machine state) ≡ found →
        ((next : State) → Begins machine next → low < next.time → AllHold (λ (later : FirstSlot). low < later.begins.time) (first_slots count machine time next)) →
        AllHold (λ (later : FirstSlot). low < later.begins.time) (slots_on count machine time found)
    go None e rest = tt
    go (Some next) e rest =
        let n = next_begins machine time state next rules b e in
        let r : state.time < next.time = n.rises in
        rest next n.begins (omega (arith, r, h))

rise : (machine : Machine) (time : ℕ) → KeepsRules machine.design → (count : ℕ) (state : State) → Begins machine state → Rise (first_slots count machine time state)
rise machine time rules zero state b = tt
rise machine time rules (suc count) state b = go (next_slot machine time (slot_from machine state)) refl (λ next c. rise machine time rules count next c)
  where
    go : (found : Option State) → next_slot machine time (slot_from machine state) ≡ found → ((next : State) → Begins machine next → Rise (first_slots count machine time next)) →
        Rise (slot_from machine state ∷ slots_on count machine time found)
    go None e rest = (tt, tt)
    go (Some next) e rest = let n = next_begins machine time state next rules b e in (all-later machine time state.time rules count next n.begins n.rises, rest next n.begins)

pub first_runs_go_on : FirstRunsGoOn
first_runs_go_on = record {
  follow = λ machine time rules. follow machine time rules (time + 1) (start machine) (first_begins machine rules) (omega arith) (omega arith);
  rise = λ machine time rules. rise machine time rules (time + 1) (start machine) (first_begins machine rules);
  race_time = race-time;
}

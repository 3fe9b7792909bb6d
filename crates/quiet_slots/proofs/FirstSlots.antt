-- The slots of a first run, one after the other.
use Rattle.std.proofs.Common.{◌≡◌, ℕ, zero, suc, ◌+◌, ◌<◌, ◌≤◌, List, [], ◌∷◌, Bool, true, false, refl, sym, ap, subst, ◌∙◌, arith}
use Rattle.std.specs.Prelude.{Option, Some, None, slice_get, nat_le}
use Rattle.std.proofs.lemmas.Bool.{leb-false}
use Rattle.v_design.specs.Designs.{Machine}
use Rattle.v_design.specs.States.{State, Event, Step, LaneStep, Evaluation, NetUpdate, TurnKind, PostponedTurn, UpdatesTurn, TimeTurn, is_quiescent, turn_of, turned, time_turn, start}
use Rattle.v_design.specs.Runs.{Move, Happens, FirstSlot, named_event, or_event, work_of, first_event, turn_in_slot, event_or_turn, turned_by, made, all_made, is_counted, counted_steps}
use Rattle.v_design.specs.Runs.{less_one_if, slot_moves, most_steps, most_moves, first_moves, slot_end, is_hyper, next_slot_at, next_slot, only_if, first_run, happened}
use Rattle.v_design.specs.WellFormed.{KeepsRules}
use Rattle.v_design.specs.Laws.{BeginsPhase, PhasesBegin, SlotsEnd}
use Rattle.order_laws.specs.FirstRuns.{Follow, FirstRunsGoOn}
use Rattle.machine_laws.specs.SlotLoop.{Moment, ComesTo, SlotsBegin, EventsGoOn, TurnsGoOn, IsIdle, first_lane, first_ready, slot_from, steps_of, first_moment, after_event, after_turn}
use Rattle.quiet_slots.specs.FirstSlots.{RestsAfterSlot, FirstSlotsStand}

-- the laws of the loop that runs a slot
pub record LoopLaws : Type 0 where
  pub begin : SlotsBegin
  pub event : EventsGoOn
  pub turn : TurnsGoOn
  pub ends : SlotsEnd
  pub phases : PhasesBegin
  pub runs : FirstRunsGoOn

-- where the first order takes no event, none is possible
pub idle-at : (state : State) → first_event state ≡ None → IsIdle state
idle-at state e = go (work_of 0 state.nodes) (first_lane state) (first_ready state) e
  where
    go : (work : Option Event) (lane ready : Option ℕ) → or_event work (or_event (named_event LaneStep lane) (named_event Step ready)) ≡ None → (work ≡ None) × (lane ≡ None) × (ready ≡ None)
    go (Some event) lane ready f = cc
    go None (Some process) ready f = cc
    go None None (Some process) f = cc
    go None None None f = (refl, refl, refl)

-- The moves of a slot lead to a moment

record Reaches (machine : Machine) (final : State) : Type 0 where
  there : Moment
  comes : ComesTo machine there
  is : there.state ≡ final

steps-left : (event : Event) (steps left most : ℕ) → steps + suc left ≡ most → steps + steps_of event + less_one_if (is_counted (Happens event)) (suc left) ≡ most
steps-left (Step process) steps left most e = omega (arith, e)
steps-left (LaneStep process) steps left most e = omega (arith, e)
steps-left (Evaluation node) steps left most e = omega (arith, e)
steps-left (NetUpdate node) steps left most e = omega (arith, e)

-- the moves that begin with one, if one comes
abbrev pub moves_from : ℕ → ℕ → Machine → State → Option Move → List Move
moves_from most left machine state None = []
moves_from most left machine state (Some move) = move ∷ slot_moves most (less_one_if (is_counted move) (suc left)) machine (made machine state move)

abbrev AllReach : Machine → ℕ → Type 0
AllReach machine most =
    (left : ℕ) (at : Moment) → ComesTo machine at → at.steps + left ≡ most_steps + 1 → Reaches machine (all_made machine at.state (slot_moves most left machine at.state))

turn-reaches : LoopLaws → (machine : Machine) → KeepsRules machine.design → (most left : ℕ) (at : Moment) → ComesTo machine at → at.steps + suc left ≡ most_steps + 1 → AllReach machine most →
    first_event at.state ≡ None →
    (turn : Option TurnKind) → turn_of at.state ≡ turn → Reaches machine (all_made machine at.state (moves_from most left machine at.state (turn_in_slot turn)))
turn-reaches laws machine rules most left at comes room rest e None t = record { there = at; comes = comes; is = refl }
turn-reaches laws machine rules most left at comes room rest e (Some (TimeTurn time)) t = record { there = at; comes = comes; is = refl }
turn-reaches laws machine rules most left at comes room rest e (Some PostponedTurn) t =
    subst (λ s. Reaches machine (all_made machine s (slot_moves most (suc left) machine s))) (ap (λ o. turned_by o at.state) (sym t))
    (rest (suc left) (after_turn PostponedTurn at) (laws.turn machine at PostponedTurn rules comes (omega (arith, room)) (idle-at at.state e) t refl) room)
turn-reaches laws machine rules most left at comes room rest e (Some UpdatesTurn) t =
    subst (λ s. Reaches machine (all_made machine s (slot_moves most (suc left) machine s))) (ap (λ o. turned_by o at.state) (sym t))
    (rest (suc left) (after_turn UpdatesTurn at) (laws.turn machine at UpdatesTurn rules comes (omega (arith, room)) (idle-at at.state e) t refl) room)

move-reaches : LoopLaws → (machine : Machine) → KeepsRules machine.design → (most left : ℕ) (at : Moment) → ComesTo machine at → at.steps + suc left ≡ most_steps + 1 → AllReach machine most →
    (found : Option Event) → first_event at.state ≡ found → Reaches machine (all_made machine at.state (moves_from most left machine at.state (event_or_turn found (turn_of at.state))))
move-reaches laws machine rules most left at comes room rest (Some event) e =
    rest (less_one_if (is_counted (Happens event)) (suc left)) (after_event machine event at) (laws.event machine at event rules comes (omega (arith, room)) e)
    (steps-left event at.steps left (most_steps + 1) room)
move-reaches laws machine rules most left at comes room rest None e = turn-reaches laws machine rules most left at comes room rest e (turn_of at.state) refl

reaches : LoopLaws → (machine : Machine) → KeepsRules machine.design → (most : ℕ) → AllReach machine most
reaches laws machine rules zero left at comes room = record { there = at; comes = comes; is = refl }
reaches laws machine rules (suc most) zero at comes room = record { there = at; comes = comes; is = refl }
reaches laws machine rules (suc most) (suc left) at comes room = move-reaches laws machine rules most left at comes room (reaches laws machine rules most) (first_event at.state) refl

-- A slot's end

pub few-steps : (slot : FirstSlot) → is_hyper slot ≡ false → counted_steps slot.moves ≤ most_steps
few-steps slot h = let b : counted_steps slot.moves < suc most_steps = leb-false (suc most_steps) (counted_steps slot.moves) h in omega (arith, b)

next-asked : LoopLaws → (machine : Machine) → KeepsRules machine.design → (begins : State) → BeginsPhase machine begins → counted_steps (first_moves machine begins) ≤ most_steps →
    (turn : TurnKind) → BeginsPhase machine (turned turn (slot_end machine (slot_from machine begins)))
next-asked laws machine rules begins asked few turn =
    let zeros : 0 + (most_steps + 1) ≡ most_steps + 1 = omega arith in
    let r = reaches laws machine rules (most_moves machine) (most_steps + 1) (first_moment begins) (laws.begin machine begins asked) zeros in
    let same : happened machine r.there.phase_begins r.there.events ≡ all_made machine begins (first_moves machine begins) = sym r.comes.happened_so_far ∙ r.is in
    subst (λ s. BeginsPhase machine (turned turn s)) same
    (laws.phases.next machine r.there.phase_begins r.there.events turn rules r.comes.phase_asked
    (record { each_possible = r.comes.each_possible; ends = ap is_quiescent same ∙ (laws.ends machine begins rules asked few).0 }))

slot-rests : LoopLaws → (machine : Machine) → KeepsRules machine.design → (begins : State) → BeginsPhase machine begins → is_hyper (slot_from machine begins) ≡ false →
    RestsAfterSlot machine (slot_end machine (slot_from machine begins))
slot-rests laws machine rules begins asked few =
    let ends = laws.ends machine begins rules asked (few-steps (slot_from machine begins) few) in
    record {
      quiescent = ends.0;
      no_turn = ends.1;
      begins = λ time. next-asked laws machine rules begins asked (few-steps (slot_from machine begins) few) (TimeTurn time);
    }

-- Slots in a row

-- a slot begins as the laws ask, if there is one
abbrev Asked : Machine → Option State → Type 0
Asked machine None = Unit {0}
Asked machine (Some state) = BeginsPhase machine state

slot-asked : LoopLaws → (machine : Machine) → KeepsRules machine.design → (time : ℕ) (begins : State) → BeginsPhase machine begins → Asked machine (next_slot machine time (slot_from machine begins))
slot-asked laws machine rules time begins asked = go (is_hyper slot) refl
  where
    slot : FirstSlot
    slot = slot_from machine begins

    timed : counted_steps (first_moves machine begins) ≤ most_steps → (later : ℕ) (b : Bool) → Asked machine (only_if b (time_turn later (slot_end machine slot)))
    timed few later true = next-asked laws machine rules begins asked few (TimeTurn later)
    timed few later false = tt

    at : counted_steps (first_moves machine begins) ≤ most_steps → (turn : Option TurnKind) → Asked machine (next_slot_at time (slot_end machine slot) turn)
    at few None = tt
    at few (Some PostponedTurn) = tt
    at few (Some UpdatesTurn) = tt
    at few (Some (TimeTurn later)) = timed few later (nat_le later time)

    go : (hyper : Bool) → is_hyper slot ≡ hyper → Asked machine (elim hyper as (λ _. Option State)
        [ true ↦ None | false ↦ next_slot_at time (slot_end machine slot) (turn_of (slot_end machine slot)) ])
    go true h = tt
    go false h = at (few-steps slot h) (turn_of (slot_end machine slot))

some-slot : (a b : FirstSlot) → Some a ≡ Some b → a ≡ b
some-slot a b e = cc

-- a slot of the first order, which begins as the laws ask
record IsAsked (machine : Machine) (slot : FirstSlot) : Type 0 where
  asked : BeginsPhase machine slot.begins
  moves : slot ≡ slot_from machine slot.begins

follow-asked : LoopLaws → (machine : Machine) → KeepsRules machine.design → (time : ℕ) (begins : Option State) (slots : List FirstSlot) → Asked machine begins → Follow machine time begins slots →
    (number : ℕ) (slot : FirstSlot) → slice_get slots number ≡ Some slot → IsAsked machine slot
follow-asked laws machine rules time None [] asked follow number slot here = cc
follow-asked laws machine rules time None (first ∷ slots) asked follow number slot here = absurd follow
follow-asked laws machine rules time (Some state) [] asked follow number slot here = absurd follow
follow-asked laws machine rules time (Some state) (first ∷ slots) asked follow zero slot here =
    subst (IsAsked machine) (sym follow.0 ∙ some-slot first slot here) (record { asked = asked; moves = refl })
follow-asked laws machine rules time (Some state) (first ∷ slots) asked follow (suc number) slot here =
    follow-asked laws machine rules time (next_slot machine time first) slots
    (subst (λ s. Asked machine (next_slot machine time s)) (sym follow.0) (slot-asked laws machine rules time state asked)) follow.1 number slot here

-- the slot behind one
follow-next : (machine : Machine) (time : ℕ) (begins : Option State) (slots : List FirstSlot) → Follow machine time begins slots → (number : ℕ) (slot : FirstSlot) (next : State) →
    slice_get slots number ≡ Some slot → next_slot machine time slot ≡ Some next → slice_get slots (suc number) ≡ Some (slot_from machine next)
follow-next machine time None [] follow number slot next here after = cc
follow-next machine time None (first ∷ slots) follow number slot next here after = absurd follow
follow-next machine time (Some state) [] follow number slot next here after = absurd follow
follow-next machine time (Some state) (first ∷ slots) follow zero slot next here after =
    go slots (subst (λ (o : Option State). Follow machine time o slots) (ap (next_slot machine time) (some-slot first slot here) ∙ after) follow.1)
  where
    go : (slots : List FirstSlot) → Follow machine time (Some next) slots → slice_get slots 0 ≡ Some (slot_from machine next)
    go [] f = absurd f
    go (second ∷ slots) f = ap Some f.0
follow-next machine time (Some state) (first ∷ slots) follow (suc number) slot next here after =
    follow-next machine time (next_slot machine time first) slots follow.1 number slot next here after

first-asked : LoopLaws → (machine : Machine) (end number : ℕ) (slot : FirstSlot) → KeepsRules machine.design → slice_get (first_run machine end) number ≡ Some slot → IsAsked machine slot
first-asked laws machine end number slot rules here =
    follow-asked laws machine rules end (Some (start machine)) (first_run machine end) (laws.phases.first machine rules) (laws.runs.follow machine end rules) number slot here

pub first_slots_stand : LoopLaws → FirstSlotsStand
first_slots_stand laws = record {
  begins = λ machine end number slot rules here. (first-asked laws machine end number slot rules here).asked;
  moves = λ machine end number slot rules here. (first-asked laws machine end number slot rules here).moves;
  rests = λ machine end number slot rules here few.
      let own = first-asked laws machine end number slot rules here in
      subst (λ (s : FirstSlot). RestsAfterSlot machine (slot_end machine s)) (sym own.moves)
      (slot-rests laws machine rules slot.begins own.asked (ap is_hyper (sym own.moves) ∙ few));
  next = λ machine end number slot begins rules here after.
      follow-next machine end (Some (start machine)) (first_run machine end) (laws.runs.follow machine end rules) number slot begins here after;
}

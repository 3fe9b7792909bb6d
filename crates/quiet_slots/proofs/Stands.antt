-- A machine that stands behind a slot of its first run.
use Rattle.std.proofs.Common.{◌≡◌, ◌≢◌, ℕ, zero, suc, ◌<◌, ◌≤◌, List, [], ◌∷◌, Bool, true, false, not, ◌&&◌, refl, sym, ap, subst, ◌∙◌, arith}
use Rattle.std.specs.Prelude.{Option, Some, None, slice_get, nat_le}
use Rattle.std.proofs.lemmas.Bool.{le-leb}
use Rattle.vf_base.specs.Lists.{AllHold}
use Rattle.v_design.specs.Assignments.{ValueUpdate}
use Rattle.v_design.specs.Designs.{Machine}
use Rattle.v_design.specs.States.{State, TimeTurn, process_at, has_event, has_work, is_ready, is_any, some_in, is_quiescent, next_time_of, time_turn_at, turn_of, time_turn}
use Rattle.v_design.specs.Runs.{FirstSlot, first_run, slot_end, next_slot_at, next_slot, only_if}
use Rattle.v_design.specs.Grades.{SlotOutcome, Fine, Race, Hyper, slot_outcome, Stop, first_stop}
use Rattle.v_design.specs.OwnSteps.{slots_through_stop}
use Rattle.v_design.specs.WellFormed.{KeepsRules}
use Rattle.order_laws.specs.FirstRuns.{Rise}
use Rattle.machine_laws.specs.SlotLoop.{slot_from}
use Rattle.copy_laws.specs.Windows.{state_at}
use Rattle.copy_laws.specs.Turns.{ComesAfter}
use Rattle.grade_laws.specs.Ahead.{StopsAfter}
use Rattle.beside_laws.specs.Stands.{HasRun, RunsGoOn, RunsStand}
use Rattle.quiet_slots.specs.FirstSlots.{RestsAfterSlot, FirstSlotsStand}
use Rattle.quiet_slots.proofs.Rests.{or-neither, none-passes, NoneTurns, turn-next}
use Rattle.quiet_slots.proofs.Slots.{fine-clean}

-- the first run of a machine was run to a time, and stands behind one of its slots, which is fine
pub record Stand (machine : Machine) (end time : ℕ) (state : State) : Type 0 where
  pub number : ℕ
  pub last : FirstSlot
  pub stands : slice_get (first_run machine end) number ≡ Some last
  pub fine : slot_outcome machine last ≡ Fine
  pub is : state ≡ slot_end machine last
  pub run : HasRun machine end (Some time) (next_slot_at end state (turn_of state)) state

-- the next slot behind a fine one
next-fine : (machine : Machine) (end : ℕ) (slot : FirstSlot) → slot_outcome machine slot ≡ Fine →
    next_slot machine end slot ≡ next_slot_at end (slot_end machine slot) (turn_of (slot_end machine slot))
next-fine machine end slot fine =
    ap (λ (hyper : Bool). elim hyper as (λ _. Option State) [ true ↦ None | false ↦ next_slot_at end (slot_end machine slot) (turn_of (slot_end machine slot)) ]) (fine-clean machine slot fine).few

next-begins : (end : ℕ) (state : State) (time : ℕ) → turn_of state ≡ Some (TimeTurn time) → time ≤ end → next_slot_at end state (turn_of state) ≡ Some (time_turn time state)
next-begins end state time e low = ap (next_slot_at end state) e ∙ ap (λ b. only_if b (time_turn time state)) (le-leb time end low)

pub stand-rests : FirstSlotsStand → (machine : Machine) → KeepsRules machine.design → (end time : ℕ) (state : State) → Stand machine end time state → RestsAfterSlot machine state
stand-rests law machine rules end time state s =
    subst (RestsAfterSlot machine) (sym s.is) (law.rests machine end s.number s.last rules s.stands (fine-clean machine s.last s.fine).few)

pub stand-slot : FirstSlotsStand → (machine : Machine) → KeepsRules machine.design → (end now : ℕ) (state : State) (s : Stand machine end now state) (time : ℕ) →
    turn_of state ≡ Some (TimeTurn time) → time ≤ end → slice_get (first_run machine end) (suc s.number) ≡ Some (slot_from machine (time_turn time state))
stand-slot law machine rules end now state s time e low =
    law.next machine end s.number s.last (time_turn time state) rules s.stands
    (next-fine machine end s.last s.fine ∙ ap (λ x. next_slot_at end x (turn_of x)) (sym s.is) ∙ next-begins end state time e low)

stand-run : (machine : Machine) (end now : ℕ) (state : State) → Stand machine end now state → (time : ℕ) → turn_of state ≡ Some (TimeTurn time) → time ≤ end →
    HasRun machine end (Some now) (Some (time_turn time state)) state
stand-run machine end now state s time e low = subst (λ (n : Option State). HasRun machine end (Some now) n state) (next-begins end state time e low) s.run

pub stand-more : RunsGoOn → FirstSlotsStand → (machine : Machine) → KeepsRules machine.design → (end now : ℕ) (state : State) → Stand machine end now state → (time : ℕ) →
    turn_of state ≡ Some (TimeTurn time) → time ≤ end → slot_outcome machine (slot_from machine (time_turn time state)) ≡ Fine →
    Stand machine end time (slot_end machine (slot_from machine (time_turn time state)))
stand-more runs law machine rules end now state s time e low fine = record {
  number = suc s.number;
  last = slot_from machine (time_turn time state);
  stands = stand-slot law machine rules end now state s time e low;
  fine = fine;
  is = refl;
  run = subst (λ (n : Option State). HasRun machine end (Some time) n (slot_end machine (slot_from machine (time_turn time state))))
      (next-fine machine end (slot_from machine (time_turn time state)) fine)
      (runs.fine machine end (Some now) (time_turn time state) state (stand-run machine end now state s time e low) fine);
}

pub stand-later : RunsGoOn → (machine : Machine) (end now : ℕ) (state : State) → Stand machine end now state → (time : ℕ) → turn_of state ≡ Some (TimeTurn time) → time ≤ end → now < time
stand-later runs machine end now state s time e low = runs.later machine end (Some now) (time_turn time state) state (stand-run machine end now state s time e low)

-- a slot up to a time after which the first stop comes is fine
pub stand-fine : RunsGoOn → (machine : Machine) (end now : ℕ) (state : State) → Stand machine end now state → (time until : ℕ) → turn_of state ≡ Some (TimeTurn time) → time ≤ end → time ≤ until →
    StopsAfter until (first_stop machine (first_run machine end)) → slot_outcome machine (slot_from machine (time_turn time state)) ≡ Fine
stand-fine runs machine end now state s time until e low early stops = go (slot_outcome machine (slot_from machine (time_turn time state))) refl
  where
    no-stop : slot_outcome machine (slot_from machine (time_turn time state)) ≢ Fine → ⊥
    no-stop other =
        let late : until < time = subst (StopsAfter until)
        (runs.stops machine end (Some now) (time_turn time state) state (stand-run machine end now state s time e low) other) stops in
        absurd (omega (arith, late, early))

    go : (outcome : SlotOutcome) → slot_outcome machine (slot_from machine (time_turn time state)) ≡ outcome → slot_outcome machine (slot_from machine (time_turn time state)) ≡ Fine
    go Fine is = is
    go (Race pair) is = absurd (no-stop (λ fine. let no : Fine ≡ Race pair = sym fine ∙ is in cc))
    go Hyper is = absurd (no-stop (λ fine. let no : Fine ≡ Hyper = sym fine ∙ is in cc))

-- where no slot comes up to a time
pub stand-passes : RunsGoOn → (machine : Machine) (end now : ℕ) (state : State) → Stand machine end now state → (time : ℕ) → now ≤ time →
    ((begins : State) → next_slot_at end state (turn_of state) ≡ Some begins → time < begins.time) →
    (state_at machine end time ≡ state) × StopsAfter time (first_stop machine (first_run machine end))
stand-passes runs machine end now state s time low late =
    runs.stands machine end time (next_slot_at end state (turn_of state)) state (runs.passes machine end (Some now) (next_slot_at end state (turn_of state)) state time s.run low late)

-- at its time the run is in that state
pub stand-here : RunsGoOn → (machine : Machine) (end time : ℕ) (state : State) → Stand machine end time state → state_at machine end time ≡ state
stand-here runs machine end time state s = (runs.stands machine end time (next_slot_at end state (turn_of state)) state s.run).0

pub stand-again : RunsStand → (machine : Machine) → KeepsRules machine.design → (end time : ℕ) → StopsAfter time (first_stop machine (first_run machine end)) →
    Stand machine end time (state_at machine end time)
stand-again law machine rules end time stops =
    let s = law.slot machine end time rules stops in
    record { number = s.number; last = s.slot; stands = s.stands; fine = s.fine; is = s.state_is; run = law.again machine end time rules stops }

-- Times

-- a state's next slot comes after a time where the turn leads to a later one, or to none
turn-late : (end : ℕ) (state : State) (time : ℕ) (next : Option ℕ) → ComesAfter time next → (begins : State) → next_slot_at end state (time_turn_at next) ≡ Some begins → time < begins.time
turn-late end state time None late begins e = cc
turn-late end state time (Some next) late begins e = go (nat_le next end) e
  where
    some-is : (one other : State) → Some one ≡ Some other → one ≡ other
    some-is one other e = cc

    go : (b : Bool) → only_if b (time_turn next state) ≡ Some begins → time < begins.time
    go true f = subst (λ (s : State). time < s.time) (some-is (time_turn next state) begins f) late
    go false f = cc

pub next-later : (end : ℕ) (state : State) (time : ℕ) → NoneTurns state.time state → ComesAfter time (next_time_of state.processes) → (begins : State) →
    next_slot_at end state (turn_of state) ≡ Some begins → time < begins.time
next-later end state time none late begins e =
    turn-late end state time (next_time_of state.processes) late begins (sym (ap (next_slot_at end state) (turn-next state none)) ∙ e)

pub turned-later : (end : ℕ) (state : State) (time next : ℕ) → turn_of state ≡ Some (TimeTurn next) → time < next → (begins : State) → next_slot_at end state (turn_of state) ≡ Some begins →
    time < begins.time
turned-later end state time next turn late begins e = turn-late end state time (Some next) late begins (sym (ap (next_slot_at end state) turn) ∙ e)

-- At rest no process is ready, and each lane is empty

quiet-first : (b c : Bool) → (not b && not c) ≡ true → b ≡ false
quiet-first true c e = cc
quiet-first false c e = refl

quiet-process : (state : State) → is_quiescent state ≡ true → (p : ℕ) → (is_ready (process_at state p).activity ≡ false) × (is_any (process_at state p).lane ≡ false)
quiet-process state e p =
    or-neither (is_ready (process_at state p).activity) (is_any (process_at state p).lane)
    (none-passes has_event state.processes refl (quiet-first (some_in has_event state.processes) (some_in has_work state.nodes) e) p)

pub quiet-ready : (state : State) → is_quiescent state ≡ true → (p : ℕ) → is_ready (process_at state p).activity ≡ false
quiet-ready state e p = (quiet-process state e p).0

pub quiet-lane : (state : State) → is_quiescent state ≡ true → (p : ℕ) → is_any (process_at state p).lane ≡ false
quiet-lane state e p = (quiet-process state e p).1

pub empty-lane : (state : State) → is_quiescent state ≡ true → (p : ℕ) → (process_at state p).lane ≡ []
empty-lane state e p = empty (process_at state p).lane (quiet-lane state e p)
  where
    empty : (lane : List ValueUpdate) → is_any lane ≡ false → lane ≡ []
    empty [] f = refl
    empty (update ∷ lane) f = cc

-- The slots through the first stop

all-at : (P : FirstSlot → Type 0) (slots : List FirstSlot) (number : ℕ) (slot : FirstSlot) → AllHold P slots → slice_get slots number ≡ Some slot → P slot
all-at P [] number slot all here = cc
all-at P (first ∷ slots) zero slot all here = subst P (some-is first slot here) all.0
  where
    some-is : (one other : FirstSlot) → Some one ≡ Some other → one ≡ other
    some-is one other e = cc
all-at P (first ∷ slots) (suc number) slot all here = all-at P slots number slot all.1 here

-- one that begins up to a time after which the first stop comes is among them
pub through-stop : (machine : Machine) (until : ℕ) (slots : List FirstSlot) → Rise slots → StopsAfter until (first_stop machine slots) → (number : ℕ) (slot : FirstSlot) →
    slice_get slots number ≡ Some slot → slot.begins.time ≤ until → slice_get (slots_through_stop machine slots) number ≡ Some slot
through-stop machine until [] rise stops number slot here low = here
through-stop machine until (first ∷ slots) rise stops zero slot here low = here
through-stop machine until (first ∷ slots) rise stops (suc number) slot here low =
    go (slot_outcome machine first) stops (λ s. through-stop machine until slots rise.1 s number slot here low)
  where
    earlier : first.begins.time < slot.begins.time
    earlier = all-at (λ (later : FirstSlot). first.begins.time < later.begins.time) slots number slot rise.0 here

    go : (outcome : SlotOutcome) → StopsAfter until (elim outcome as (λ _. Option Stop) [
      | Fine ↦ first_stop machine slots
      | Race pair ↦ Some (record { time = first.begins.time; outcome = Race pair })
      | Hyper ↦ Some (record { time = first.begins.time; outcome = Hyper })
    ]) →
        (StopsAfter until (first_stop machine slots) → slice_get (slots_through_stop machine slots) number ≡ Some slot) →
        slice_get (elim outcome as (λ _. List FirstSlot) [ Fine ↦ slots_through_stop machine slots | Race pair ↦ [] | Hyper ↦ [] ]) number ≡ Some slot
    go Fine s rest = rest s
    go (Race pair) s rest = absurd (omega (arith, s, low, earlier))
    go Hyper s rest = absurd (omega (arith, s, low, earlier))

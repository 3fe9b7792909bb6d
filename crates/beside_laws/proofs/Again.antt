-- A first run that doesn't stop up to a time stands there (slots by IEEE 1364-2001, clause 5).
use Rattle.std.proofs.Common.{◌≡◌, ℕ, suc, ◌<◌, ◌≤◌, List, [], ◌∷◌, Bool, true, false, refl, sym, ap, subst, ◌∙◌, arith}
use Rattle.std.specs.Prelude.{Option, Some, None, nat_le, slice_get}
use Rattle.std.proofs.lemmas.Bool.{le-leb, leb-true, leb-false}
use Rattle.four_value.specs.Values.{LogicValue}
use Rattle.vf_base.specs.Lists.{AllHold}
use Rattle.v_design.specs.Designs.{Machine}
use Rattle.v_design.specs.States.{State, start, turn_of}
use Rattle.v_design.specs.Runs.{FirstSlot, first_run, next_slot, next_slot_at, slot_end, is_hyper}
use Rattle.v_design.specs.Grades.{SlotOutcome, Fine, Race, Hyper, phases, slot_outcome, first_race, race_or_fine, Stop, first_stop, samples, values_after}
use Rattle.order_laws.specs.FirstRuns.{Follow, Rise, FirstRunsGoOn}
use Rattle.copy_laws.specs.Windows.{state_by}
use Rattle.grade_laws.specs.Ahead.{StopsAfter}
use Rattle.grade_laws.specs.Grading.{StopsWithin}
use Rattle.beside_laws.specs.Stands.{RunsStand}
use Rattle.beside_laws.proofs.Runs.{states_by, state-begun, stop_by, all-after}
use Rattle.beside_laws.proofs.Gradings.{run-within, stops-within}

-- Slots

-- where a slot is fine, the next one is the one to which its last turn leads
next-fine : (machine : Machine) (end : ℕ) (slot : FirstSlot) → slot_outcome machine slot ≡ Fine →
    next_slot machine end slot ≡ next_slot_at end (slot_end machine slot) (turn_of (slot_end machine slot))
next-fine machine end slot fine = go (is_hyper slot) fine
  where
    go : (hyper : Bool) → elim hyper as (λ _. SlotOutcome) [ true ↦ Hyper | false ↦ race_or_fine (first_race machine 1 (phases machine slot)) ] ≡ Fine →
        elim hyper as (λ _. Option State) [ true ↦ None | false ↦ next_slot_at end (slot_end machine slot) (turn_of (slot_end machine slot)) ]
        ≡ next_slot_at end (slot_end machine slot) (turn_of (slot_end machine slot))
    go true f = cc
    go false f = refl

-- a slot that begins by a time after which the first stop comes is fine
fine-before : (machine : Machine) (time : ℕ) (slot : FirstSlot) (slots : List FirstSlot) → slot.begins.time ≤ time → StopsAfter time (first_stop machine (slot ∷ slots)) →
    (slot_outcome machine slot ≡ Fine) × StopsAfter time (first_stop machine slots)
fine-before machine time slot slots low stops = go (slot_outcome machine slot) stops
  where
    go : (outcome : SlotOutcome) → StopsAfter time (stop_by machine slot slots outcome) → (outcome ≡ Fine) × StopsAfter time (first_stop machine slots)
    go Fine s = (refl, s)
    go (Race pair) s = absurd (omega (arith, low, s))
    go Hyper s = absurd (omega (arith, low, s))

-- Where a run stands

-- the slots that are ahead at a time, from a state in which the run stands before that
record Stands (machine : Machine) (end time : ℕ) (slots : List FirstSlot) (from to : State) : Type 0 where
  ahead : List FirstSlot
  follow : Follow machine end (next_slot_at end to (turn_of to)) ahead
  rise : Rise ahead
  later : AllHold (λ (slot : FirstSlot). time < slot.begins.time) ahead
  stops : first_stop machine slots ≡ first_stop machine ahead
  states : (later : ℕ) → time ≤ later → state_by machine from slots later ≡ state_by machine to ahead later

-- one slot more before them
stands-more : (machine : Machine) (end time : ℕ) (slot : FirstSlot) (slots : List FirstSlot) (from to : State) → slot.begins.time ≤ time → slot_outcome machine slot ≡ Fine →
    Stands machine end time slots (slot_end machine slot) to → Stands machine end time (slot ∷ slots) from to
stands-more machine end time slot slots from to low fine s = record {
  ahead = s.ahead;
  follow = s.follow;
  rise = s.rise;
  later = s.later;
  stops = ap (stop_by machine slot slots) fine ∙ s.stops;
  states = λ later h. state-begun machine later from slot slots (omega (arith, low, h)) ∙ s.states later h;
}

stands-from : (machine : Machine) (end time : ℕ) (slots : List FirstSlot) (from : State) → Follow machine end (next_slot_at end from (turn_of from)) slots → Rise slots →
    StopsAfter time (first_stop machine slots) → Stands machine end time slots from (state_by machine from slots time)
stands-from machine end time [] from f r s = record { ahead = []; follow = f; rise = tt; later = tt; stops = refl; states = λ later h. refl }
stands-from machine end time (slot ∷ slots) from f r s =
    go (next_slot_at end from (turn_of from)) f
    (λ g. by-time (nat_le slot.begins.time time) refl (λ low. let fine = fine-before machine time slot slots low s in
    stands-more machine end time slot slots from (state_by machine (slot_end machine slot) slots time) low fine.0
    (stands-from machine end time slots (slot_end machine slot) (subst (λ (n : Option State). Follow machine end n slots) (next-fine machine end slot fine.0) g) r.1 fine.1)))
  where
    by-time : (b : Bool) → nat_le slot.begins.time time ≡ b → (slot.begins.time ≤ time → Stands machine end time (slot ∷ slots) from (state_by machine (slot_end machine slot) slots time)) →
        Stands machine end time (slot ∷ slots) from (states_by machine time from slot slots b)
    by-time true e begun = begun (leb-true slot.begins.time time e)
    by-time false e begun =
        let late : time < slot.begins.time = leb-false slot.begins.time time e in
        record {
          ahead = slot ∷ slots;
          follow = f;
          rise = r;
          later = (late, all-after time slot.begins.time slots (omega (arith, late)) r.0);
          stops = refl;
          states = λ later h. refl;
        }

    go : (next : Option State) → Follow machine end next (slot ∷ slots) →
        (Follow machine end (next_slot machine end slot) slots → Stands machine end time (slot ∷ slots) from (state_by machine from (slot ∷ slots) time)) →
        Stands machine end time (slot ∷ slots) from (state_by machine from (slot ∷ slots) time)
    go None g rest = absurd g
    go (Some begins) g rest = rest g.1

-- the first slot of a run begins at time 0
stands-again : (machine : Machine) (end time : ℕ) (slots : List FirstSlot) → Follow machine end (Some (start machine)) slots → Rise slots → StopsAfter time (first_stop machine slots) →
    Stands machine end time slots (start machine) (state_by machine (start machine) slots time)
stands-again machine end time [] f r s = absurd f
stands-again machine end time (slot ∷ slots) f r s =
    let low : slot.begins.time ≤ time = subst (λ (x : FirstSlot). x.begins.time ≤ time) (sym f.0) (omega arith) in
    let fine = fine-before machine time slot slots low s in
    subst (Stands machine end time (slot ∷ slots) (start machine)) (sym (state-begun machine time (start machine) slot slots low))
    (stands-more machine end time slot slots (start machine) (state_by machine (slot_end machine slot) slots time) low fine.0
    (stands-from machine end time slots (slot_end machine slot) (subst (λ (n : Option State). Follow machine end n slots) (next-fine machine end slot fine.0) f.1) r.1 fine.1))

-- The slot after which it stands

record Last (machine : Machine) (slots : List FirstSlot) (time : ℕ) (state : State) : Type 0 where
  number : ℕ
  slot : FirstSlot
  stands : slice_get slots number ≡ Some slot
  fine : slot_outcome machine slot ≡ Fine
  by_then : slot.begins.time ≤ time
  state_is : state ≡ slot_end machine slot

last-first : (machine : Machine) (slot : FirstSlot) (slots : List FirstSlot) (time : ℕ) → slot.begins.time ≤ time → slot_outcome machine slot ≡ Fine →
    Last machine (slot ∷ slots) time (slot_end machine slot)
last-first machine slot slots time low fine = record { number = 0; slot = slot; stands = refl; fine = fine; by_then = low; state_is = refl }

last-more : (machine : Machine) (slot : FirstSlot) (slots : List FirstSlot) (time : ℕ) (state : State) → Last machine slots time state → Last machine (slot ∷ slots) time state
last-more machine slot slots time state l =
    record { number = suc l.number; slot = l.slot; stands = l.stands; fine = l.fine; by_then = l.by_then; state_is = l.state_is }

last-slot : (machine : Machine) (time : ℕ) (first : FirstSlot) (slots : List FirstSlot) → first.begins.time ≤ time → StopsAfter time (first_stop machine (first ∷ slots)) →
    Last machine (first ∷ slots) time (state_by machine (slot_end machine first) slots time)
last-slot machine time first [] low s = last-first machine first [] time low (fine-before machine time first [] low s).0
last-slot machine time first (slot ∷ slots) low s = go (nat_le slot.begins.time time) refl (λ h. last-slot machine time slot slots h fine.1)
  where
    fine : (slot_outcome machine first ≡ Fine) × StopsAfter time (first_stop machine (slot ∷ slots))
    fine = fine-before machine time first (slot ∷ slots) low s

    go : (b : Bool) → nat_le slot.begins.time time ≡ b → (slot.begins.time ≤ time → Last machine (slot ∷ slots) time (state_by machine (slot_end machine slot) slots time)) →
        Last machine (first ∷ slot ∷ slots) time (states_by machine time (slot_end machine first) slot slots b)
    go true e rest = last-more machine first (slot ∷ slots) time (state_by machine (slot_end machine slot) slots time) (rest (leb-true slot.begins.time time e))
    go false e rest = last-first machine first (slot ∷ slots) time low fine.0

stands-after : (machine : Machine) (end time : ℕ) (slots : List FirstSlot) → Follow machine end (Some (start machine)) slots → StopsAfter time (first_stop machine slots) →
    Last machine slots time (state_by machine (start machine) slots time)
stands-after machine end time [] f s = absurd f
stands-after machine end time (slot ∷ slots) f s =
    let at : slot.begins.time ≡ 0 = ap (λ (x : FirstSlot). x.begins.time) f.0 in
    let low : slot.begins.time ≤ time = omega (arith, at) in
    subst (Last machine (slot ∷ slots) time) (sym (state-begun machine time (start machine) slot slots low)) (last-slot machine time slot slots low s)

-- What the strobes see

values-are : (machine : Machine) (time : ℕ) (last : State) (slots : List FirstSlot) → values_after machine last.values slots time ≡ (state_by machine last slots time).values
values-are machine time last [] = refl
values-are machine time last (slot ∷ slots) = go (nat_le slot.begins.time time) (values-are machine time (slot_end machine slot) slots)
  where
    go : (b : Bool) → values_after machine (slot_end machine slot).values slots time ≡ (state_by machine (slot_end machine slot) slots time).values →
        elim b as (λ _. List LogicValue) [ true ↦ values_after machine (slot_end machine slot).values slots time | false ↦ last.values ] ≡ (states_by machine time last slot slots b).values
    go true rest = rest
    go false rest = refl

values-seen : (machine : Machine) (end time : ℕ) (slots : List FirstSlot) → Follow machine end (Some (start machine)) slots →
    values_after machine [] slots time ≡ (state_by machine (start machine) slots time).values
values-seen machine end time [] f = absurd f
values-seen machine end time (slot ∷ slots) f =
    let at : slot.begins.time ≡ 0 = ap (λ (x : FirstSlot). x.begins.time) f.0 in
    let low : slot.begins.time ≤ time = omega (arith, at) in
    ap (λ b. elim b as (λ _. List LogicValue) [ true ↦ values_after machine (slot_end machine slot).values slots time | false ↦ [] ]) (le-leb slot.begins.time time low)
    ∙ values-are machine time (slot_end machine slot) slots
    ∙ sym (ap (λ (s : State). s.values) (state-begun machine time (start machine) slot slots low))

-- At the end

-- what stops neither up to a time nor after it doesn't stop
never-stops : (time : ℕ) (stop : Option Stop) → StopsWithin time stop → StopsAfter time stop → stop ≡ None
never-stops time None within after = refl
never-stops time (Some stop) within after = absurd (omega (arith, within, after))

-- The laws

pub runs_stand : FirstRunsGoOn → RunsStand
runs_stand law = record {
  again = λ machine end time rules stops.
      let s = stands-again machine end time (first_run machine end) (law.follow machine end rules) (law.rise machine end rules) stops in
      record { ahead = s.ahead; follow = s.follow; rise = s.rise; later = s.later; stops = s.stops; states = s.states };
  slot = λ machine end time rules stops.
      let l = stands-after machine end time (first_run machine end) (law.follow machine end rules) stops in
      record { number = l.number; slot = l.slot; stands = l.stands; fine = l.fine; by_then = l.by_then; state_is = l.state_is };
  never = λ machine end rules. never-stops end (first_stop machine (first_run machine end)) (stops-within machine end (first_run machine end) (run-within law machine end rules));
  sees = λ machine watched end time rules. ap (samples watched) (values-seen machine end time (first_run machine end) (law.follow machine end rules));
}

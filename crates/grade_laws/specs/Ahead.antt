-- A first run that is run slot by slot: what is still ahead of it, how it stops, and what a strobe sees of it (slots by IEEE 1364-2001, clause 5).
use Rattle.std.proofs.Common.{◌≡◌, ℕ, ◌<◌, ◌≤◌, List, [], ◌∷◌, Bool, true, false, refl, sym, ap, subst, ◌∙◌, arith}
use Rattle.std.specs.Prelude.{Option, Some, None, nat_le}
use Rattle.std.proofs.lemmas.Bool.{le-leb, lt-leb}
use Rattle.vf_base.specs.Base.{ReportedPair}
use Rattle.four_value.specs.Values.{LogicValue}
use Rattle.vf_base.specs.Lists.{AllHold}
use Rattle.v_design.specs.Designs.{Machine}
use Rattle.v_design.specs.States.{State, start}
use Rattle.v_design.specs.Runs.{FirstSlot, first_run, next_slot, slot_end}
use Rattle.v_design.specs.Grades.{SlotOutcome, Fine, Race, Hyper, slot_outcome, values_after, Stop, first_stop}
use Rattle.v_design.specs.WellFormed.{KeepsRules}
use Rattle.order_laws.specs.FirstRuns.{Follow, Rise, FirstRunsGoOn}
use Rattle.machine_laws.specs.SlotLoop.{slot_from}

-- What stands

-- a stop that comes after a time, or none
abbrev pub StopsAfter : ℕ → Option Stop → Type 0
StopsAfter time None = Unit {0}
StopsAfter time (Some stop) = time < stop.time

-- the first run of a machine to an end was run through its slots up to a time, which are fine and led to these values; the next slot, if there is one up to the end, begins in this state
pub record IsAhead (machine : Machine) (end now : ℕ) (next : Option State) (values : List LogicValue) : Type 0 where
  -- the slots that are ahead, each later than the one before
  pub slots : List FirstSlot
  pub follow : Follow machine end next slots
  pub rise : Rise slots
  pub later : AllHold (λ (slot : FirstSlot). now ≤ slot.begins.time) slots
  -- how the run stops, and what is seen of it from now on, is left to them
  pub stops : first_stop machine (first_run machine end) ≡ first_stop machine slots
  pub sees : (time : ℕ) → now ≤ time → values_after machine [] (first_run machine end) time ≡ values_after machine values slots time

-- what a first run to an end shows at a time at which it didn't stop: these values, and a stop after that time or none
pub record Shows (machine : Machine) (end time : ℕ) (values : List LogicValue) : Type 0 where
  pub sees : values_after machine [] (first_run machine end) time ≡ values
  pub stops : StopsAfter time (first_stop machine (first_run machine end))

-- Values

-- the values after a slot that begins by then, and before one that doesn't
abbrev values_by : Machine → ℕ → List LogicValue → FirstSlot → List FirstSlot → Bool → List LogicValue
values_by machine time last slot slots begun = elim begun [ true ↦ values_after machine (slot_end machine slot).values slots time | false ↦ last ]

values-begun : (machine : Machine) (time : ℕ) (last : List LogicValue) (slot : FirstSlot) (slots : List FirstSlot) → slot.begins.time ≤ time →
    values_after machine last (slot ∷ slots) time ≡ values_after machine (slot_end machine slot).values slots time
values-begun machine time last slot slots h = ap (values_by machine time last slot slots) (le-leb slot.begins.time time h)

values-later : (machine : Machine) (time : ℕ) (last : List LogicValue) (slot : FirstSlot) (slots : List FirstSlot) → time < slot.begins.time → values_after machine last (slot ∷ slots) time ≡ last
values-later machine time last slot slots h = ap (values_by machine time last slot slots) (lt-leb slot.begins.time time h)

-- Stops

-- the first stop of a slot with an outcome, and of those after it
abbrev stop_by : Machine → FirstSlot → List FirstSlot → SlotOutcome → Option Stop
stop_by machine slot slots outcome = elim outcome [
  | Fine ↦ first_stop machine slots
  | Race pair ↦ Some (record { time = slot.begins.time; outcome = Race pair })
  | Hyper ↦ Some (record { time = slot.begins.time; outcome = Hyper })
]

stops-later : (machine : Machine) (time : ℕ) (slots : List FirstSlot) → AllHold (λ (slot : FirstSlot). time < slot.begins.time) slots → StopsAfter time (first_stop machine slots)
stops-later machine time [] h = tt
stops-later machine time (slot ∷ slots) h = go (slot_outcome machine slot) (stops-later machine time slots h.1)
  where
    go : (outcome : SlotOutcome) → StopsAfter time (first_stop machine slots) → StopsAfter time (stop_by machine slot slots outcome)
    go Fine rest = rest
    go (Race pair) rest = h.0
    go Hyper rest = h.0

all-after : (low time : ℕ) (slots : List FirstSlot) → low ≤ time → AllHold (λ (slot : FirstSlot). time < slot.begins.time) slots → AllHold (λ (slot : FirstSlot). low < slot.begins.time) slots
all-after low time [] h a = tt
all-after low time (slot ∷ slots) h a = (let x : time < slot.begins.time = a.0 in omega (arith, h, x), all-after low time slots h a.1)

since-all : (time : ℕ) (slots : List FirstSlot) → AllHold (λ (slot : FirstSlot). time < slot.begins.time) slots → AllHold (λ (slot : FirstSlot). time ≤ slot.begins.time) slots
since-all time [] a = tt
since-all time (slot ∷ slots) a = (let x : time < slot.begins.time = a.0 in omega (arith, x), since-all time slots a.1)

-- The start

since-start : (slots : List FirstSlot) → AllHold (λ (slot : FirstSlot). 0 ≤ slot.begins.time) slots
since-start [] = tt
since-start (slot ∷ slots) = (omega arith, since-start slots)

-- what a run had before its first slot is never seen after that began
from-anything : (machine : Machine) (end : ℕ) (begins : State) (slots : List FirstSlot) (one other : List LogicValue) (time : ℕ) → Follow machine end (Some begins) slots → begins.time ≤ time →
    values_after machine one slots time ≡ values_after machine other slots time
from-anything machine end begins [] one other time f h = absurd f
from-anything machine end begins (slot ∷ slots) one other time f h =
    let early : slot.begins.time ≤ time = subst (λ (s : FirstSlot). s.begins.time ≤ time) (sym f.0) h in
    values-begun machine time one slot slots early ∙ sym (values-begun machine time other slot slots early)

-- at the start the whole first run is ahead
pub ahead-start : (machine : Machine) (end : ℕ) (values : List LogicValue) → FirstRunsGoOn → KeepsRules machine.design → IsAhead machine end 0 (Some (start machine)) values
ahead-start machine end values law rules =
    record {
      slots = first_run machine end;
      follow = law.follow machine end rules;
      rise = law.rise machine end rules;
      later = since-start (first_run machine end);
      stops = refl;
      sees = λ time h. from-anything machine end (start machine) (first_run machine end) [] values time (law.follow machine end rules) h;
    }

-- A slot

-- the slot that is next, and those after it
record Next (machine : Machine) (end now : ℕ) (begins : State) (values : List LogicValue) : Type 0 where
  rest : List FirstSlot
  follow : Follow machine end (next_slot machine end (slot_from machine begins)) rest
  after : AllHold (λ (slot : FirstSlot). begins.time < slot.begins.time) rest
  rise : Rise rest
  since : now ≤ begins.time
  stops : first_stop machine (first_run machine end) ≡ first_stop machine (slot_from machine begins ∷ rest)
  sees : (time : ℕ) → now ≤ time → values_after machine [] (first_run machine end) time ≡ values_after machine values (slot_from machine begins ∷ rest) time

next-slot : (machine : Machine) (end now : ℕ) (begins : State) (values : List LogicValue) → IsAhead machine end now (Some begins) values → Next machine end now begins values
next-slot machine end now begins values a = go a.slots a.follow a.rise a.later a.stops a.sees
  where
    go : (slots : List FirstSlot) → Follow machine end (Some begins) slots → Rise slots → AllHold (λ (slot : FirstSlot). now ≤ slot.begins.time) slots →
        first_stop machine (first_run machine end) ≡ first_stop machine slots →
        ((time : ℕ) → now ≤ time → values_after machine [] (first_run machine end) time ≡ values_after machine values slots time) → Next machine end now begins values
    go [] f r l s v = absurd f
    go (slot ∷ rest) f r l s v = record {
      rest = rest;
      follow = subst (λ (x : FirstSlot). Follow machine end (next_slot machine end x) rest) f.0 f.1;
      after = subst (λ (x : FirstSlot). AllHold (λ (y : FirstSlot). x.begins.time < y.begins.time) rest) f.0 r.0;
      rise = r.1;
      since = subst (λ (x : FirstSlot). now ≤ x.begins.time) f.0 l.0;
      stops = s ∙ ap (λ (x : FirstSlot). first_stop machine (x ∷ rest)) f.0;
      sees = λ time h. v time h ∙ ap (λ (x : FirstSlot). values_after machine values (x ∷ rest) time) f.0;
    }

-- after a slot that is fine, those after it are ahead
pub ahead-fine : (machine : Machine) (end now : ℕ) (begins : State) (values : List LogicValue) (next : Option State) → IsAhead machine end now (Some begins) values →
    slot_outcome machine (slot_from machine begins) ≡ Fine →
    next_slot machine end (slot_from machine begins) ≡ next → IsAhead machine end begins.time next (slot_end machine (slot_from machine begins)).values
ahead-fine machine end now begins values next a fine is =
    let n = next-slot machine end now begins values a in
    record {
      slots = n.rest;
      follow = subst (λ found. Follow machine end found n.rest) is n.follow;
      rise = n.rise;
      later = since-all begins.time n.rest n.after;
      stops = n.stops ∙ ap (stop_by machine (slot_from machine begins) n.rest) fine;
      sees = λ time h. n.sees time (let s : now ≤ begins.time = n.since in omega (arith, s, h)) ∙ values-begun machine time values (slot_from machine begins) n.rest h;
    }

-- a slot with a race is the first stop
pub ahead-race : (machine : Machine) (end now : ℕ) (begins : State) (values : List LogicValue) (pair : ReportedPair) → IsAhead machine end now (Some begins) values →
    slot_outcome machine (slot_from machine begins) ≡ Race pair →
    first_stop machine (first_run machine end) ≡ Some (record { time = begins.time; outcome = Race pair })
ahead-race machine end now begins values pair a race =
    let n = next-slot machine end now begins values a in n.stops ∙ ap (stop_by machine (slot_from machine begins) n.rest) race

-- a slot that is hyperactive is the first stop
pub ahead-hyper : (machine : Machine) (end now : ℕ) (begins : State) (values : List LogicValue) → IsAhead machine end now (Some begins) values →
    slot_outcome machine (slot_from machine begins) ≡ Hyper →
    first_stop machine (first_run machine end) ≡ Some (record { time = begins.time; outcome = Hyper })
ahead-hyper machine end now begins values a hyper =
    let n = next-slot machine end now begins values a in n.stops ∙ ap (stop_by machine (slot_from machine begins) n.rest) hyper

-- the slot that is next isn't before the slots so far
pub ahead-since : (machine : Machine) (end now : ℕ) (begins : State) (values : List LogicValue) → IsAhead machine end now (Some begins) values → now ≤ begins.time
ahead-since machine end now begins values a = (next-slot machine end now begins values a).since

-- the slot after it is later
pub ahead-rises : (machine : Machine) (end now : ℕ) (begins next : State) (values : List LogicValue) → IsAhead machine end now (Some begins) values →
    next_slot machine end (slot_from machine begins) ≡ Some next → begins.time < next.time
ahead-rises machine end now begins next values a is =
    let n = next-slot machine end now begins values a in go n.rest (subst (λ found. Follow machine end found n.rest) is n.follow) n.after
  where
    go : (rest : List FirstSlot) → Follow machine end (Some next) rest → AllHold (λ (slot : FirstSlot). begins.time < slot.begins.time) rest → begins.time < next.time
    go [] f l = absurd f
    go (slot ∷ rest) f l = subst (λ (x : FirstSlot). begins.time < x.begins.time) f.0 l.0

-- Between slots

nothing-left : (machine : Machine) (end : ℕ) (slots : List FirstSlot) → Follow machine end None slots → slots ≡ []
nothing-left machine end [] f = refl
nothing-left machine end (slot ∷ slots) f = absurd f

-- where no slot is ahead the run never stops
pub ahead-never : (machine : Machine) (end now : ℕ) (values : List LogicValue) → IsAhead machine end now None values → first_stop machine (first_run machine end) ≡ None
ahead-never machine end now values a = a.stops ∙ ap (first_stop machine) (nothing-left machine end a.slots a.follow)

-- where no slot is ahead the values stay
pub ahead-over : (machine : Machine) (end now time : ℕ) (values : List LogicValue) → IsAhead machine end now None values → now ≤ time → Shows machine end time values
ahead-over machine end now time values a h = record {
  sees = a.sees time h ∙ ap (λ slots. values_after machine values slots time) (nothing-left machine end a.slots a.follow);
  stops = subst (StopsAfter time) (sym (ahead-never machine end now values a)) tt;
}

-- before the slot that is next the values stay
pub ahead-later : (machine : Machine) (end now time : ℕ) (begins : State) (values : List LogicValue) → IsAhead machine end now (Some begins) values → now ≤ time → time < begins.time →
    Shows machine end time values
ahead-later machine end now time begins values a h late =
    let n = next-slot machine end now begins values a in
    record {
      sees = n.sees time h ∙ values-later machine time values (slot_from machine begins) n.rest late;
      stops = subst (StopsAfter time) (sym n.stops) (stops-later machine time (slot_from machine begins ∷ n.rest) (late, all-after time begins.time n.rest (omega (arith, late)) n.after));
    }

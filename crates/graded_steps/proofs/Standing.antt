-- A first run slot by slot, and the process steps behind it (steps by IEEE 1364-2001, clause 9; slots by clause 5).
use Rattle.std.proofs.Common.{◌≡◌, ◌≢◌, ℕ, ◌+◌, ◌<◌, ◌≤◌, List, [], ◌∷◌, ◌++◌, Bool, true, false, refl, sym, ap, subst, ◌∙◌, append_assoc, arith, zero-add}
use Rattle.std.specs.Prelude.{Option, Some, None, nat_le}
use Rattle.std.proofs.lemmas.Bool.{le-leb, leb-true, leb-false}
use Rattle.vf_base.specs.Lists.{AllHold}
use Rattle.v_design.specs.Designs.{Machine}
use Rattle.v_design.specs.States.{State, start, turn_of}
use Rattle.v_design.specs.Runs.{FirstSlot, first_run, next_slot, next_slot_at, slot_end, is_hyper}
use Rattle.v_design.specs.Grades.{SlotOutcome, Fine, Race, Hyper, phases, slot_outcome, first_race, race_or_fine, Stop, first_stop}
use Rattle.v_design.specs.WellFormed.{KeepsRules}
use Rattle.order_laws.specs.FirstRuns.{Follow, Rise, FirstRunsGoOn}
use Rattle.machine_laws.specs.SlotLoop.{slot_from}
use Rattle.copy_laws.specs.Windows.{comes_by, state_by}
use Rattle.grade_laws.specs.Ahead.{StopsAfter}
use Rattle.beside_laws.specs.Stands.{IsAfter, IsSince}
use Rattle.machine.specs.Ticks.{process_steps}
use Rattle.fault_grade.specs.Ticks.{steps_by, steps_through}
use Rattle.graded_steps.specs.Behind.{steps_up_to}
use Rattle.graded_steps.specs.Ahead.{steps_after, SlotsAhead, RunsTakeSteps}
use Rattle.graded_steps.proofs.Parted.{steps-parted, steps-fine, steps-stop, after-fine, after-all, all-after}

-- Times

since-more : (now : Option ℕ) (time later : ℕ) → IsSince now time → time ≤ later → IsSince now later
since-more None time later s h = tt
since-more (Some now) time later s h = omega (arith, s, h)

after-since : (now : Option ℕ) (time later : ℕ) → IsAfter now time → time ≤ later → IsSince now later
after-since None time later a h = tt
after-since (Some now) time later a h = omega (arith, a, h)

-- Slots behind

-- what comes by a time comes by a later one
by-later : (now : Option ℕ) (time slot : ℕ) → IsSince now time → comes_by now slot ≡ true → comes_by (Some time) slot ≡ true
by-later None time slot s b = cc
by-later (Some now) time slot s b = let low : slot ≤ now = leb-true slot now b in le-leb slot time (omega (arith, low, s))

all-later : (now : Option ℕ) (time : ℕ) (slots : List FirstSlot) → IsSince now time → AllHold (λ (slot : FirstSlot). comes_by now slot.begins.time ≡ true) slots →
    AllHold (λ (slot : FirstSlot). comes_by (Some time) slot.begins.time ≡ true) slots
all-later now time [] s all = tt
all-later now time (slot ∷ slots) s all = (by-later now time slot.begins.time s all.0, all-later now time slots s all.1)

-- one slot more is behind
all-push : (now : Option ℕ) (time : ℕ) (slots : List FirstSlot) (last : FirstSlot) → IsSince now time → AllHold (λ (slot : FirstSlot). comes_by now slot.begins.time ≡ true) slots →
    last.begins.time ≡ time → AllHold (λ (slot : FirstSlot). comes_by (Some time) slot.begins.time ≡ true) (slots ++ last ∷ [])
all-push now time [] last s all same = (le-leb last.begins.time time (omega (arith, same)), tt)
all-push now time (slot ∷ slots) last s all same = (by-later now time slot.begins.time s all.0, all-push now time slots last s all.1 same)

-- Slots that are ahead

-- the slot that is next, and those after it
pub record Next (machine : Machine) (end : ℕ) (now : Option ℕ) (begins : State) : Type 0 where
  pub rest : List FirstSlot
  pub behind : List FirstSlot
  pub parts : first_run machine end ≡ behind ++ slot_from machine begins ∷ rest
  pub by_now : AllHold (λ (slot : FirstSlot). comes_by now slot.begins.time ≡ true) behind
  pub follow : Follow machine end (next_slot machine end (slot_from machine begins)) rest
  pub rise : Rise rest
  pub after : AllHold (λ (slot : FirstSlot). begins.time < slot.begins.time) rest
  pub since : IsAfter now begins.time
  pub total : steps_up_to machine now + steps_through machine (slot_from machine begins ∷ rest) ≡ steps_by machine end
  pub left : (time : ℕ) → IsSince now time → steps_after time machine (first_run machine end) ≡ steps_after time machine (slot_from machine begins ∷ rest)

pub next-slot : (machine : Machine) (end : ℕ) (now : Option ℕ) (begins : State) → SlotsAhead machine end now (Some begins) → Next machine end now begins
next-slot machine end now begins a = go a.slots a.follow a.rise a.later a.total a.left a.parts
  where
    go : (slots : List FirstSlot) → Follow machine end (Some begins) slots → Rise slots → AllHold (λ (slot : FirstSlot). IsAfter now slot.begins.time) slots →
        steps_up_to machine now + steps_through machine slots ≡ steps_by machine end →
        ((time : ℕ) → IsSince now time → steps_after time machine (first_run machine end) ≡ steps_after time machine slots) → first_run machine end ≡ a.behind ++ slots →
        Next machine end now begins
    go [] f r l t k p = absurd f
    go (slot ∷ rest) f r l t k p = record {
      rest = rest;
      behind = a.behind;
      parts = p ∙ ap (λ (x : FirstSlot). a.behind ++ x ∷ rest) f.0;
      by_now = a.by_now;
      follow = subst (λ (x : FirstSlot). Follow machine end (next_slot machine end x) rest) f.0 f.1;
      rise = r.1;
      after = subst (λ (x : FirstSlot). AllHold (λ (y : FirstSlot). x.begins.time < y.begins.time) rest) f.0 r.0;
      since = subst (λ (x : FirstSlot). IsAfter now x.begins.time) f.0 l.0;
      total = subst (λ (x : FirstSlot). steps_up_to machine now + steps_through machine (x ∷ rest) ≡ steps_by machine end) f.0 t;
      left = λ time h. k time h ∙ ap (λ (x : FirstSlot). steps_after time machine (x ∷ rest)) f.0;
    }

-- what is left from a time on at which slots are ahead is theirs
total-ahead : FirstRunsGoOn → (machine : Machine) (end time : ℕ) (slots : List FirstSlot) → KeepsRules machine.design → time ≤ end →
    AllHold (λ (slot : FirstSlot). time < slot.begins.time) slots → steps_after time machine (first_run machine end) ≡ steps_after time machine slots →
    steps_by machine time + steps_through machine slots ≡ steps_by machine end
total-ahead law machine end time slots rules h later left =
    ap (λ n. steps_by machine time + n) (sym (left ∙ after-all time machine slots later)) ∙ steps-parted law machine end time rules h

-- The start

all-any : (slots : List FirstSlot) → AllHold (λ (slot : FirstSlot). IsAfter None slot.begins.time) slots
all-any [] = tt
all-any (slot ∷ slots) = (tt, all-any slots)

ahead-begins : FirstRunsGoOn → (machine : Machine) (end : ℕ) → KeepsRules machine.design → SlotsAhead machine end None (Some (start machine))
ahead-begins law machine end rules = record {
  slots = first_run machine end;
  follow = law.follow machine end rules;
  rise = law.rise machine end rules;
  later = all-any (first_run machine end);
  total = zero-add (steps_by machine end);
  left = λ time h. refl;
  behind = [];
  parts = refl;
  by_now = tt;
}

-- A slot

ahead-fine : FirstRunsGoOn → (machine : Machine) (end : ℕ) (now : Option ℕ) (begins : State) → KeepsRules machine.design → SlotsAhead machine end now (Some begins) → begins.time ≤ end →
    slot_outcome machine (slot_from machine begins) ≡ Fine →
    SlotsAhead machine end (Some begins.time) (next_slot machine end (slot_from machine begins)) ×
    (steps_up_to machine now + process_steps (slot_from machine begins) ≡ steps_by machine begins.time)
ahead-fine law machine end now begins rules a early fine =
    let n = next-slot machine end now begins a in
    let slot : FirstSlot = slot_from machine begins in
    let left : (time : ℕ) → begins.time ≤ time → steps_after time machine (first_run machine end) ≡ steps_after time machine n.rest =
    λ time h. n.left time (after-since now begins.time time n.since h) ∙ after-fine time machine slot n.rest h fine in
    let total : steps_by machine begins.time + steps_through machine n.rest ≡ steps_by machine end =
    total-ahead law machine end begins.time n.rest rules early n.after (left begins.time (omega arith)) in
    let before : steps_up_to machine now + steps_through machine (slot ∷ n.rest) ≡ steps_by machine end = n.total in
    let first : steps_through machine (slot ∷ n.rest) ≡ process_steps slot + steps_through machine n.rest = steps-fine machine slot n.rest fine in (
      record {
        slots = n.rest;
        follow = n.follow;
        rise = n.rise;
        later = n.after;
        total = total;
        left = left;
        behind = n.behind ++ slot ∷ [];
        parts = n.parts ∙ sym (append_assoc n.behind (slot ∷ []) n.rest);
        by_now = all-push now begins.time n.behind slot (after-since now begins.time begins.time n.since (omega arith)) n.by_now refl;
      },
      omega (arith, total, before, first),
    )

ahead-stops : (machine : Machine) (end : ℕ) (now : Option ℕ) (begins : State) → SlotsAhead machine end now (Some begins) → slot_outcome machine (slot_from machine begins) ≢ Fine →
    steps_up_to machine now + process_steps (slot_from machine begins) ≡ steps_by machine end
ahead-stops machine end now begins a other =
    let n = next-slot machine end now begins a in
    ap (λ s. steps_up_to machine now + s) (sym (steps-stop machine (slot_from machine begins) n.rest other)) ∙ n.total

-- Times that pass

pub later-all : (machine : Machine) (end time : ℕ) (next : Option State) (slots : List FirstSlot) → Follow machine end next slots → Rise slots →
    ((begins : State) → next ≡ Some begins → time < begins.time) → AllHold (λ (slot : FirstSlot). time < slot.begins.time) slots
later-all machine end time next [] f r h = tt
later-all machine end time None (slot ∷ slots) f r h = absurd f
later-all machine end time (Some begins) (slot ∷ slots) f r h =
    let first : time < slot.begins.time = subst (λ (x : FirstSlot). time < x.begins.time) (sym f.0) (h begins refl) in
    (first, all-after time slot.begins.time slots (omega (arith, first)) r.0)

ahead-passes : FirstRunsGoOn → (machine : Machine) (end : ℕ) (now : Option ℕ) (next : Option State) (time : ℕ) → KeepsRules machine.design → SlotsAhead machine end now next → IsSince now time →
    time ≤ end → ((begins : State) → next ≡ Some begins → time < begins.time) → SlotsAhead machine end (Some time) next × (steps_up_to machine now ≡ steps_by machine time)
ahead-passes law machine end now next time rules a since h past =
    let later : AllHold (λ (slot : FirstSlot). time < slot.begins.time) a.slots = later-all machine end time next a.slots a.follow a.rise past in
    let total : steps_by machine time + steps_through machine a.slots ≡ steps_by machine end = total-ahead law machine end time a.slots rules h later (a.left time since) in
    let before : steps_up_to machine now + steps_through machine a.slots ≡ steps_by machine end = a.total in (
      record {
        slots = a.slots;
        follow = a.follow;
        rise = a.rise;
        later = later;
        total = total;
        left = λ other k. a.left other (since-more now time other since k);
        behind = a.behind;
        parts = a.parts;
        by_now = all-later now time a.behind since a.by_now;
      },
      omega (arith, total, before),
    )

-- A run that stands in the state at a time

-- where a slot is fine, the next one is the one to which its last turn leads
next-fine : (machine : Machine) (end : ℕ) (slot : FirstSlot) → slot_outcome machine slot ≡ Fine →
    next_slot machine end slot ≡ next_slot_at end (slot_end machine slot) (turn_of (slot_end machine slot))
next-fine machine end slot fine = go (is_hyper slot) fine
  where
    go : (hyper : Bool) → elim hyper as (λ _. SlotOutcome) [ true ↦ Hyper | false ↦ race_or_fine (first_race machine 1 (phases machine slot)) ] ≡ Fine →
        elim hyper as (λ _. Option State) [ true ↦ None | false ↦ next_slot_at end (slot_end machine slot) (turn_of (slot_end machine slot)) ]
        ≡ next_slot_at end (slot_end machine slot) (turn_of (slot_end machine slot))
    go true f = cc
    go false f = refl

-- the first stop of a slot with an outcome, and of those after it
abbrev stop_by : Machine → FirstSlot → List FirstSlot → SlotOutcome → Option Stop
stop_by machine slot slots outcome = elim outcome [
  | Fine ↦ first_stop machine slots
  | Race pair ↦ Some (record { time = slot.begins.time; outcome = Race pair })
  | Hyper ↦ Some (record { time = slot.begins.time; outcome = Hyper })
]

-- a slot that begins by a time after which the first stop comes is fine
fine-before : (machine : Machine) (time : ℕ) (slot : FirstSlot) (slots : List FirstSlot) → slot.begins.time ≤ time → StopsAfter time (first_stop machine (slot ∷ slots)) →
    (slot_outcome machine slot ≡ Fine) × StopsAfter time (first_stop machine slots)
fine-before machine time slot slots low stops = go (slot_outcome machine slot) stops
  where
    go : (outcome : SlotOutcome) → StopsAfter time (stop_by machine slot slots outcome) → (outcome ≡ Fine) × StopsAfter time (first_stop machine slots)
    go Fine s = (refl, s)
    go (Race pair) s = absurd (omega (arith, low, s))
    go Hyper s = absurd (omega (arith, low, s))

-- the state after a slot that begins by a time, and before one that doesn't
abbrev state_if : Machine → ℕ → State → FirstSlot → List FirstSlot → Bool → State
state_if machine time last slot slots begun = elim begun [ true ↦ state_by machine (slot_end machine slot) slots time | false ↦ last ]

-- the slots that are ahead at a time, from a state in which the run stands before that
record Left (machine : Machine) (end time : ℕ) (slots : List FirstSlot) (to : State) : Type 0 where
  ahead : List FirstSlot
  follow : Follow machine end (next_slot_at end to (turn_of to)) ahead
  rise : Rise ahead
  later : AllHold (λ (slot : FirstSlot). time < slot.begins.time) ahead
  left : (later : ℕ) → time ≤ later → steps_after later machine slots ≡ steps_after later machine ahead
  behind : List FirstSlot
  parts : slots ≡ behind ++ ahead
  by_now : AllHold (λ (slot : FirstSlot). comes_by (Some time) slot.begins.time ≡ true) behind

left-more : (machine : Machine) (end time : ℕ) (slot : FirstSlot) (slots : List FirstSlot) (to : State) → slot.begins.time ≤ time → slot_outcome machine slot ≡ Fine →
    Left machine end time slots to → Left machine end time (slot ∷ slots) to
left-more machine end time slot slots to low fine l = record {
  ahead = l.ahead;
  follow = l.follow;
  rise = l.rise;
  later = l.later;
  behind = slot ∷ l.behind;
  parts = ap (λ (rest : List FirstSlot). slot ∷ rest) l.parts;
  by_now = (le-leb slot.begins.time time low, l.by_now);
  left = λ later h. after-fine later machine slot slots (omega (arith, low, h)) fine ∙ l.left later h;
}

left-from : (machine : Machine) (end time : ℕ) (slots : List FirstSlot) (from : State) → Follow machine end (next_slot_at end from (turn_of from)) slots → Rise slots →
    StopsAfter time (first_stop machine slots) → Left machine end time slots (state_by machine from slots time)
left-from machine end time [] from f r s = record { ahead = []; follow = f; rise = tt; later = tt; left = λ later h. refl; behind = []; parts = refl; by_now = tt }
left-from machine end time (slot ∷ slots) from f r s =
    go (next_slot_at end from (turn_of from)) f
    (λ g. by-time (nat_le slot.begins.time time) refl (λ low. let fine = fine-before machine time slot slots low s in
    left-more machine end time slot slots (state_by machine (slot_end machine slot) slots time) low fine.0
    (left-from machine end time slots (slot_end machine slot) (subst (λ (n : Option State). Follow machine end n slots) (next-fine machine end slot fine.0) g) r.1 fine.1)))
  where
    by-time : (b : Bool) → nat_le slot.begins.time time ≡ b → (slot.begins.time ≤ time → Left machine end time (slot ∷ slots) (state_by machine (slot_end machine slot) slots time)) →
        Left machine end time (slot ∷ slots) (state_if machine time from slot slots b)
    by-time true e begun = begun (leb-true slot.begins.time time e)
    by-time false e begun =
        let late : time < slot.begins.time = leb-false slot.begins.time time e in
        record {
          ahead = slot ∷ slots;
          follow = f;
          rise = r;
          later = (late, all-after time slot.begins.time slots (omega (arith, late)) r.0);
          left = λ later h. refl;
          behind = [];
          parts = refl;
          by_now = tt;
        }

    go : (next : Option State) → Follow machine end next (slot ∷ slots) →
        (Follow machine end (next_slot machine end slot) slots → Left machine end time (slot ∷ slots) (state_by machine from (slot ∷ slots) time)) →
        Left machine end time (slot ∷ slots) (state_by machine from (slot ∷ slots) time)
    go None g rest = absurd g
    go (Some begins) g rest = rest g.1

-- the first slot of a run begins at time 0
left-again : (machine : Machine) (end time : ℕ) (slots : List FirstSlot) → Follow machine end (Some (start machine)) slots → Rise slots → StopsAfter time (first_stop machine slots) →
    Left machine end time slots (state_by machine (start machine) slots time)
left-again machine end time [] f r s = absurd f
left-again machine end time (slot ∷ slots) f r s =
    let low : slot.begins.time ≤ time = subst (λ (x : FirstSlot). x.begins.time ≤ time) (sym f.0) (omega arith) in
    let fine = fine-before machine time slot slots low s in
    subst (Left machine end time (slot ∷ slots)) (sym (ap (state_if machine time (start machine) slot slots) (le-leb slot.begins.time time low)))
    (left-more machine end time slot slots (state_by machine (slot_end machine slot) slots time) low fine.0
    (left-from machine end time slots (slot_end machine slot) (subst (λ (n : Option State). Follow machine end n slots) (next-fine machine end slot fine.0) f.1) r.1 fine.1))

-- The laws

pub steps-more : FirstRunsGoOn → (machine : Machine) (one other : ℕ) → KeepsRules machine.design → one ≤ other → steps_by machine one ≤ steps_by machine other
steps-more law machine one other rules h =
    let p : steps_by machine one + steps_after one machine (first_run machine other) ≡ steps_by machine other = steps-parted law machine other one rules h in omega (arith, p)

pub runs_take_steps : FirstRunsGoOn → RunsTakeSteps
runs_take_steps law = record {
  more = steps-more law;
  begins = ahead-begins law;
  again = λ machine end time rules h stops.
      let l = left-again machine end time (first_run machine end) (law.follow machine end rules) (law.rise machine end rules) stops in
      record {
        slots = l.ahead;
        follow = l.follow;
        rise = l.rise;
        later = l.later;
        total = total-ahead law machine end time l.ahead rules h l.later (l.left time (omega arith));
        left = l.left;
        behind = l.behind;
        parts = l.parts;
        by_now = l.by_now;
      };
  fine = ahead-fine law;
  stops = ahead-stops;
  passes = ahead-passes law;
}

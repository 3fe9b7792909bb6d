-- What an object holds before a moment is what the writes before it leave (IEEE 1364-2001, clause 5).
use Rattle.std.proofs.Common.{◌≡◌, ℕ, zero, suc, ◌+◌, ◌<◌, ◌≤◌, Bool, true, false, cond, ◌&&◌, List, [], ◌∷◌, ◌++◌, map, length, take, drop, refl, sym, ap, subst, ◌∙◌, arith}
use Rattle.std.specs.Prelude.{Option, Some, None, nat_eq, nat_le}
use Rattle.std.proofs.lemmas.Bool.{lt-ltb, le-ltb}
use Rattle.std.proofs.lemmas.List.{length-take-le}
use Rattle.four_value.specs.Values.{LogicValue}
use Rattle.vf_base.specs.Lists.{joined}
use Rattle.v_design.specs.Designs.{FlatDesign, Machine, TestPlan, good_machine}
use Rattle.v_design.specs.Assignments.{value_at, first_values}
use Rattle.v_design.specs.States.{State, Event, TurnKind, PostponedTurn, UpdatesTurn, TimeTurn, start, after, turn_of, time_turn}
use Rattle.v_design.specs.Accesses.{AccessAct, Reading, Writing, Awaiting, Ending, Holding, Settling, ObjectAccess}
use Rattle.v_design.specs.Runs.{Move, Happens, Turns, FirstSlot, happened, made, all_made, turned_by, first_moves, first_slots, first_run, next_slot, next_slot_at, only_if, slot_end, is_hyper}
use Rattle.v_design.specs.Grades.{cut, SlotOutcome, Fine, Race, Hyper, slot_outcome}
use Rattle.v_design.specs.OwnSteps.{slots_through_stop}
use Rattle.v_design.specs.WellFormed.{KeepsRules}
use Rattle.copy_laws.specs.Windows.{good_slots}
use Rattle.trace_window.specs.Moments.{Seen, seen_from, phase_seen, slot_seen, slots_seen, window_events, values_after_slots, values_through, values_before}
use Rattle.trace_window.specs.Writes.{Written, write_before, writes_in, writes_from, value_or, latest}
use Rattle.trace_window.specs.WriteLaws.{written_or, last_written, after-count, writes-are}
use Rattle.trace_window.specs.Listed.{AreListed}

-- The latest write

pub latest-append : (value : LogicValue) (object moment : ℕ) (xs ys : List Written) → latest value object moment (xs ++ ys) ≡ latest (latest value object moment xs) object moment ys
latest-append value object moment [] ys = refl
latest-append value object moment (x ∷ xs) ys = latest-append (value_or value object moment x) object moment xs ys

-- all of some writes come at a moment or after it
abbrev pub ComeFrom : ℕ → List Written → Type 0
ComeFrom moment [] = Unit {0}
ComeFrom moment (write ∷ rest) = (moment ≤ write.moment) × ComeFrom moment rest

come-append : (moment : ℕ) (xs ys : List Written) → ComeFrom moment xs → ComeFrom moment ys → ComeFrom moment (xs ++ ys)
come-append moment [] ys h k = k
come-append moment (x ∷ xs) ys h k = (h.0, come-append moment xs ys h.1 k)

come-later : (moment later : ℕ) (xs : List Written) → moment ≤ later → ComeFrom later xs → ComeFrom moment xs
come-later moment later [] low h = tt
come-later moment later (x ∷ xs) low h = (let at : later ≤ x.moment = h.0 in omega arith, come-later moment later xs low h.1)

-- a write that isn't before a moment leaves the value
value_or-later : (value : LogicValue) (object moment : ℕ) (write : Written) → moment ≤ write.moment → value_or value object moment write ≡ value
value_or-later value object moment write low = ap (λ b. cond (nat_eq write.object object && b) write.value value) (le-ltb write.moment moment low) ∙ go (nat_eq write.object object)
  where
    go : (b : Bool) → cond (b && false) write.value value ≡ value
    go true = refl
    go false = refl

pub latest-later : (value : LogicValue) (object moment : ℕ) (xs : List Written) → ComeFrom moment xs → latest value object moment xs ≡ value
latest-later value object moment [] h = refl
latest-later value object moment (x ∷ xs) h = ap (λ v. latest v object moment xs) (value_or-later value object moment x h.0) ∙ latest-later value object moment xs h.1

before-come : (number object : ℕ) (act : AccessAct) (rest : List Written) → ComeFrom number rest → ComeFrom number (write_before number object act rest)
before-come number object Reading rest h = h
before-come number object (Writing old new) rest h = (omega arith, h)
before-come number object (Awaiting entry) rest h = h
before-come number object (Ending entry) rest h = h
before-come number object (Holding entry) rest h = h
before-come number object Settling rest h = h

in-come : (number : ℕ) (accesses : List ObjectAccess) → ComeFrom number (writes_in number accesses)
in-come number [] = tt
in-come number (access ∷ rest) = before-come number access.object access.act (writes_in number rest) (in-come number rest)

from-come : (number : ℕ) (lists : List (List ObjectAccess)) → ComeFrom number (writes_from number lists)
from-come number [] = tt
from-come number (accesses ∷ rest) =
    come-append number (writes_in number accesses) (writes_from (number + 1) rest) (in-come number accesses)
    (come-later number (number + 1) (writes_from (number + 1) rest) (omega arith) (from-come (number + 1) rest))

-- the writes of an event before a moment are what its accesses write
in-latest : (value : LogicValue) (object moment number : ℕ) (accesses : List ObjectAccess) → number < moment →
    latest value object moment (writes_in number accesses) ≡ last_written object accesses value
in-latest value object moment number [] low = refl
in-latest value object moment number (access ∷ rest) low = go access.act (λ v. in-latest v object moment number rest low)
  where
    go : (act : AccessAct) → ((v : LogicValue) → latest v object moment (writes_in number rest) ≡ last_written object rest v) →
        latest value object moment (write_before number access.object act (writes_in number rest)) ≡ last_written object rest (written_or object access.object act value)
    go Reading more = more value
    go (Writing old new) more =
        ap (λ b. latest (cond (nat_eq access.object object && b) new value) object moment (writes_in number rest)) (lt-ltb number moment low)
        ∙ ap (λ v. latest v object moment (writes_in number rest)) (plain (nat_eq access.object object)) ∙ more (cond (nat_eq access.object object) new value)
      where
        plain : (b : Bool) → cond (b && true) new value ≡ cond b new value
        plain true = refl
        plain false = refl
    go (Awaiting entry) more = more value
    go (Ending entry) more = more value
    go (Holding entry) more = more value
    go Settling more = more value

-- Values go from event to event

-- from some values some events lead to others
abbrev pub ValuesFollow : Machine → List LogicValue → List Seen → List LogicValue → Type 0
ValuesFollow machine values [] last = values ≡ last
ValuesFollow machine values (seen ∷ rest) last = (seen.before.values ≡ values) × ValuesFollow machine (after machine seen.before seen.event).values rest last

pub follow-append : (machine : Machine) (values : List LogicValue) (xs : List Seen) (between : List LogicValue) (ys : List Seen) (last : List LogicValue) → ValuesFollow machine values xs between →
    ValuesFollow machine between ys last →
    ValuesFollow machine values (xs ++ ys) last
follow-append machine values [] between ys last h k = subst (λ v. ValuesFollow machine v ys last) (sym h) k
follow-append machine values (x ∷ xs) between ys last h k = (h.0, follow-append machine (after machine x.before x.event).values xs between ys last h.1 k)

pub seen-follow : (machine : Machine) (state : State) (events : List Event) → ValuesFollow machine state.values (seen_from machine state events) (happened machine state events).values
seen-follow machine state [] = refl
seen-follow machine state (event ∷ events) = (refl, seen-follow machine (after machine state event) events)

happened-more : (machine : Machine) (state : State) (events : List Event) (event : Event) → happened machine state (events ++ event ∷ []) ≡ after machine (happened machine state events) event
happened-more machine state [] event = refl
happened-more machine state (first ∷ events) event = happened-more machine (after machine state first) events event

turned-values : (turn : Option TurnKind) (state : State) → (turned_by turn state).values ≡ state.values
turned-values None state = refl
turned-values (Some PostponedTurn) state = refl
turned-values (Some UpdatesTurn) state = refl
turned-values (Some (TimeTurn time)) state = refl

-- the phases of some moves
cut-follow : (machine : Machine) (turn : Option TurnKind) (begins : State) (events : List Event) (state : State) (moves : List Move) → state ≡ happened machine begins events →
    ValuesFollow machine begins.values (joined (map (phase_seen machine) (cut machine turn begins events state moves))) (all_made machine state moves).values
cut-follow machine turn begins events state [] is =
    follow-append machine begins.values (seen_from machine begins events) (happened machine begins events).values [] state.values (seen-follow machine begins events)
    (sym (ap (λ (s : State). s.values) is))
cut-follow machine turn begins events state (Happens event ∷ moves) is =
    cut-follow machine turn begins (events ++ event ∷ []) (after machine state event) moves (ap (λ s. after machine s event) is ∙ sym (happened-more machine begins events event))
cut-follow machine turn begins events state (Turns ∷ moves) is =
    follow-append machine begins.values (seen_from machine begins events) (happened machine begins events).values
    (joined (map (phase_seen machine) (cut machine (turn_of state) (made machine state Turns) [] (made machine state Turns) moves))) (all_made machine (made machine state Turns) moves).values
    (seen-follow machine begins events)
    (subst (λ v. ValuesFollow machine v (joined (map (phase_seen machine) (cut machine (turn_of state) (made machine state Turns) [] (made machine state Turns) moves)))
    (all_made machine (made machine state Turns) moves).values)
    (turned-values (turn_of state) state ∙ ap (λ (s : State). s.values) is)
    (cut-follow machine (turn_of state) (made machine state Turns) [] (made machine state Turns) moves refl))

-- the events of a slot
pub slot-follow : (machine : Machine) (slot : FirstSlot) → ValuesFollow machine slot.begins.values (slot_seen machine slot) (slot_end machine slot).values
slot-follow machine slot = cut-follow machine None slot.begins [] slot.begins slot.moves refl

-- Slots in a row

-- each slot begins with the values with which the one before it ends
abbrev pub AreChained : Machine → List LogicValue → List FirstSlot → Type 0
AreChained machine values [] = Unit {0}
AreChained machine values (slot ∷ rest) = (slot.begins.values ≡ values) × AreChained machine (slot_end machine slot).values rest

-- the values with which some slots end
abbrev pub end_values : Machine → List LogicValue → List FirstSlot → List LogicValue
end_values machine values [] = values
end_values machine values (slot ∷ rest) = end_values machine (slot_end machine slot).values rest

chained-follow : (machine : Machine) (values : List LogicValue) (slots : List FirstSlot) → AreChained machine values slots →
    ValuesFollow machine values (slots_seen machine slots) (end_values machine values slots)
chained-follow machine values [] h = refl
chained-follow machine values (slot ∷ rest) h =
    follow-append machine values (slot_seen machine slot) (slot_end machine slot).values (slots_seen machine rest) (end_values machine (slot_end machine slot).values rest)
    (subst (λ v. ValuesFollow machine v (slot_seen machine slot) (slot_end machine slot).values) h.0 (slot-follow machine slot))
    (chained-follow machine (slot_end machine slot).values rest h.1)

next-values : (machine : Machine) (time : ℕ) (slot : FirstSlot) (next : State) → next_slot machine time slot ≡ Some next → next.values ≡ (slot_end machine slot).values
next-values machine time slot next e = go (is_hyper slot) (turn_of (slot_end machine slot)) e
  where
    some_is : (a b : State) → Some a ≡ Some b → a ≡ b
    some_is a b f = cc

    timed : (b : Bool) (later : ℕ) → only_if b (time_turn later (slot_end machine slot)) ≡ Some next → next.values ≡ (slot_end machine slot).values
    timed true later f = ap (λ (s : State). s.values) (sym (some_is (time_turn later (slot_end machine slot)) next f))
    timed false later f = cc

    go : (hyper : Bool) (turn : Option TurnKind) → elim hyper as (λ _. Option State) [ true ↦ None | false ↦ next_slot_at time (slot_end machine slot) turn ] ≡ Some next →
        next.values ≡ (slot_end machine slot).values
    go true turn f = cc
    go false None f = cc
    go false (Some PostponedTurn) f = cc
    go false (Some UpdatesTurn) f = cc
    go false (Some (TimeTurn later)) f = timed (nat_le later time) later f

first_slots-chained : (count : ℕ) (machine : Machine) (time : ℕ) (state : State) → AreChained machine state.values (first_slots count machine time state)
first_slots-chained zero machine time state = tt
first_slots-chained (suc count) machine time state = (refl, go (next_slot machine time slot) refl (λ next. first_slots-chained count machine time next))
  where
    slot : FirstSlot
    slot = record { begins = state; moves = first_moves machine state }

    go : (found : Option State) → next_slot machine time slot ≡ found → ((next : State) → AreChained machine next.values (first_slots count machine time next)) →
        AreChained machine (slot_end machine slot).values (elim found as (λ _. List FirstSlot) [ None ↦ [] | Some next ↦ first_slots count machine time next ])
    go None e rest = tt
    go (Some next) e rest = subst (λ v. AreChained machine v (first_slots count machine time next)) (next-values machine time slot next e) (rest next)

through-chained : (machine : Machine) (values : List LogicValue) (slots : List FirstSlot) → AreChained machine values slots → AreChained machine values (slots_through_stop machine slots)
through-chained machine values [] h = tt
through-chained machine values (slot ∷ slots) h = (h.0, go (slot_outcome machine slot) (through-chained machine (slot_end machine slot).values slots h.1))
  where
    go : (outcome : SlotOutcome) → AreChained machine (slot_end machine slot).values (slots_through_stop machine slots) →
        AreChained machine (slot_end machine slot).values (elim outcome as (λ _. List FirstSlot) [ Fine ↦ slots_through_stop machine slots | Race pair ↦ [] | Hyper ↦ [] ])
    go Fine k = k
    go (Race pair) k = tt
    go Hyper k = tt

-- the slots of the good first run
pub good-chained : (design : FlatDesign) (plan : TestPlan) → AreChained (good_machine design) (first_values (good_machine design)) (good_slots design plan)
good-chained design plan =
    through-chained (good_machine design) (first_values (good_machine design)) (first_run (good_machine design) plan.end)
    (first_slots-chained (plan.end + 1) (good_machine design) plan.end (start (good_machine design)))

take-chained : (machine : Machine) (values : List LogicValue) (slots : List FirstSlot) (count : ℕ) → AreChained machine values slots → AreChained machine values (take count slots)
take-chained machine values [] zero h = tt
take-chained machine values [] (suc count) h = tt
take-chained machine values (slot ∷ slots) zero h = tt
take-chained machine values (slot ∷ slots) (suc count) h = (h.0, take-chained machine (slot_end machine slot).values slots count h.1)

-- after so many slots
after-rest : (machine : Machine) (values : List LogicValue) (slot : FirstSlot) (slots : List FirstSlot) (number : ℕ) →
    values_after_slots machine values (slot ∷ slots) (suc number) ≡ values_after_slots machine (slot_end machine slot).values slots number
after-rest machine values slot slots zero = refl
after-rest machine values slot slots (suc number) = refl

drop-chained : (machine : Machine) (values : List LogicValue) (slots : List FirstSlot) (count : ℕ) → count ≤ length slots → AreChained machine values slots →
    AreChained machine (values_after_slots machine values slots count) (drop count slots)
drop-chained machine values slots zero low h = h
drop-chained machine values [] (suc count) low h = absurd (omega arith)
drop-chained machine values (slot ∷ slots) (suc count) low h =
    subst (λ v. AreChained machine v (drop count slots)) (sym (after-rest machine values slot slots count)) (drop-chained machine (slot_end machine slot).values slots count (omega arith) h.1)

-- the values at the end of the first so many
end-take : (machine : Machine) (values : List LogicValue) (slots : List FirstSlot) (count : ℕ) → count ≤ length slots →
    end_values machine values (take count slots) ≡ values_after_slots machine values slots count
end-take machine values slots zero low = refl
end-take machine values [] (suc count) low = absurd (omega arith)
end-take machine values (slot ∷ slots) (suc count) low = end-take machine (slot_end machine slot).values slots count (omega arith) ∙ sym (after-rest machine values slot slots count)

end-drop : (machine : Machine) (values : List LogicValue) (slots : List FirstSlot) (count : ℕ) → count ≤ length slots →
    end_values machine (values_after_slots machine values slots count) (drop count slots) ≡ end_values machine values slots
end-drop machine values slots zero low = refl
end-drop machine values [] (suc count) low = absurd (omega arith)
end-drop machine values (slot ∷ slots) (suc count) low =
    ap (λ v. end_values machine v (drop count slots)) (after-rest machine values slot slots count) ∙ end-drop machine (slot_end machine slot).values slots count (omega arith)

-- the first so many of the first so many
after-take : (machine : Machine) (values : List LogicValue) (slots : List FirstSlot) (number count : ℕ) → number ≤ count →
    values_after_slots machine values (take count slots) number ≡ values_after_slots machine values slots number
after-take machine values slots zero count low = refl
after-take machine values slots (suc number) zero low = absurd (omega arith)
after-take machine values [] (suc number) (suc count) low = refl
after-take machine values (slot ∷ slots) (suc number) (suc count) low =
    after-rest machine values slot (take count slots) number ∙ after-take machine (slot_end machine slot).values slots number count (omega arith) ∙ sym (after-rest machine values slot slots number)

-- the events of a window go from the values before it to those at its end
pub window-follow : (design : FlatDesign) (plan : TestPlan) (begins ends : ℕ) → begins ≤ ends → ends ≤ length (good_slots design plan) →
    ValuesFollow (good_machine design) (values_through design plan begins) (window_events design plan begins ends) (values_through design plan ends)
window-follow design plan begins ends low high = go (good_slots design plan) (good-chained design plan) high
  where
    go : (slots : List FirstSlot) → AreChained (good_machine design) (first_values (good_machine design)) slots → ends ≤ length slots →
        ValuesFollow (good_machine design) (values_after_slots (good_machine design) (first_values (good_machine design)) slots begins)
        (slots_seen (good_machine design) (drop begins (take ends slots)))
        (values_after_slots (good_machine design) (first_values (good_machine design)) slots ends)
    go slots chained fits =
        let machine = good_machine design in
        let values = first_values (good_machine design) in
        let long : length (take ends slots) ≡ ends = length-take-le ends slots fits in
        let same : values_after_slots machine values (take ends slots) begins ≡ values_after_slots machine values slots begins = after-take machine values slots begins ends low in
        let part : AreChained machine (values_after_slots machine values (take ends slots) begins) (drop begins (take ends slots)) =
        drop-chained machine values (take ends slots) begins (omega arith) (take-chained machine values slots ends chained) in
        let last : end_values machine (values_after_slots machine values (take ends slots) begins) (drop begins (take ends slots)) ≡ values_after_slots machine values slots ends =
        end-drop machine values (take ends slots) begins (omega arith) ∙ end-take machine values slots ends fits in
        subst (λ v. ValuesFollow machine v (slots_seen machine (drop begins (take ends slots))) (values_after_slots machine values slots ends)) same
        (subst (λ v. ValuesFollow machine (values_after_slots machine values (take ends slots) begins) (slots_seen machine (drop begins (take ends slots))) v) last
        (chained-follow machine (values_after_slots machine values (take ends slots) begins) (drop begins (take ends slots)) part))

-- as many values stand at the end as at the beginning
pub follow-count : (machine : Machine) (values : List LogicValue) (seen : List Seen) (last : List LogicValue) → ValuesFollow machine values seen last → length last ≡ length values
follow-count machine values [] last h = ap (λ (v : List LogicValue). length v) (sym h)
follow-count machine values (s ∷ seen) last h =
    follow-count machine (after machine s.before s.event).values seen last h.1 ∙ after-count machine s.before s.event ∙ ap (λ (v : List LogicValue). length v) h.0

-- behind the last event stand the last values
pub values_before-end : (seen : List Seen) (last : List LogicValue) → values_before seen last (length seen) ≡ last
values_before-end [] last = refl
values_before-end (s ∷ seen) last = values_before-end seen last

-- The law

-- what an object holds before a moment of some events is what the writes before it leave
pub values-are : (machine : Machine) → KeepsRules machine.design → (seen : List Seen) (accesses : List (List ObjectAccess)) → AreListed machine seen accesses → (values last : List LogicValue) →
    ValuesFollow machine values seen last →
    (object : ℕ) → object < length values → (number moment : ℕ) → value_at (values_before seen last moment) object ≡ latest (value_at values object) object (number + moment)
    (writes_from number accesses)
values-are machine rules [] [] listed values last follow object low number moment = ap (λ v. value_at v object) (sym follow)
values-are machine rules [] (first ∷ accesses) listed values last follow object low number moment = absurd listed
values-are machine rules (s ∷ seen) [] listed values last follow object low number moment = absurd listed
values-are machine rules (s ∷ seen) (first ∷ accesses) listed values last follow object low number zero =
    ap (λ v. value_at v object) follow.0
    ∙ sym (ap (λ n. latest (value_at values object) object n (writes_from number (first ∷ accesses))) (plus-none number)
    ∙ latest-later (value_at values object) object number (writes_from number (first ∷ accesses)) (from-come number (first ∷ accesses)))
  where
    plus-none : (n : ℕ) → n + 0 ≡ n
    plus-none n = omega arith
values-are machine rules (s ∷ seen) (first ∷ accesses) listed values last follow object low number (suc moment) =
    values-are machine rules seen accesses listed.1 (after machine s.before s.event).values last follow.1 object later (number + 1) moment
    ∙ ap (λ n. latest (value_at (after machine s.before s.event).values object) object n (writes_from (number + 1) accesses)) (regroup number moment)
    ∙ ap (λ v. latest v object (number + suc moment) (writes_from (number + 1) accesses)) (held ∙ sym (in-latest (value_at values object) object (number + suc moment) number first (omega arith)))
    ∙ sym (latest-append (value_at values object) object (number + suc moment) (writes_in number first) (writes_from (number + 1) accesses))
  where
    regroup : (a b : ℕ) → a + 1 + b ≡ a + suc b
    regroup a b = omega arith

    there : object < length s.before.values
    there = subst (λ v. object < length v) (sym follow.0) low

    later : object < length (after machine s.before s.event).values
    later = subst (λ n. object < n) (sym (after-count machine s.before s.event)) there

    held : value_at (after machine s.before s.event).values object ≡ last_written object first (value_at values object)
    held =
        writes-are machine rules listed.0.process listed.0.line s.before s.event object there
        ∙ ap (λ l. last_written object l (value_at s.before.values object)) (sym listed.0.are)
        ∙ ap (λ v. last_written object first (value_at v object)) follow.0

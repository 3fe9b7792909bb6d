-- The steps that a slot's log tells are those of its moves (IEEE 1364-2001, clause 5).
use Rattle.std.proofs.Common.{◌≡◌, ℕ, ◌+◌, ◌<◌, ◌≤◌, suc, Bool, true, false, cond, List, [], ◌∷◌, ◌++◌, map, refl, sym, ap, ◌∙◌, zero-add, arith}
use Rattle.std.specs.Prelude.{Option, None, count_by, sum_by}
use Rattle.std.proofs.lemmas.Bool.{leb-false}
use Rattle.std.proofs.lemmas.List.Sums.{sum_by-append, sum_by-cons}
use Rattle.v_design.specs.Designs.{Machine}
use Rattle.v_design.specs.States.{State, Event, TurnKind, after, turn_of}
use Rattle.v_design.specs.Runs.{Move, Happens, Turns, FirstSlot, is_counted, counted_steps, made, is_hyper, most_steps}
use Rattle.v_design.specs.Grades.{Phase, cut, phases}
use Rattle.causal_monitor.specs.declared.slot.Actor.{Actor}
use Rattle.causal_monitor.specs.declared.slot.Actor.TheVariants.{Step, Lane, Eval, Move as Moves}
use Rattle.causal_monitor.specs.declared.slot.SlotLog.{SlotLog}
use Rattle.causal_monitor.specs.declared.slot.Turn.{Turn}
use Rattle.slot_record.specs.Records.{event_of}
use Rattle.slot_record.specs.SlotLogs.{IsSlotLog}
use Rattle.good_trace.specs.Counted.{is_step, steps_logged}

-- whether an event is a process or lane step
abbrev pub is_counted_event : Event → Bool
is_counted_event event = is_counted (Happens event)

-- how many of some events are
abbrev pub count_events : List Event → ℕ
count_events events = count_by is_counted_event events

step-counted : (actor : Actor) → is_step actor ≡ is_counted_event (event_of actor)
step-counted (Step process) = refl
step-counted (Lane process) = refl
step-counted (Eval node) = refl
step-counted (Moves node) = refl

count-actors : (actors : List Actor) → count_by is_step actors ≡ count_events (map event_of actors)
count-actors [] = refl
count-actors (actor ∷ actors) =
    sum_by-cons (λ (a : Actor). cond (is_step a) 1 0) actor actors ∙ (λ i. cond (step-counted actor i) 1 0 + count-actors actors i)
    ∙ sym (sum_by-cons (λ (e : Event). cond (is_counted_event e) 1 0) (event_of actor) (map event_of actors))

sum-actors : (lists : List (List Actor)) → sum_by (λ (actors : List Actor). count_by is_step actors) lists ≡ sum_by count_events (map (λ (actors : List Actor). map event_of actors) lists)
sum-actors [] = refl
sum-actors (actors ∷ lists) =
    sum_by-cons (λ (l : List Actor). count_by is_step l) actors lists ∙ (λ i. count-actors actors i + sum-actors lists i)
    ∙ sym (sum_by-cons count_events (map event_of actors) (map (λ (l : List Actor). map event_of l) lists))

push-count : (events : List Event) (event : Event) → count_events (events ++ event ∷ []) ≡ count_events events + cond (is_counted_event event) 1 0
push-count events event = sum_by-append (λ (e : Event). cond (is_counted_event e) 1 0) events (event ∷ []) ∙ ap (λ n. count_events events + n) (last (is_counted_event event))
  where
    last : (b : Bool) → ◌≡◌ {A = ℕ} (0 + cond b 1 0) (cond b 1 0)
    last true = refl
    last false = refl

regroup : (a b c : ℕ) → a + b + c ≡ a + (b + c)
regroup a b c = omega arith

zeros : (n : ℕ) → 0 + n ≡ n + 0
zeros n = omega arith

-- the steps of the phases from one that has begun
cut-count : (machine : Machine) (turn : Option TurnKind) (begins : State) (events : List Event) (state : State) (moves : List Move) →
    sum_by count_events (map (λ (p : Phase). p.events) (cut machine turn begins events state moves)) ≡ count_events events + counted_steps moves
cut-count machine turn begins events state [] = zeros (count_events events)
cut-count machine turn begins events state (Happens event ∷ moves) =
    cut-count machine turn begins (events ++ event ∷ []) (after machine state event) moves ∙ (λ i. push-count events event i + counted_steps moves)
    ∙ regroup (count_events events) (cond (is_counted_event event) 1 0) (counted_steps moves)
    ∙ ap (λ n. count_events events + n) (sym (sum_by-cons (λ (m : Move). cond (is_counted m) 1 0) (Happens event) moves))
cut-count machine turn begins events state (Turns ∷ moves) =
    sum_by-cons count_events events (map (λ (p : Phase). p.events) (cut machine (turn_of state) (made machine state Turns) [] (made machine state Turns) moves))
    ∙ ap (λ n. count_events events + n)
    (cut-count machine (turn_of state) (made machine state Turns) [] (made machine state Turns) moves ∙ sym (sum_by-cons (λ (m : Move). cond (is_counted m) 1 0) Turns moves))

-- the steps of a slot's phases are those of its moves
pub slot-steps : (machine : Machine) (slot : FirstSlot) → sum_by count_events (map (λ (p : Phase). p.events) (phases machine slot)) ≡ counted_steps slot.moves
slot-steps machine slot = cut-count machine None slot.begins [] slot.begins slot.moves ∙ zero-add (counted_steps slot.moves)

-- a slot's log tells the steps of its moves
pub steps-are : (machine : Machine) (first : Turn) (slot : FirstSlot) (log : SlotLog) → IsSlotLog machine first (phases machine slot) log → steps_logged log ≡ counted_steps slot.moves
steps-are machine first slot log logged =
    sum-actors log.actors ∙ ap (λ (lists : List (List Event)). sum_by count_events lists) logged.actors_are
    ∙ slot-steps machine slot

-- a slot that isn't hyperactive has few steps
pub few-steps : (slot : FirstSlot) → is_hyper slot ≡ false → counted_steps slot.moves ≤ 100000
few-steps slot h = let b : counted_steps slot.moves < suc most_steps = leb-false (suc most_steps) (counted_steps slot.moves) h in omega (arith, b)

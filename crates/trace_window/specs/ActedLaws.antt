-- The indexes of evaluations and of steps answer the first event from a moment on that evaluates a node, and that is a step of a process or of its lane (IEEE 1364-2001, clause 5).
use Rattle.std.proofs.Common.{◌≡◌, ℕ, zero, suc, ◌<◌, Bool, true, false, List, [], ◌∷◌, length, refl, inl, inr, arith}
use Rattle.std.specs.Prelude.{Option, Some, None, Contains, slice_get}
use Rattle.std.proofs.lemmas.List.{length-map}
use Rattle.v_design.specs.States.{Event}
use Rattle.window_index.specs.Moments.{moments_of, IsFirstAtOrAfter}
use Rattle.trace_window.specs.Moments.{Seen}
use Rattle.trace_window.specs.Acted.{node_evaluated, process_stepped, is_number, evaluated_at, stepped_at, events_of, occurrence_at, evaluations_from, steps_from}
use Rattle.trace_window.specs.FirstLaws.{one-more, one-first, first-occurrence, first-same}
use Rattle.trace_window.specs.Occurring.{occurs_at, Occurs}
use Rattle.trace_window.specs.Touched.{IsFirstFrom}

-- the number that an event has, as its one occurrence
number-forth : (number moment : ℕ) (own : Option ℕ) (found : ℕ) → Contains (moments_of (occurrence_at moment own) number) found → (found ≡ moment) × (is_number number own ≡ true)
number-forth number moment None found there = let low : there.0 < 0 = there.1 in absurd (omega arith)
number-forth number moment (Some other) found there = elim (one-more number moment other [] found there) [
  | inl own ↦ (own.1, own.0)
  | inr none ↦ (let low : none.0 < 0 = none.1 in absurd (omega arith))
]

number-back : (number moment : ℕ) (own : Option ℕ) → is_number number own ≡ true → Contains (moments_of (occurrence_at moment own) number) moment
number-back number moment None e = cc
number-back number moment (Some other) e = one-first number moment other [] e

number-occurs : (key : Event → Option ℕ) → Occurs (λ moment event. occurrence_at moment (key event)) (λ number event. is_number number (key event))
number-occurs key = record {
  forth = λ number moment event found there. number-forth number moment (key event) found there;
  back = λ number moment event e. number-back number moment (key event) e;
}

-- whether the event of a number has it, by the states before the events too
abbrev keyed_at : (Event → Option ℕ) → List Seen → ℕ → ℕ → Bool
keyed_at key events number place = elim (slice_get events place) [ None ↦ false | Some seen ↦ is_number number (key seen.event) ]

keyed-alike : (key : Event → Option ℕ) (seen : List Seen) (number place : ℕ) →
    occurs_at (λ number event. is_number number (key event)) (events_of seen) number place ≡ keyed_at key seen number place
keyed-alike key [] number place = refl
keyed-alike key (s ∷ seen) number zero = refl
keyed-alike key (s ∷ seen) number (suc place) = keyed-alike key seen number place

-- what the index of evaluations answers
pub first-evaluation : (seen : List Seen) (node moment : ℕ) (answer : Option ℕ) → IsFirstAtOrAfter (moments_of (evaluations_from 0 (events_of seen)) node) moment answer →
    IsFirstFrom (evaluated_at seen node) (length seen) moment answer
first-evaluation seen node moment answer first =
    first-same (occurs_at (λ number event. is_number number (node_evaluated event)) (events_of seen) node) (evaluated_at seen node) (length (events_of seen)) (length seen) moment answer
    (keyed-alike node_evaluated seen node) (length-map seen (λ (one : Seen). one.event))
    (first-occurrence (λ moment event. occurrence_at moment (node_evaluated event)) (λ number event. is_number number (node_evaluated event)) (number-occurs node_evaluated) (events_of seen) node
    moment answer first)

-- and that of steps
pub first-step : (seen : List Seen) (process moment : ℕ) (answer : Option ℕ) → IsFirstAtOrAfter (moments_of (steps_from 0 (events_of seen)) process) moment answer →
    IsFirstFrom (stepped_at seen process) (length seen) moment answer
first-step seen process moment answer first =
    first-same (occurs_at (λ number event. is_number number (process_stepped event)) (events_of seen) process) (stepped_at seen process) (length (events_of seen)) (length seen) moment answer
    (keyed-alike process_stepped seen process) (length-map seen (λ (one : Seen). one.event))
    (first-occurrence (λ moment event. occurrence_at moment (process_stepped event)) (λ number event. is_number number (process_stepped event)) (number-occurs process_stepped) (events_of seen)
    process moment answer first)

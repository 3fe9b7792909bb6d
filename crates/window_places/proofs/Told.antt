-- What tables tell of a stretch from a place on.
use Rattle.std.proofs.Common.{◌≡◌, ℕ, zero, suc, ◌+◌, ◌<◌, ◌≤◌, List, [], ◌∷◌, ◌++◌, length, drop, Bool, true, false, refl, sym, ap, ◌∙◌, arith}
use Rattle.std.specs.Prelude.{Option, Some, None, is_some, nat_eq, slice_get}
use Rattle.std.proofs.lemmas.Bool.{eq-eqb}
use Rattle.std.proofs.lemmas.Option.{slice_get_within}
use Rattle.vf_base.specs.Lists.{AllHold}
use Rattle.v_design.specs.Designs.{FlatDesign, Machine, StuckAt, TestPlan, good_machine}
use Rattle.v_design.specs.States.{State, Event, Step, LaneStep, Evaluation, NetUpdate, after}
use Rattle.copy_laws.specs.Touches.{site_is_node}
use Rattle.trace_window.specs.Moments.{Seen, seen_from, window_events}
use Rattle.trace_window.specs.Touched.{event_touches, touched_at}
use Rattle.trace_window.specs.Acted.{node_evaluated, process_stepped, is_number, evaluated_at}
use Rattle.lockstep_index.specs.Alone.{LeavesValues}
use Rattle.lockstep_index.specs.Writes.{OwnWrites, ActsElsewhere}
use Rattle.lockstep_slots.specs.Kept.{LockstepKept, kept_within}
use Rattle.lockstep_slots.specs.Places.{Place, state_there}
use Rattle.window_places.specs.Windows.{IsAtMoment, TablesLeave, IsLeftAlone, PlacesInWindows}
use Rattle.window_places.proofs.Placed.{seen-length, slot-begins, slot-phases, stretch-left, goes-on, turns}

-- Elements by number

get-dropped : {A : Type 0} (xs : List A) (first number : ℕ) → slice_get (drop first xs) number ≡ slice_get xs (first + number)
get-dropped xs zero number = let z : number ≡ 0 + number = omega arith in ap (slice_get xs) z
get-dropped [] (suc first) number = refl
get-dropped (x ∷ xs) (suc first) number = let z : suc (first + number) ≡ suc first + number = omega arith in get-dropped xs first number ∙ ap (slice_get (x ∷ xs)) z

get-joined : {A : Type 0} (xs ys : List A) (number : ℕ) (x : A) → slice_get xs number ≡ Some x → slice_get (xs ++ ys) number ≡ Some x
get-joined [] ys number x e = cc
get-joined (y ∷ xs) ys zero x e = e
get-joined (y ∷ xs) ys (suc number) x e = get-joined xs ys number x e

all-numbered : {A : Type 0} (P : A → Type 0) (xs : List A) → ((number : ℕ) (x : A) → slice_get xs number ≡ Some x → P x) → AllHold P xs
all-numbered P [] h = tt
all-numbered P (x ∷ xs) h = (h zero x refl, all-numbered P xs (λ number y e. h (suc number) y e))

all-events : (P : Event → Type 0) (machine : Machine) (state : State) (events : List Event) → AllHold (λ (seen : Seen). P seen.event) (seen_from machine state events) → AllHold P events
all-events P machine state [] all = tt
all-events P machine state (event ∷ events) all = (all.0, all-events P machine (after machine state event) events all.1)

-- An event of a moment

-- an event has a moment among others, between two
record StandsAt (events : List Seen) (first limit : ℕ) (seen : Seen) : Type 0 where
  moment : ℕ
  here : slice_get events moment ≡ Some seen
  low : first ≤ moment
  high : moment < limit

not-true : (b : Bool) → (b ≡ true → b ≡ false) → b ≡ false
not-true true h = h refl
not-true false h = refl

-- a node that is evaluated is told
told-node : (number : ℕ) (event : Event) → event ≡ Evaluation number → is_number number (node_evaluated event) ≡ true
told-node number event e = ap (λ (x : Event). is_number number (node_evaluated x)) e ∙ eq-eqb number number refl

true-false : {A : Type 0} (b : Bool) → b ≡ true → b ≡ false → A
true-false true e f = cc
true-false false e f = cc

leaves : (design : FlatDesign) (fault : StuckAt) (kept : LockstepKept) (events : List Seen) (first limit : ℕ) (good : State) (seen : Seen) → TablesLeave design fault kept events first limit →
    StandsAt events first limit seen → LeavesValues design fault (kept_within kept good) seen
leaves design fault kept events first limit good seen tables at = record {
  objects = λ object own. touched object ∙ tables.touches object at.moment own at.low at.high;
  site_object = λ object own. touched object ∙ tables.site_object object at.moment own at.low at.high;
  site_node = λ number is.
      not-true (site_is_node fault.site number)
      (λ own. true-false (is_number number (node_evaluated seen.event)) (told-node number seen.event is) (evaluated number ∙ tables.site_node number at.moment own at.low at.high));
  inputs = λ number input node is here reads.
      not-true (is_some (kept.values input))
      (λ own. true-false (is_number number (node_evaluated seen.event)) (told-node number seen.event is)
      (evaluated number ∙ tables.inputs input number at.moment node own here reads at.low at.high));
}
  where
    touched : (object : ℕ) → event_touches (good_machine design) object seen ≡ touched_at (good_machine design) events object at.moment
    touched object = sym (ap (λ (o : Option Seen). elim o as (λ _. Bool) [ None ↦ false | Some one ↦ event_touches (good_machine design) object one ]) at.here)

    evaluated : (number : ℕ) → is_number number (node_evaluated seen.event) ≡ evaluated_at events number at.moment
    evaluated number = sym (ap (λ (o : Option Seen). elim o as (λ _. Bool) [ None ↦ false | Some one ↦ is_number number (node_evaluated one.event) ]) at.here)

elsewhere : (writes : ℕ → Option OwnWrites) (event : Event) → ((process : ℕ) → is_some (writes process) ≡ true → is_number process (process_stepped event) ≡ false) → ActsElsewhere writes event
elsewhere writes (Step process) none = none-own (writes process) refl
  where
    none-own : (own : Option OwnWrites) → writes process ≡ own → writes process ≡ None
    none-own None e = e
    none-own (Some own) e = true-false (nat_eq process process) (eq-eqb process process refl) (none process (ap is_some e))
elsewhere writes (LaneStep process) none = none-own (writes process) refl
  where
    none-own : (own : Option OwnWrites) → writes process ≡ own → writes process ≡ None
    none-own None e = e
    none-own (Some own) e = true-false (nat_eq process process) (eq-eqb process process refl) (none process (ap is_some e))
elsewhere writes (Evaluation number) none = tt
elsewhere writes (NetUpdate number) none = tt

acts : (design : FlatDesign) (fault : StuckAt) (kept : LockstepKept) (events : List Seen) (first limit : ℕ) (seen : Seen) → TablesLeave design fault kept events first limit →
    StandsAt events first limit seen → ActsElsewhere kept.writes seen.event
acts design fault kept events first limit seen tables at =
    elsewhere kept.writes seen.event
    (λ process own.
    sym (ap (λ (o : Option Seen). elim o as (λ _. Bool) [ None ↦ false | Some one ↦ is_number process (process_stepped one.event) ]) at.here)
    ∙ tables.steps process at.moment own at.low at.high)

-- The law

stands-at : (design : FlatDesign) (plan : TestPlan) (begins ends moment : ℕ) (place : Place) (events more : List Event) → IsAtMoment design plan begins ends moment place →
    place.left ≡ events ++ more → (number : ℕ) (seen : Seen) →
    slice_get (seen_from (good_machine design) (state_there (good_machine design) place) events) number ≡ Some seen →
    StandsAt (window_events design plan begins ends) moment (moment + length events) seen
stands-at design plan begins ends moment place events more at left number seen here =
    let within : number < length (seen_from (good_machine design) (state_there (good_machine design) place) events) =
    slice_get_within (seen_from (good_machine design) (state_there (good_machine design) place) events) number seen here in
    let long : length (seen_from (good_machine design) (state_there (good_machine design) place) events) ≡ length events =
    seen-length (good_machine design) (state_there (good_machine design) place) events in
    record {
      moment = moment + number;
      here =
          sym (get-dropped (window_events design plan begins ends) moment number)
          ∙ ap (λ (l : List Seen). slice_get l number) (stretch-left design plan begins ends moment place events more at left)
          ∙ get-joined (seen_from (good_machine design) (state_there (good_machine design) place) events) _ number seen here;
      low = omega arith;
      high = omega (arith, within, long);
    }

tables-tell : (design : FlatDesign) (plan : TestPlan) (fault : StuckAt) (begins ends moment : ℕ) (place : Place) (kept : LockstepKept) (events more : List Event) →
    IsAtMoment design plan begins ends moment place → place.left ≡ events ++ more →
    TablesLeave design fault kept (window_events design plan begins ends) moment (moment + length events) → IsLeftAlone design fault kept place events
tables-tell design plan fault begins ends moment place kept events more at left tables = record {
  values = all-numbered (LeavesValues design fault (kept_within kept (state_there (good_machine design) place)))
      (seen_from (good_machine design) (state_there (good_machine design) place) events)
      (λ number seen here.
      leaves design fault kept (window_events design plan begins ends) moment (moment + length events) (state_there (good_machine design) place) seen tables
      (stands-at design plan begins ends moment place events more at left number seen here));
  elsewhere = all-events (ActsElsewhere kept.writes) (good_machine design) (state_there (good_machine design) place) events
      (all-numbered (λ (seen : Seen). ActsElsewhere kept.writes seen.event) (seen_from (good_machine design) (state_there (good_machine design) place) events)
      (λ number seen here.
      acts design fault kept (window_events design plan begins ends) moment (moment + length events) seen tables
      (stands-at design plan begins ends moment place events more at left number seen here)));
}

pub places_in_windows : PlacesInWindows
places_in_windows = record { slots = slot-phases; begins = slot-begins; goes_on = goes-on; turns = turns; tables = tables-tell }

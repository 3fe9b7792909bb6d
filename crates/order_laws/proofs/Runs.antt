-- What stands at each place of a run from a phase's beginning.
use Rattle.std.proofs.Common.{◌≡◌, ℕ, zero, suc, ◌+◌, ◌<◌, ◌≤◌, List, [], ◌∷◌, ◌++◌, length, Bool, true, false, not, refl, sym, ap, subst, ◌∙◌, ◌⊎◌, inl, inr, arith}
use Rattle.std.specs.Prelude.{Option, Some, None, slice_get}
use Rattle.four_value.specs.Values.{LogicValue, same_value}
use Rattle.v_design.specs.Designs.{FlatNode, Machine}
use Rattle.v_design.specs.Assignments.{ValueUpdate, value_at}
use Rattle.v_design.specs.States.{State, Event, Step, LaneStep, Evaluation, NetUpdate, after, written_if, write_of, step_of, with_process, first_update, process_at, with_value, with_values}
use Rattle.v_design.specs.States.{evaluated, nets_updated}
use Rattle.v_design.specs.Runs.{happened, all_possible}
use Rattle.v_design.specs.Paths.{one_if}
use Rattle.v_design.specs.WellFormed.{KeepsRules}
use Rattle.v_design.specs.Laws.{BeginsPhase, IsStateOf, change_if, changes_at}
use Rattle.order_laws.proofs.PathLaws.{decided, true-false, reached, reached-append}
use Rattle.order_laws.proofs.WritersStay.{AreClear, NotNet, writers_clear}
use Rattle.order_laws.proofs.NetStates.{same_value-true, same_value-self}
use Rattle.order_laws.proofs.QuietNets.{StaysQuiet, event_changes, run_changes, quiet-begins, quiet-run}
use Rattle.order_laws.proofs.SettledNets.{Follows, Everywhere, follows-begins, follows-run}
use Rattle.order_laws.proofs.NodeRests.{rest_on_inputs}
use Rattle.order_laws.proofs.CountedChanges.{changed_in}
use Rattle.order_laws.proofs.PhasesGoOn.{clear-run, state-run}
use Rattle.order_laws.proofs.RunStates.{first_of, state_at, at_start, at_past, at_first, first-possible}
use Rattle.order_laws.proofs.Touches.{unchanged_in}

-- a run of possible events from a phase's beginning
pub record IsRun (machine : Machine) (state : State) (events : List Event) : Type 0 where
  pub rules : KeepsRules machine.design
  pub begins : BeginsPhase machine state
  pub possible : all_possible machine state events ≡ true

pub run_first : (machine : Machine) (state : State) (events : List Event) (place : ℕ) → IsRun machine state events → IsRun machine state (first_of place events)
run_first machine state events place r = record { rules = r.rules; begins = r.begins; possible = first-possible machine state events place r.possible }

pub follows_at : (machine : Machine) (state : State) (events : List Event) (place : ℕ) → IsRun machine state events → Follows machine Everywhere (state_at machine state events place)
follows_at machine state events place r =
    subst (λ s. Follows machine Everywhere s) (sym (at_first machine state events place))
    (follows-run machine state (first_of place events) r.rules (rest_on_inputs machine r.rules) (writers_clear machine state r.begins.writers) (follows-begins machine state r.begins))

pub clear_at : (machine : Machine) (state : State) (events : List Event) (place : ℕ) → IsRun machine state events → AreClear (NotNet machine) (state_at machine state events place)
clear_at machine state events place r =
    subst (λ s. AreClear (NotNet machine) s) (sym (at_first machine state events place)) (clear-run machine state (first_of place events) r.rules (writers_clear machine state r.begins.writers))

pub state_of_at : (machine : Machine) (state : State) (events : List Event) (place : ℕ) → IsRun machine state events → IsStateOf machine (state_at machine state events place)
state_of_at machine state events place r =
    subst (λ s. IsStateOf machine s) (sym (at_first machine state events place)) (state-run machine state (first_of place events) r.begins.fits)

pub quiet_at : (machine : Machine) (state : State) (events : List Event) (place : ℕ) → IsRun machine state events →
    StaysQuiet machine state (state_at machine state events place) (run_changes machine state (first_of place events))
quiet_at machine state events place r =
    subst (λ s. StaysQuiet machine state s (run_changes machine state (first_of place events))) (sym (at_first machine state events place))
    (quiet-run machine state state [] (first_of place events) r.rules (writers_clear machine state r.begins.writers) (first-possible machine state events place r.possible)
    (quiet-begins machine state r.begins.idle))

-- time stands still
time-written : (machine : Machine) (write : Option ValueUpdate) (s : State) → (written_if machine write s).time ≡ s.time
time-written machine None s = refl
time-written machine (Some u) s = refl

time-values : (machine : Machine) (objects : List ℕ) (values : List LogicValue) (s : State) → (with_values machine objects values s).time ≡ s.time
time-values machine [] values s = refl
time-values machine (object ∷ objects) [] s = refl
time-values machine (object ∷ objects) (value ∷ values) s = time-values machine objects values (with_value machine object value s)

time-nets : (machine : Machine) (number : ℕ) (found : Option FlatNode) (pending : Option (List LogicValue)) (s : State) → (nets_updated machine number found pending s).time ≡ s.time
time-nets machine number None pending s = refl
time-nets machine number (Some node) None s = refl
time-nets machine number (Some node) (Some values) s = time-values machine node.outputs values _

time-evaluated : (machine : Machine) (number : ℕ) (found : Option FlatNode) (s : State) → (evaluated machine number found s).time ≡ s.time
time-evaluated machine number None s = refl
time-evaluated machine number (Some node) s = refl

pub time-after : (machine : Machine) (s : State) (event : Event) → (after machine s event).time ≡ s.time
time-after machine s (Step p) = time-written machine (write_of (step_of machine s p).action) (with_process p _ s)
time-after machine s (LaneStep p) = time-written machine (first_update (process_at s p).lane) (with_process p _ s)
time-after machine s (Evaluation n) = time-evaluated machine n (slice_get machine.design.nodes n) s
time-after machine s (NetUpdate n) = time-nets machine n (slice_get machine.design.nodes n) _ s

pub time_at : (machine : Machine) (state : State) (events : List Event) (place : ℕ) → (state_at machine state events place).time ≡ state.time
time_at machine state [] place = refl
time_at machine state (event ∷ events) zero = refl
time_at machine state (event ∷ events) (suc place) = time_at machine (after machine state event) events place ∙ time-after machine state event

-- the state after the last event stays
pub past_same : (machine : Machine) (state : State) (events : List Event) (place : ℕ) → slice_get events place ≡ None → state_at machine state events (suc place) ≡ state_at machine state events place
past_same machine state [] place e = refl
past_same machine state (event ∷ events) zero e = cc
past_same machine state (event ∷ events) (suc place) e = past_same machine (after machine state event) events place e

-- Changes by place

-- whether an object changes at a place
abbrev pub changes_there : Machine → State → List Event → ℕ → ℕ → Bool
changes_there machine state events object place = changed_in (state_at machine state events place) (state_at machine state events (suc place)) object

pub same_there : (machine : Machine) (state : State) (events : List Event) (object place : ℕ) → changes_there machine state events object place ≡ false →
    value_at (state_at machine state events (suc place)).values object ≡ value_at (state_at machine state events place).values object
same_there machine state events object place e =
    sym (same_value-true (value_at (state_at machine state events place).values object) (value_at (state_at machine state events (suc place)).values object)
    (not-false (same_value (value_at (state_at machine state events place).values object) (value_at (state_at machine state events (suc place)).values object)) e))
  where
    not-false : (b : Bool) → not b ≡ false → b ≡ true
    not-false true e = refl
    not-false false e = cc

-- the changes of an object in a run, counted
abbrev pub change_count : Machine → State → List Event → ℕ → ℕ
change_count machine state events object = length (changes_at machine state events object)

length-change_if : (b : Bool) (old new : LogicValue) (rest : List (LogicValue × LogicValue)) → length (change_if b old new rest) ≡ one_if b + length rest
length-change_if true old new rest = omega arith
length-change_if false old new rest = omega arith

pub count-step : (machine : Machine) (state : State) (event : Event) (events : List Event) (object : ℕ) →
    change_count machine state (event ∷ events) object ≡ one_if (changed_in state (after machine state event) object) + change_count machine (after machine state event) events object
count-step machine state event events object =
    length-change_if (changed_in state (after machine state event) object) (value_at state.values object) (value_at (after machine state event).values object)
    (changes_at machine (after machine state event) events object)

-- where an object never changes it has its first value
pub unchanged-value : (machine : Machine) (state : State) (events : List Event) (object place : ℕ) → change_count machine state events object ≡ 0 →
    value_at (state_at machine state events place).values object ≡ value_at state.values object
unchanged-value machine state [] object place e = refl
unchanged-value machine state (event ∷ events) object zero e = refl
unchanged-value machine state (event ∷ events) object (suc place) e =
    let s : change_count machine state (event ∷ events) object ≡ one_if (changed_in state (after machine state event) object) + change_count machine (after machine state event) events object =
    count-step machine state event events object in
    unchanged-value machine (after machine state event) events object place (omega (arith, e, s))
    ∙ go (changed_in state (after machine state event) object) refl (let z : one_if (changed_in state (after machine state event) object) ≡ 0 = omega (arith, e, s) in z)
  where
    same : same_value (value_at state.values object) (value_at (after machine state event).values object) ≡ true → value_at (after machine state event).values object ≡ value_at state.values object
    same h = sym (same_value-true (value_at state.values object) (value_at (after machine state event).values object) h)

    not-false : (b : Bool) → not b ≡ false → b ≡ true
    not-false true e = refl
    not-false false e = cc

    go : (b : Bool) → changed_in state (after machine state event) object ≡ b → one_if b ≡ 0 → value_at (after machine state event).values object ≡ value_at state.values object
    go true h z = absurd (omega (arith, z))
    go false h z = same (not-false (same_value (value_at state.values object) (value_at (after machine state event).values object)) h)

-- one that changes once at most has at each place its first value or its last
pub first_or_last : (machine : Machine) (state : State) (events : List Event) (object place : ℕ) → change_count machine state events object ≤ 1 →
    (value_at (state_at machine state events place).values object ≡ value_at state.values object)
    ⊎ (value_at (happened machine state events).values object ≡ value_at (state_at machine state events place).values object)
first_or_last machine state [] object place h = inl refl
first_or_last machine state (event ∷ events) object zero h = inl refl
first_or_last machine state (event ∷ events) object (suc place) h =
    go (changed_in state (after machine state event) object) refl (λ g. first_or_last machine (after machine state event) events object place g)
  where
    s : change_count machine state (event ∷ events) object ≡ one_if (changed_in state (after machine state event) object) + change_count machine (after machine state event) events object
    s = count-step machine state event events object

    not-false : (b : Bool) → not b ≡ false → b ≡ true
    not-false true e = refl
    not-false false e = cc

    whole : value_at (state_at machine (after machine state event) events (length events)).values object ≡ value_at (happened machine (after machine state event) events).values object
    whole = ap (λ t. value_at t.values object) (at_past machine (after machine state event) events (length events) (past (length events) events refl))
      where
        past : (n : ℕ) (es : List Event) → length es ≡ n → slice_get es n ≡ None
        past n [] e = refl
        past zero (x ∷ es) e = absurd (omega (arith, e))
        past (suc n) (x ∷ es) e = past n es (omega (arith, e))

    go : (b : Bool) → changed_in state (after machine state event) object ≡ b →
        (change_count machine (after machine state event) events object ≤ 1 →
        (value_at (state_at machine (after machine state event) events place).values object ≡ value_at (after machine state event).values object)
        ⊎ (value_at (happened machine (after machine state event) events).values object ≡ value_at (state_at machine (after machine state event) events place).values object)) →
        (value_at (state_at machine (after machine state event) events place).values object ≡ value_at state.values object)
        ⊎ (value_at (happened machine (after machine state event) events).values object ≡ value_at (state_at machine (after machine state event) events place).values object)
    go true e rest =
        let b : one_if (changed_in state (after machine state event) object) ≡ 1 = ap one_if e in
        let z : change_count machine (after machine state event) events object ≡ 0 = omega (arith, s, h, b) in
        inr (sym whole ∙ unchanged-value machine (after machine state event) events object (length events) z ∙ sym (unchanged-value machine (after machine state event) events object place z))
    go false e rest =
        let b : one_if (changed_in state (after machine state event) object) ≡ 0 = ap one_if e in
        elim (rest (omega (arith, s, h, b))) [
          | inl first ↦ inl (first ∙ sym (same_value-true (value_at state.values object) (value_at (after machine state event).values object)
              (not-false (same_value (value_at state.values object) (value_at (after machine state event).values object)) e)))
          | inr last ↦ inr last
        ]

-- an object that differs from its first value has changed at an earlier place
pub changed_before : (machine : Machine) (state : State) (events : List Event) (object place : ℕ) →
    same_value (value_at state.values object) (value_at (state_at machine state events place).values object) ≡ false →
    (k : ℕ) × (k < place) × (changes_there machine state events object k ≡ true)
changed_before machine state events object zero d =
    true-false (same_value (value_at state.values object) (value_at (state_at machine state events 0).values object))
    (ap (λ s. same_value (value_at state.values object) (value_at s.values object)) (at_start machine state events) ∙ same_value-self (value_at state.values object)) d
changed_before machine state events object (suc place) d = elim (decided (changes_there machine state events object place)) [
  | inl t ↦ (place, omega arith, t)
  | inr f ↦ (let r = changed_before machine state events object place
      (ap (same_value (value_at state.values object)) (sym (same_there machine state events object place f)) ∙ d) in
      (r.0, (let b : r.0 < place = r.1 in omega (arith, b)), r.2))
]

-- a change at a place counts, and changes at two places count twice
pub changes_once_there : (machine : Machine) (state : State) (events : List Event) (object k : ℕ) → changes_there machine state events object k ≡ true → 1 ≤ change_count machine state events object
changes_once_there machine state [] object k t = true-false (changed_in state state object) t (unchanged_in state state object refl)
changes_once_there machine state (event ∷ events) object zero t =
    let s : change_count machine state (event ∷ events) object ≡ one_if (changed_in state (after machine state event) object) + change_count machine (after machine state event) events object =
    count-step machine state event events object in
    let b : one_if (changed_in state (after machine state event) object) ≡ 1 = ap one_if (ap (λ u. changed_in state u object) (sym (at_start machine (after machine state event) events)) ∙ t) in
    omega (arith, s, b)
changes_once_there machine state (event ∷ events) object (suc k) t =
    let s : change_count machine state (event ∷ events) object ≡ one_if (changed_in state (after machine state event) object) + change_count machine (after machine state event) events object =
    count-step machine state event events object in
    let b : 1 ≤ change_count machine (after machine state event) events object = changes_once_there machine (after machine state event) events object k t in
    omega (arith, s, b)

pub changes_twice : (machine : Machine) (state : State) (events : List Event) (object j k : ℕ) → j < k → changes_there machine state events object j ≡ true →
    changes_there machine state events object k ≡ true →
    2 ≤ change_count machine state events object
changes_twice machine state [] object j k h t u = true-false (changed_in state state object) t (unchanged_in state state object refl)
changes_twice machine state (event ∷ events) object zero zero h t u = absurd (omega (arith, h))
changes_twice machine state (event ∷ events) object (suc j) zero h t u = absurd (omega (arith, h))
changes_twice machine state (event ∷ events) object zero (suc k) h t u =
    let s : change_count machine state (event ∷ events) object ≡ one_if (changed_in state (after machine state event) object) + change_count machine (after machine state event) events object =
    count-step machine state event events object in
    let b : one_if (changed_in state (after machine state event) object) ≡ 1 = ap one_if (ap (λ v. changed_in state v object) (sym (at_start machine (after machine state event) events)) ∙ t) in
    let c : 1 ≤ change_count machine (after machine state event) events object = changes_once_there machine (after machine state event) events object k u in
    omega (arith, s, b, c)
changes_twice machine state (event ∷ events) object (suc j) (suc k) h t u =
    let s : change_count machine state (event ∷ events) object ≡ one_if (changed_in state (after machine state event) object) + change_count machine (after machine state event) events object =
    count-step machine state event events object in
    let b : 2 ≤ change_count machine (after machine state event) events object = changes_twice machine (after machine state event) events object j k (omega (arith, h)) t u in
    omega (arith, s, b)

-- what the changes of one event reach
abbrev pub reached_there : Machine → State → List Event → ℕ → Option Event → ℕ → ℕ
reached_there machine state events place None object = 0
reached_there machine state events place (Some event) object = reached machine.design (event_changes machine (state_at machine state events place) event) object

abbrev ReachedBy : Machine → State → List Event → ℕ → Type 0
ReachedBy machine state events object =
    (k : ℕ) × (event : Event) × (slice_get events k ≡ Some event) × (1 ≤ reached machine.design (event_changes machine (state_at machine state events k) event) object)

reached-step : (machine : Machine) (state : State) (event : Event) (events : List Event) (object : ℕ) → 1 ≤ reached machine.design (run_changes machine state (event ∷ events)) object →
    (n : ℕ) → reached machine.design (event_changes machine state event) object ≡ n →
    (1 ≤ reached machine.design (run_changes machine (after machine state event) events) object → ReachedBy machine (after machine state event) events object) →
    ReachedBy machine state (event ∷ events) object
reached-step machine state event events object h zero z rest =
    let s : reached machine.design (event_changes machine state event ++ run_changes machine (after machine state event) events) object
    ≡ reached machine.design (event_changes machine state event) object + reached machine.design (run_changes machine (after machine state event) events) object =
    reached-append machine.design (event_changes machine state event) (run_changes machine (after machine state event) events) object in
    let r = rest (omega (arith, s, z, h)) in (suc r.0, r.1, r.2, r.3)
reached-step machine state event events object h (suc n) e rest = (0, event, refl, omega (arith, e))

-- an object that is reached is reached by an event
pub reached_by : (machine : Machine) (state : State) (events : List Event) (object : ℕ) → 1 ≤ reached machine.design (run_changes machine state events) object →
    (k : ℕ) × (event : Event) × (slice_get events k ≡ Some event) × (1 ≤ reached machine.design (event_changes machine (state_at machine state events k) event) object)
reached_by machine state [] object h = absurd (omega (arith, h))
reached_by machine state (event ∷ events) object h =
    reached-step machine state event events object h (reached machine.design (event_changes machine state event) object) refl (λ g. reached_by machine (after machine state event) events object g)

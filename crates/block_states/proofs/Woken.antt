-- A process that takes no step in some events: it does what it did, or is ready to go on where its wait has ended.
use Rattle.std.proofs.Common.{◌≡◌, ℕ, zero, suc, List, [], ◌∷◌, Bool, true, false, ◌&&◌, ◌||◌, refl, sym, ap, ◌∙◌}
use Rattle.std.specs.Prelude.{Option, Some, None, slice_get, nat_eq}
use Rattle.std.proofs.lemmas.Bool.{eq-eqb}
use Rattle.four_value.specs.Values.{LogicValue}
use Rattle.v_design.specs.Designs.{FlatNode, Machine}
use Rattle.v_design.specs.Assignments.{ValueUpdate, value_at}
use Rattle.v_design.specs.Processes.{Activity, Ready, Waiting, Asleep, Postponed, Done}
use Rattle.v_design.specs.States.{State, ProcessState, Event, Step, LaneStep, Evaluation, NetUpdate, after, process_at, node_at, idle_process, is_ready, some_entry, entry_matches, ready_if, woken}
use Rattle.v_design.specs.States.{found_or, woken_process, with_value, with_values, with_process, with_node, value_written, written_if, write_of, step_of, after_step, first_update, after_lane_step}
use Rattle.v_design.specs.States.{evaluated, nets_updated}
use Rattle.v_design.specs.Accesses.{is_waiting}
use Rattle.v_design.specs.Runs.{happened}
use Rattle.v_design.specs.PhaseLogs.{is_step_of}
use Rattle.vf_base.specs.Lists.{change_at}
use Rattle.copy_laws.specs.QuietPhases.{ends_its_wait}
use Rattle.copy_laws.proofs.Parts.{true-false, changed-elsewhere, found-mapped}
use Rattle.block_changes.specs.Changes.{ends_wait_of, steps_process}
use Rattle.block_states.specs.Leaving.{wait_ended}

-- what a process did, and does: the same, or what comes where its wait has ended
data Becomes (was is : Activity) : Type 0 where
  Same : (same : is ≡ was) → Becomes was is
  Ended : (waited : is_waiting was ≡ true) (ended : is ≡ wait_ended was) → Becomes was is

woken-becomes : (object : ℕ) (old new : LogicValue) (activity : Activity) → Becomes activity (woken object old new activity)
woken-becomes object old new (Ready tasks operands) = Same refl
woken-becomes object old new (Waiting place entries tasks) = go (some_entry (entry_matches object old new) entries)
  where
    go : (b : Bool) → Becomes (Waiting place entries tasks) (ready_if b (Waiting place entries tasks) tasks)
    go true = Ended refl refl
    go false = Same refl
woken-becomes object old new (Asleep time tasks) = Same refl
woken-becomes object old new (Postponed tasks) = Same refl
woken-becomes object old new Done = Same refl

-- a process that is ready stays so
ready-becomes : (was is : Activity) → is_ready was ≡ true → Becomes was is → is ≡ was
ready-becomes was is r (Same same) = same
ready-becomes (Ready tasks operands) is r (Ended waited ended) = ended
ready-becomes (Waiting place entries tasks) is r (Ended waited ended) = cc
ready-becomes (Asleep time tasks) is r (Ended waited ended) = ended
ready-becomes (Postponed tasks) is r (Ended waited ended) = ended
ready-becomes Done is r (Ended waited ended) = ended

ended-ready : (was : Activity) → is_waiting was ≡ true → is_ready (wait_ended was) ≡ true
ended-ready (Ready tasks operands) w = refl
ended-ready (Waiting place entries tasks) w = refl
ended-ready (Asleep time tasks) w = cc
ended-ready (Postponed tasks) w = cc
ended-ready Done w = cc

-- one change after another
then-becomes : (one two three : Activity) → Becomes one two → Becomes two three → Becomes one three
then-becomes one two three (Same same) (Same also) = Same (also ∙ same)
then-becomes one two three (Same same) (Ended waited ended) = Ended (sym (ap is_waiting same) ∙ waited) (ended ∙ ap wait_ended same)
then-becomes one two three (Ended waited ended) next = Ended waited (ready-becomes two three (ap is_ready ended ∙ ended-ready one waited) next ∙ ended)

abbrev Goes : State → State → ℕ → Type 0
Goes before later p = Becomes (process_at before p).activity (process_at later p).activity

from-same : (one two three : Activity) → one ≡ two → Becomes two three → Becomes one three
from-same one two three e next = then-becomes one two three (Same (sym e)) next

to-same : (one two three : Activity) → Becomes one two → three ≡ two → Becomes one three
to-same one two three next e = then-becomes one two three next (Same e)

put-goes : (machine : Machine) (object : ℕ) (new : LogicValue) (state : State) (p : ℕ) → Goes state (with_value machine object new state) p
put-goes machine object new state p =
    to-same (process_at state p).activity (woken object (value_at state.values object) new (process_at state p).activity) (process_at (with_value machine object new state) p).activity
    (woken-becomes object (value_at state.values object) new (process_at state p).activity)
    (ap (λ (s : ProcessState). s.activity) (found-mapped (woken_process object (value_at state.values object) new) idle_process state.processes p refl))

puts-go : (machine : Machine) (objects : List ℕ) (values : List LogicValue) (state : State) (p : ℕ) → Goes state (with_values machine objects values state) p
puts-go machine [] values state p = Same refl
puts-go machine (object ∷ objects) [] state p = Same refl
puts-go machine (object ∷ objects) (value ∷ values) state p =
    then-becomes (process_at state p).activity (process_at (with_value machine object value state) p).activity
    (process_at (with_values machine objects values (with_value machine object value state)) p).activity (put-goes machine object value state p)
    (puts-go machine objects values (with_value machine object value state) p)

written-goes : (machine : Machine) (update : Option ValueUpdate) (before state : State) (p : ℕ) → (process_at state p).activity ≡ (process_at before p).activity →
    Goes before (written_if machine update state) p
written-goes machine None before state p same = Same same
written-goes machine (Some update) before state p same =
    from-same (process_at before p).activity (process_at state p).activity (process_at (with_value machine update.object (value_written machine state update) state) p).activity (sym same)
    (put-goes machine update.object (value_written machine state update) state p)

lane-activity : (xs : List ProcessState) (q p : ℕ) → (found_or idle_process (slice_get (change_at xs q after_lane_step) p)).activity ≡ (found_or idle_process (slice_get xs p)).activity
lane-activity [] q p = refl
lane-activity (x ∷ xs) zero zero = refl
lane-activity (x ∷ xs) zero (suc p) = refl
lane-activity (x ∷ xs) (suc q) zero = refl
lane-activity (x ∷ xs) (suc q) (suc p) = lane-activity xs q p

event-goes : (machine : Machine) (state : State) (event : Event) (p : ℕ) → is_step_of p event ≡ false → Goes state (after machine state event) p
event-goes machine state (Step q) p other =
    written-goes machine (write_of (step_of machine state q).action) state (with_process q (after_step state (step_of machine state q)) state) p
    (ap (λ (s : ProcessState). s.activity)
    (changed-elsewhere idle_process state.processes q (after_step state (step_of machine state q)) p (λ same. true-false (nat_eq p q) (eq-eqb p q (sym same)) other)))
event-goes machine state (LaneStep q) p other =
    written-goes machine (first_update (process_at state q).lane) state (with_process q after_lane_step state) p (lane-activity state.processes q p)
event-goes machine state (Evaluation number) p other = go (slice_get machine.design.nodes number)
  where
    go : (node : Option FlatNode) → Goes state (evaluated machine number node state) p
    go None = Same refl
    go (Some node) = Same refl
event-goes machine state (NetUpdate number) p other = go (slice_get machine.design.nodes number) (node_at state number).pending
  where
    go : (node : Option FlatNode) (pending : Option (List LogicValue)) → Goes state (nets_updated machine number node pending state) p
    go None pending = Same refl
    go (Some node) None = Same refl
    go (Some node) (Some values) = puts-go machine node.outputs values (with_node number (λ old. record old { pending = None }) state) p

-- Several events

or-neither : (a b : Bool) → (a || b) ≡ false → (a ≡ false) × (b ≡ false)
or-neither true b e = cc
or-neither false b e = (refl, e)

-- an event that ends no wait leaves what a process does, and one that ends it leads on
not-ended : (was is : Activity) → Becomes was is → (is_waiting was && is_ready is) ≡ false → is ≡ was
not-ended was is (Same same) e = same
not-ended was is (Ended waited ended) e =
    true-false (is_waiting was && is_ready is) (λ i. waited i && (ap is_ready ended ∙ ended-ready was waited) i) e

and-parts : (a b : Bool) → (a && b) ≡ true → (a ≡ true) × (b ≡ true)
and-parts true b e = (refl, e)
and-parts false b e = cc

waiting-not-ready : (activity : Activity) → is_waiting activity ≡ true → is_ready activity ≡ false
waiting-not-ready (Ready tasks operands) w = cc
waiting-not-ready (Waiting place entries tasks) w = refl
waiting-not-ready (Asleep time tasks) w = cc
waiting-not-ready (Postponed tasks) w = cc
waiting-not-ready Done w = cc

is-ended : (was is : Activity) → Becomes was is → (is_waiting was && is_ready is) ≡ true → is ≡ wait_ended was
is-ended was is (Ended waited ended) e = ended
is-ended was is (Same same) e =
    let parts = and-parts (is_waiting was) (is_ready is) e in
    true-false (is_ready was) (sym (ap is_ready same) ∙ parts.1) (waiting-not-ready was parts.0)

pub stays-so : (machine : Machine) (state : State) (events : List Event) (p : ℕ) → steps_process events p ≡ false → ends_wait_of machine state events p ≡ false →
    (process_at (happened machine state events) p).activity ≡ (process_at state p).activity
stays-so machine state [] p steps waits = refl
stays-so machine state (event ∷ events) p steps waits =
    let s = or-neither (is_step_of p event) (steps_process events p) steps in
    let w = or-neither (ends_its_wait machine state event p) (ends_wait_of machine (after machine state event) events p) waits in
    stays-so machine (after machine state event) events p s.1 w.1
    ∙ not-ended (process_at state p).activity (process_at (after machine state event) p).activity (event-goes machine state event p s.0) w.0

-- all events, one after another
all-go : (machine : Machine) (state : State) (events : List Event) (p : ℕ) → steps_process events p ≡ false → Goes state (happened machine state events) p
all-go machine state [] p steps = Same refl
all-go machine state (event ∷ events) p steps =
    let s = or-neither (is_step_of p event) (steps_process events p) steps in
    then-becomes (process_at state p).activity (process_at (after machine state event) p).activity (process_at (happened machine (after machine state event) events) p).activity
    (event-goes machine state event p s.0) (all-go machine (after machine state event) events p s.1)

pub becomes-ready : (machine : Machine) (state : State) (events : List Event) (p : ℕ) → steps_process events p ≡ false → ends_wait_of machine state events p ≡ true →
    (process_at (happened machine state events) p).activity ≡ wait_ended (process_at state p).activity
becomes-ready machine state [] p steps waits = cc
becomes-ready machine state (event ∷ events) p steps waits =
    go (ends_its_wait machine state event p) refl waits (λ w. becomes-ready machine (after machine state event) events p s.1 w)
  where
    s : (is_step_of p event ≡ false) × (steps_process events p ≡ false)
    s = or-neither (is_step_of p event) (steps_process events p) steps

    go : (b : Bool) → ends_its_wait machine state event p ≡ b → (b || ends_wait_of machine (after machine state event) events p) ≡ true →
        (ends_wait_of machine (after machine state event) events p ≡ true →
        (process_at (happened machine (after machine state event) events) p).activity ≡ wait_ended (process_at (after machine state event) p).activity) →
        (process_at (happened machine (after machine state event) events) p).activity ≡ wait_ended (process_at state p).activity
    go true e w rest =
        ready-becomes (process_at (after machine state event) p).activity (process_at (happened machine (after machine state event) events) p).activity
        (and-parts (is_waiting (process_at state p).activity) (is_ready (process_at (after machine state event) p).activity) e).1
        (all-go machine (after machine state event) events p s.1)
        ∙ is-ended (process_at state p).activity (process_at (after machine state event) p).activity (event-goes machine state event p s.0) e
    go false e w rest =
        rest w ∙ ap wait_ended (not-ended (process_at state p).activity (process_at (after machine state event) p).activity (event-goes machine state event p s.0) e)

-- What other events leave of a ready process, and what its own step leaves it doing.
use Rattle.std.proofs.Common.{◌≡◌, ℕ, zero, suc, List, [], ◌∷◌, map, Bool, true, false, refl, sym, ap, ◌∙◌}
use Rattle.std.specs.Prelude.{◌≢◌, Option, Some, None, slice_get, nat_eq}
use Rattle.std.proofs.lemmas.Bool.{eqb-true, eq-eqb}
use Rattle.four_value.specs.Values.{LogicValue}
use Rattle.vf_base.specs.Lists.{change_at}
use Rattle.v_design.specs.Designs.{FlatNode, Machine}
use Rattle.v_design.specs.Assignments.{ValueUpdate, value_at}
use Rattle.v_design.specs.Processes.{Activity, Ready, Waiting, Asleep, Postponed, Done, ProcessStep}
use Rattle.v_design.specs.States.{State, ProcessState, Event, Step, LaneStep, Evaluation, NetUpdate, after, process_at, node_at, found_or, idle_process, activity_step, step_of, is_ready}
use Rattle.v_design.specs.States.{woken, woken_process, with_value, with_values, with_process, with_node, value_written, written_if, write_of, after_step, first_update, after_lane_step}
use Rattle.v_design.specs.States.{evaluated, nets_updated}
use Rattle.v_design.specs.PhaseLogs.{is_step_of}
use Rattle.v_design.specs.OwnSteps.{value_read, seen_step}
use Rattle.copy_laws.specs.SharedRuns.{with_read, read-next, activity_after}

true-false : {A : Type 0} (b : Bool) → b ≡ true → b ≡ false → A
true-false true e f = cc
true-false false e f = cc

found-mapped : {A : Type 0} (f : A → A) (default : A) (xs : List A) (place : ℕ) → f default ≡ default → found_or default (slice_get (map f xs) place) ≡ f (found_or default (slice_get xs place))
found-mapped f default [] place e = sym e
found-mapped f default (x ∷ xs) zero e = refl
found-mapped f default (x ∷ xs) (suc place) e = found-mapped f default xs place e

changed-elsewhere : {A : Type 0} (default : A) (xs : List A) (place : ℕ) (h : A → A) (q : ℕ) → place ≢ q → found_or default (slice_get (change_at xs place h) q) ≡ found_or default (slice_get xs q)
changed-elsewhere default [] place h q d = refl
changed-elsewhere default (x ∷ xs) zero h zero d = absurd (d refl)
changed-elsewhere default (x ∷ xs) zero h (suc q) d = refl
changed-elsewhere default (x ∷ xs) (suc place) h zero d = refl
changed-elsewhere default (x ∷ xs) (suc place) h (suc q) d = changed-elsewhere default xs place h q (λ e. d (ap suc e))

woken-ready : (object : ℕ) (old new : LogicValue) (activity : Activity) → is_ready activity ≡ true → woken object old new activity ≡ activity
woken-ready object old new (Ready tasks operands) r = refl
woken-ready object old new (Waiting place entries tasks) r = cc
woken-ready object old new (Asleep time tasks) r = cc
woken-ready object old new (Postponed tasks) r = cc
woken-ready object old new Done r = cc

put-ready : (machine : Machine) (object : ℕ) (new : LogicValue) (state : State) (p : ℕ) → is_ready (process_at state p).activity ≡ true →
    (process_at (with_value machine object new state) p).activity ≡ (process_at state p).activity
put-ready machine object new state p r =
    ap (λ (s : ProcessState). s.activity) (found-mapped (woken_process object (value_at state.values object) new) idle_process state.processes p refl)
    ∙ woken-ready object (value_at state.values object) new (process_at state p).activity r

written-ready : (machine : Machine) (update : Option ValueUpdate) (state : State) (p : ℕ) → is_ready (process_at state p).activity ≡ true →
    (process_at (written_if machine update state) p).activity ≡ (process_at state p).activity
written-ready machine None state p r = refl
written-ready machine (Some update) state p r = put-ready machine update.object (value_written machine state update) state p r

puts-ready : (machine : Machine) (objects : List ℕ) (values : List LogicValue) (state : State) (p : ℕ) → is_ready (process_at state p).activity ≡ true →
    (process_at (with_values machine objects values state) p).activity ≡ (process_at state p).activity
puts-ready machine [] values state p r = refl
puts-ready machine (object ∷ objects) [] state p r = refl
puts-ready machine (object ∷ objects) (value ∷ values) state p r =
    let first = put-ready machine object value state p r in
    puts-ready machine objects values (with_value machine object value state) p (ap is_ready first ∙ r) ∙ first

evaluated-processes : (machine : Machine) (number : ℕ) (found : Option FlatNode) (state : State) → (evaluated machine number found state).processes ≡ state.processes
evaluated-processes machine number None state = refl
evaluated-processes machine number (Some node) state = refl

updated-ready : (machine : Machine) (number : ℕ) (found : Option FlatNode) (pending : Option (List LogicValue)) (state : State) (p : ℕ) → is_ready (process_at state p).activity ≡ true →
    (process_at (nets_updated machine number found pending state) p).activity ≡ (process_at state p).activity
updated-ready machine number None pending state p r = refl
updated-ready machine number (Some node) None state p r = refl
updated-ready machine number (Some node) (Some values) state p r = puts-ready machine node.outputs values (with_node number (λ old. record old { pending = None }) state) p r

-- a lane's step leaves what each process does
lane-activity : (xs : List ProcessState) (q p : ℕ) → (found_or idle_process (slice_get (change_at xs q after_lane_step) p)).activity ≡ (found_or idle_process (slice_get xs p)).activity
lane-activity [] q p = refl
lane-activity (x ∷ xs) zero zero = refl
lane-activity (x ∷ xs) zero (suc p) = refl
lane-activity (x ∷ xs) (suc q) zero = refl
lane-activity (x ∷ xs) (suc q) (suc p) = lane-activity xs q p

-- a ready process does what it did until its own next step
pub stays-ready : (machine : Machine) (state : State) (p : ℕ) (event : Event) → is_step_of p event ≡ false → is_ready (process_at state p).activity ≡ true →
    (process_at (after machine state event) p).activity ≡ (process_at state p).activity
stays-ready machine state p (Step q) h r =
    let apart : q ≢ p = λ e. true-false (nat_eq p q) (eq-eqb p q (sym e)) h in
    let own = ap (λ (s : ProcessState). s.activity) (changed-elsewhere idle_process state.processes q (after_step state (step_of machine state q)) p apart) in
    written-ready machine (write_of (step_of machine state q).action) (with_process q (after_step state (step_of machine state q)) state) p (ap is_ready own ∙ r) ∙ own
stays-ready machine state p (LaneStep q) h r =
    let own = lane-activity state.processes q p in
    written-ready machine (first_update (process_at state q).lane) (with_process q after_lane_step state) p (ap is_ready own ∙ r) ∙ own
stays-ready machine state p (Evaluation number) h r =
    ap (λ (ps : List ProcessState). (found_or idle_process (slice_get ps p)).activity) (evaluated-processes machine number (slice_get machine.design.nodes number) state)
stays-ready machine state p (NetUpdate number) h r = updated-ready machine number (slice_get machine.design.nodes number) (node_at state number).pending state p r

-- After its own step

-- a step leaves ready only what was ready
ready-before : (machine : Machine) (state : State) (p : ℕ) (activity : Activity) → is_ready (activity_step machine state p activity).next ≡ true → is_ready activity ≡ true
ready-before machine state p (Ready tasks operands) r = refl
ready-before machine state p (Waiting place entries tasks) r = r
ready-before machine state p (Asleep time tasks) r = r
ready-before machine state p (Postponed tasks) r = r
ready-before machine state p Done r = r

changed-here : (xs : List ProcessState) (p : ℕ) (h : ProcessState → ProcessState) → is_ready (found_or idle_process (slice_get xs p)).activity ≡ true →
    found_or idle_process (slice_get (change_at xs p h) p) ≡ h (found_or idle_process (slice_get xs p))
changed-here [] p h r = cc
changed-here (x ∷ xs) zero h r = refl
changed-here (x ∷ xs) (suc p) h r = changed-here xs p h r

pub operand-ready : (value : Option LogicValue) (next : Activity) → is_ready next ≡ true → is_ready (with_read value next) ≡ true
operand-ready None next r = r
operand-ready (Some value) (Ready tasks operands) r = refl
operand-ready (Some value) (Waiting place entries tasks) r = r
operand-ready (Some value) (Asleep time tasks) r = r
operand-ready (Some value) (Postponed tasks) r = r
operand-ready (Some value) Done r = r

pub after-own : (machine : Machine) (state : State) (p : ℕ) → is_ready (seen_step machine state p).step.next ≡ true →
    (process_at (after machine state (Step p)) p).activity ≡ activity_after (seen_step machine state p)
after-own machine state p r =
    written-ready machine (write_of step.action) (with_process p (after_step state step) state) p (ap is_ready own ∙ operand-ready (value_read state step.action) step.next r) ∙ own
  where
    step : ProcessStep
    step = step_of machine state p

    own : (process_at (with_process p (after_step state step) state) p).activity ≡ with_read (value_read state step.action) step.next
    own = ap (λ (s : ProcessState). s.activity) (changed-here state.processes p (after_step state step) (ready-before machine state p (process_at state p).activity r))
        ∙ read-next state step.action step.next

pub is-the-step : (p : ℕ) (event : Event) → is_step_of p event ≡ true → event ≡ Step p
is-the-step p (Step q) h = ap Step (sym (eqb-true p q h))
is-the-step p (LaneStep q) h = cc
is-the-step p (Evaluation number) h = cc
is-the-step p (NetUpdate number) h = cc

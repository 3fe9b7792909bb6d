-- Events in states that are alike but for what processes have yet to write.
use Rattle.std.proofs.Common.{◌≡◌, ℕ, zero, suc, Bool, true, false, List, [], ◌∷◌, length, map, refl, sym, ap, subst, ◌∙◌, arith}
use Rattle.std.specs.Prelude.{Option, Some, None, slice_get}
use Rattle.four_value.specs.Values.{LogicValue}
use Rattle.vf_base.specs.Lists.{AllHold, change_at, first_place}
use Rattle.v_design.specs.Assignments.{ValueUpdate, node_outputs, value_at}
use Rattle.v_design.specs.Designs.{FlatNode, Machine}
use Rattle.v_design.specs.Processes.{Activity, Ready, Waiting, Asleep, Postponed, Done, ProcessStep, process_step}
use Rattle.v_design.specs.States.{State, NodeState, ProcessState, Event, Step, LaneStep, Evaluation, NetUpdate, activity_step, after, after_lane_step, after_step, evaluated, first_update, found_or}
use Rattle.v_design.specs.States.{idle_node, idle_process, is_any, is_ready, lane_stepped, nets_updated, next_activity, node_at, process_at, rest_of, step_of, stepped, value_written, with_process, with_value, with_values, woken}
use Rattle.v_design.specs.States.{woken_process, write_of, written_if, source_at, with_node}
use Rattle.v_design.specs.Runs.{first_event, happened, named_event, or_event, work_of}
use Rattle.machine_laws.specs.SlotLoop.{first_lane}
use Rattle.copy_laws.specs.Beside.{AreFirst}
use Rattle.copy_laws.proofs.Parts.{first_place-alike, found-mapped, length-changed, length-mapped}
use Rattle.unseen_writes.specs.Unseen.{AreAlike, IsAlike, StepsLane}

-- Lists

is_any-length : {A : Type 0} (xs ys : List A) → length xs ≡ length ys → is_any xs ≡ is_any ys
is_any-length [] [] same = refl
is_any-length [] (y ∷ ys) same = absurd (omega (arith, same))
is_any-length (x ∷ xs) [] same = absurd (omega (arith, same))
is_any-length (x ∷ xs) (y ∷ ys) same = refl

-- one place changed in both lists
changed-both : {A : Type 0} (default : A) (P : ℕ → A → A → Type 0) (xs ys : List A) (place : ℕ) (h k : A → A) → length ys ≡ length xs →
    ((q : ℕ) → P q (found_or default (slice_get xs q)) (found_or default (slice_get ys q))) → P place (h (found_or default (slice_get xs place))) (k (found_or default (slice_get ys place))) →
    (q : ℕ) → P q (found_or default (slice_get (change_at xs place h) q)) (found_or default (slice_get (change_at ys place k) q))
changed-both default P [] [] place h k same each one q = each q
changed-both default P [] (y ∷ ys) place h k same each one q = absurd (omega (arith, same))
changed-both default P (x ∷ xs) [] place h k same each one q = absurd (omega (arith, same))
changed-both default P (x ∷ xs) (y ∷ ys) zero h k same each one zero = one
changed-both default P (x ∷ xs) (y ∷ ys) zero h k same each one (suc q) = each (suc q)
changed-both default P (x ∷ xs) (y ∷ ys) (suc place) h k same each one zero = each 0
changed-both default P (x ∷ xs) (y ∷ ys) (suc place) h k same each one (suc q) =
    changed-both default (λ n. P (suc n)) xs ys place h k (omega (arith, same)) (λ n. each (suc n)) one q

-- Processes

woken-alike : (same : Bool) (object : ℕ) (old other_old new : LogicValue) (x y : ProcessState) → other_old ≡ old → IsAlike same x y →
    IsAlike same (woken_process object old new x) (woken_process object other_old new y)
woken-alike same object old other_old new x y is alike = record {
  activity = λ i. woken object (is i) new (alike.activity i);
  lane = alike.lane;
  kept = λ e. λ i. woken_process object (is i) new (alike.kept e i);
}

pub step-same : (machine : Machine) (one other : State) (process : ℕ) (activity : Activity) → other.time ≡ one.time → activity_step machine other process activity ≡ activity_step machine one process activity
step-same machine one other process (Ready tasks operands) time = ap (λ t. process_step (source_at machine process) t tasks operands) time
step-same machine one other process (Waiting place entries tasks) time = refl
step-same machine one other process (Asleep until tasks) time = refl
step-same machine one other process (Postponed tasks) time = refl
step-same machine one other process Done time = refl

lane-length : (xs ys : List ValueUpdate) → length ys ≡ length xs → length (rest_of ys) ≡ length (rest_of xs)
lane-length [] [] same = refl
lane-length [] (y ∷ ys) same = absurd (omega (arith, same))
lane-length (x ∷ xs) [] same = absurd (omega (arith, same))
lane-length (x ∷ xs) (y ∷ ys) same = omega (arith, same)

-- States

module _ (machine : Machine) (parts : ℕ → Bool) where
  -- an object gets a value
  put-alike : (one other : State) (object : ℕ) (new other_new : LogicValue) → other_new ≡ new → AreAlike parts one other →
      AreAlike parts (with_value machine object new one) (with_value machine object other_new other)
  put-alike one other object new other_new is alike = record {
    time = alike.time;
    values = λ i. change_at (alike.values i) object (λ old. is i);
    nodes = λ i. (with_value machine object (is i) (record one { values = alike.values i; nodes = alike.nodes i })).nodes;
    count = length-mapped (woken_process object (value_at other.values object) other_new) other.processes ∙ alike.count
        ∙ sym (length-mapped (woken_process object (value_at one.values object) new) one.processes);
    each = λ process.
        subst (λ x. IsAlike (parts process) x (process_at (with_value machine object other_new other) process))
        (sym (found-mapped (woken_process object (value_at one.values object) new) idle_process one.processes process refl))
        (subst (λ y. IsAlike (parts process) (woken_process object (value_at one.values object) new (process_at one process)) y)
        (sym (found-mapped (woken_process object (value_at other.values object) other_new) idle_process other.processes process refl))
        (subst (λ v. IsAlike (parts process) (woken_process object (value_at one.values object) new (process_at one process)) (woken_process object (value_at other.values object) v (process_at other process)))
        (sym is)
        (woken-alike (parts process) object (value_at one.values object) (value_at other.values object) new (process_at one process) (process_at other process)
        (ap (λ l. value_at l object) alike.values) (alike.each process))));
  }

  -- an update is written, if there is one
  written-alike : (update : Option ValueUpdate) (one other : State) → AreAlike parts one other → AreAlike parts (written_if machine update one) (written_if machine update other)
  written-alike None one other alike = alike
  written-alike (Some update) one other alike =
      put-alike one other update.object (value_written machine one update) (value_written machine other update)
      (λ i. value_written machine (record one { values = alike.values i }) update) alike

  -- a process changes
  process-alike : (number : ℕ) (h k : ProcessState → ProcessState) (one other : State) → AreAlike parts one other →
      IsAlike (parts number) (h (process_at one number)) (k (process_at other number)) → AreAlike parts (with_process number h one) (with_process number k other)
  process-alike number h k one other alike changed = record {
    time = alike.time;
    values = alike.values;
    nodes = alike.nodes;
    count = length-changed other.processes number k ∙ alike.count ∙ sym (length-changed one.processes number h);
    each = changed-both idle_process (λ q. IsAlike (parts q)) one.processes other.processes number h k alike.count alike.each changed;
  }

  -- several objects get values
  values-alike : (objects : List ℕ) (values : List LogicValue) (one other : State) → AreAlike parts one other →
      AreAlike parts (with_values machine objects values one) (with_values machine objects values other)
  values-alike [] values one other alike = alike
  values-alike (object ∷ objects) [] one other alike = alike
  values-alike (object ∷ objects) (value ∷ values) one other alike =
      values-alike objects values (with_value machine object value one) (with_value machine object value other) (put-alike one other object value value refl alike)

  -- a node changes
  node-alike : (number : ℕ) (h k : NodeState → NodeState) (one other : State) → k ≡ h → AreAlike parts one other → AreAlike parts (with_node number h one) (with_node number k other)
  node-alike number h k one other is alike =
      record { time = alike.time; values = alike.values; nodes = λ i. change_at (alike.nodes i) number (is i); count = alike.count; each = alike.each }

  evaluated-alike : (number : ℕ) (node : Option FlatNode) (one other : State) → AreAlike parts one other → AreAlike parts (evaluated machine number node one) (evaluated machine number node other)
  evaluated-alike number None one other alike = alike
  evaluated-alike number (Some node) one other alike =
      node-alike number (λ old. record { marked = false; pending = Some (node_outputs machine number node one.values) })
      (λ old. record { marked = false; pending = Some (node_outputs machine number node other.values) }) one other
      (λ i. λ old. record { marked = false; pending = Some (node_outputs machine number node (alike.values i)) }) alike

  updated-alike : (number : ℕ) (node : Option FlatNode) (pending : Option (List LogicValue)) (one other : State) → AreAlike parts one other →
      AreAlike parts (nets_updated machine number node pending one) (nets_updated machine number node pending other)
  updated-alike number None pending one other alike = alike
  updated-alike number (Some node) None one other alike = alike
  updated-alike number (Some node) (Some values) one other alike =
      values-alike node.outputs values (with_node number (λ old. record old { pending = None }) one) (with_node number (λ old. record old { pending = None }) other)
      (node-alike number (λ old. record old { pending = None }) (λ old. record old { pending = None }) one other refl alike)

  -- Events

  stepped-alike : (process : ℕ) (step : ProcessStep) (one other : State) → AreAlike parts one other → AreAlike parts (stepped machine process step one) (stepped machine process step other)
  stepped-alike process step one other alike =
      let was = alike.each process in
      written-alike (write_of step.action) (with_process process (after_step one step) one) (with_process process (after_step other step) other)
      (process-alike process (after_step one step) (after_step other step) one other alike
      (record {
        activity = ap (λ values. next_activity values step.action step.next) alike.values;
        lane = was.lane;
        kept = λ e. λ i. after_step (record one { time = alike.time i; values = alike.values i }) step (was.kept e i);
      }))

  lane-alike : (process : ℕ) (lane : List ValueUpdate) (one other : State) → AreAlike parts one other → AreAlike parts (lane_stepped machine process lane one) (lane_stepped machine process lane other)
  lane-alike process lane one other alike =
      let was = alike.each process in
      written-alike (first_update lane) (with_process process after_lane_step one) (with_process process after_lane_step other)
      (process-alike process after_lane_step after_lane_step one other alike
      (record { activity = was.activity; lane = lane-length (process_at one process).lane (process_at other process).lane was.lane; kept = λ e. ap after_lane_step (was.kept e) }))

  pub goes : (one other : State) (event : Event) → AreAlike parts one other → StepsLane parts event → AreAlike parts (after machine one event) (after machine other event)
  goes one other (Step process) alike may =
      subst (λ step. AreAlike parts (stepped machine process (step_of machine one process) one) (stepped machine process step other))
      (sym (ap (activity_step machine other process) (alike.each process).activity ∙ step-same machine one other process (process_at one process).activity alike.time))
      (stepped-alike process (step_of machine one process) one other alike)
  goes one other (LaneStep process) alike may =
      subst (λ lane. AreAlike parts (lane_stepped machine process (process_at one process).lane one) (lane_stepped machine process lane other)) (sym (ap (λ (p : ProcessState). p.lane) ((alike.each process).kept may)))
      (lane-alike process (process_at one process).lane one other alike)
  goes one other (Evaluation node) alike may = evaluated-alike node (slice_get machine.design.nodes node) one other alike
  goes one other (NetUpdate node) alike may =
      subst (λ pending. AreAlike parts (nets_updated machine node (slice_get machine.design.nodes node) (node_at one node).pending one)
      (nets_updated machine node (slice_get machine.design.nodes node) pending other))
      (sym (ap (λ (nodes : List NodeState). (found_or {A = NodeState} idle_node (slice_get nodes node)).pending) alike.nodes))
      (updated-alike node (slice_get machine.design.nodes node) (node_at one node).pending one other alike)

-- The first order

pub lanes-alike : (one other : State) → length other.processes ≡ length one.processes → ((process : ℕ) → length (process_at other process).lane ≡ length (process_at one process).lane) →
    first_lane other ≡ first_lane one
lanes-alike one other count each =
    first_place-alike idle_process (λ (process : ProcessState). is_any process.lane) other.processes one.processes count
    (λ n. is_any-length (process_at other n).lane (process_at one n).lane (each n))

pub first : (parts : ℕ → Bool) (one other : State) → AreAlike parts one other → first_event other ≡ first_event one
first parts one other alike =
    let lanes : first_lane other ≡ first_lane one = lanes-alike one other alike.count (λ n. (alike.each n).lane) in
    let ready : first_place (λ (process : ProcessState). is_ready process.activity) other.processes ≡ first_place (λ (process : ProcessState). is_ready process.activity) one.processes =
    first_place-alike idle_process (λ (process : ProcessState). is_ready process.activity) other.processes one.processes alike.count
    (λ n. ap is_ready (alike.each n).activity) in
    λ i. or_event (work_of 0 (alike.nodes i)) (or_event (named_event LaneStep (lanes i)) (named_event Step (ready i)))

pub all-go : (machine : Machine) (parts : ℕ → Bool) (one other : State) (events : List Event) → AreAlike parts one other → AllHold (StepsLane parts) events → AreFirst machine other events →
    AreFirst machine one events × AreAlike parts (happened machine one events) (happened machine other events)
all-go machine parts one other [] alike may are = (tt, alike)
all-go machine parts one other (event ∷ events) alike may are =
    let next = goes machine parts one other event alike may.0 in
    let rest = all-go machine parts (after machine one event) (after machine other event) events next may.1 are.1 in
    ((sym (first parts one other alike) ∙ are.0, rest.0), rest.1)

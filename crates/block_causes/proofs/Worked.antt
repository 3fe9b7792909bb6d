-- What an event leaves as it is: a node without work whose inputs stay, and a process that isn't ready and whose wait doesn't end.
use Rattle.std.proofs.Common.{◌≡◌, ℕ, List, [], ◌∷◌, map, length, Bool, true, false, not, ◌&&◌, ◌||◌, refl, sym, ap, subst, ◌∙◌}
use Rattle.std.specs.Prelude.{◌≢◌, Option, Some, None, slice_get, nat_eq, is_some}
use Rattle.std.proofs.lemmas.Bool.{eqb-true}
use Rattle.vf_base.specs.Lists.{has}
use Rattle.four_value.specs.Values.{LogicValue, same_value}
use Rattle.v_design.specs.Trees.{Entry}
use Rattle.v_design.specs.Designs.{FlatNode, Machine}
use Rattle.v_design.specs.Assignments.{ValueUpdate, value_at, node_outputs, object_width}
use Rattle.v_design.specs.Processes.{Activity, Ready, Waiting, Asleep, Postponed, Done}
use Rattle.v_design.specs.States.{State, Event, Step, LaneStep, Evaluation, NetUpdate, after, possible, process_at}
use Rattle.v_design.specs.States.{node_at, is_ready, has_work, value_written, with_value, with_values}
use Rattle.v_design.specs.States.{with_node, with_process, written_if, write_of, first_update, after_step, after_lane_step, step_of, evaluated, nets_updated}
use Rattle.v_design.specs.Accesses.{is_waiting}
use Rattle.v_design.specs.PhaseLogs.{changes_one}
use Rattle.v_design.specs.WellFormed.{KeepsRules}
use Rattle.order_laws.proofs.PathLaws.{true-false, or-neither, or-second, has-self}
use Rattle.order_laws.proofs.NetStates.{value-other, values-other, node-untouched, node-other}
use Rattle.order_laws.proofs.SettledNets.{Fit, Follows, Everywhere, Distinct, distinct, first_or, rest_list, put-width}
use Rattle.order_laws.proofs.Rules.{node_rules}
use Rattle.order_laws.proofs.Woken.{woken_by, put-new, length-written, woken_after}

-- Inputs that stay

unchanged-input : (before next : State) (objects : List ℕ) (x : ℕ) → changes_one before next objects ≡ false → has objects x ≡ true →
    same_value (value_at before.values x) (value_at next.values x) ≡ true
unchanged-input before next [] x e h = cc
unchanged-input before next (object ∷ objects) x e h = go (nat_eq object x) refl h (λ i. unchanged-input before next objects x parts.1 i)
  where
    parts : (not (same_value (value_at before.values object) (value_at next.values object)) ≡ false) × (changes_one before next objects ≡ false)
    parts = or-neither (not (same_value (value_at before.values object) (value_at next.values object))) (changes_one before next objects) e

    not-false : (b : Bool) → not b ≡ false → b ≡ true
    not-false true f = refl
    not-false false f = cc

    go : (b : Bool) → nat_eq object x ≡ b → (b || has objects x) ≡ true →
        (has objects x ≡ true → same_value (value_at before.values x) (value_at next.values x) ≡ true) → same_value (value_at before.values x) (value_at next.values x) ≡ true
    go true same i rest =
        subst (λ y. same_value (value_at before.values y) (value_at next.values y) ≡ true) (eqb-true object x same)
        (not-false (same_value (value_at before.values object) (value_at next.values object)) parts.0)
    go false other i rest = rest i

unmarked : (same reads : Bool) → (reads ≡ true → same ≡ true) → (not same && reads) ≡ false
unmarked true reads h = refl
unmarked false true h = sym (h refl)
unmarked false false h = refl

-- Nodes

-- a write whose object is no input of a node, or stays as it was, leaves the node
node-written : (machine : Machine) (write : Option ValueUpdate) (before state : State) (number : ℕ) (node : FlatNode) → before.values ≡ state.values →
    slice_get machine.design.nodes number ≡ Some node → changes_one before (written_if machine write state) node.inputs ≡ false →
    node_at (written_if machine write state) number ≡ node_at state number
node-written machine None before state number node same e stays = refl
node-written machine (Some u) before state number node same e stays =
    node-untouched machine u.object (value_written machine state u) state number node e
    (unmarked (same_value (value_at state.values u.object) (value_written machine state u)) (has node.inputs u.object)
    (λ reads.
    (λ i. same_value (value_at (sym same i) u.object) (sym (put-new state.values u.object (value_written machine state u) (length-written machine state u)) i))
    ∙ unchanged-input before (with_value machine u.object (value_written machine state u) state) node.inputs u.object stays reads))

-- several writes do
node-values : (machine : Machine) (objects : List ℕ) (values : List LogicValue) (state : State) (number : ℕ) (node : FlatNode) → slice_get machine.design.nodes number ≡ Some node →
    Distinct objects → Fit machine state.values → map (λ (v : LogicValue). length v) values ≡ map (object_width machine) objects →
    ((x : ℕ) → has objects x ≡ true → has node.inputs x ≡ true → same_value (value_at state.values x) (value_at (with_values machine objects values state).values x) ≡ true) →
    node_at (with_values machine objects values state) number ≡ node_at state number
node-values machine [] values state number node e d f w h = refl
node-values machine (object ∷ objects) [] state number node e d f w h = refl
node-values machine (object ∷ objects) (value ∷ values) state number node e d f w h =
    node-values machine objects values (with_value machine object value state) number node e d.1 (λ x. put-width state.values object value long x ∙ f x) (ap rest_list w)
    (λ x i reads.
    subst (λ v. same_value v (value_at (with_values machine objects values (with_value machine object value state)).values x) ≡ true)
    (sym (value-other machine object value state x (λ same. true-false (has objects x) i (subst (λ y. has objects y ≡ false) same d.0))))
    (h x (or-second (nat_eq object x) (has objects x) i) reads))
    ∙ node-untouched machine object value state number node e
    (unmarked (same_value (value_at state.values object) value) (has node.inputs object)
    (λ reads.
    subst (λ v. same_value (value_at state.values object) v ≡ true)
    (values-other machine objects values (with_value machine object value state) object d.0 ∙ put-new state.values object value long) (h object (has-self object objects) reads)))
  where
    long : length value ≡ length (value_at state.values object)
    long = ap (first_or 0) w ∙ sym (f object)

-- a node without work gets none by an event that leaves its inputs
pub node_rests : (machine : Machine) (state : State) (event : Event) (number : ℕ) (node : FlatNode) → KeepsRules machine.design → Follows machine Everywhere state →
    possible state event ≡ true → slice_get machine.design.nodes number ≡ Some node → changes_one state (after machine state event) node.inputs ≡ false →
    has_work (node_at state number) ≡ false → has_work (node_at (after machine state event) number) ≡ false
node_rests machine state (Step process) number node rules f p e stays idle =
    ap has_work
    (node-written machine (write_of (step_of machine state process).action) state (with_process process (after_step state (step_of machine state process)) state) number node refl e stays)
    ∙ idle
node_rests machine state (LaneStep process) number node rules f p e stays idle =
    ap has_work (node-written machine (first_update (process_at state process).lane) state (with_process process after_lane_step state) number node refl e stays) ∙ idle
node_rests machine state (Evaluation other) number node rules f p e stays idle = go (slice_get machine.design.nodes other)
  where
    apart : other ≢ number
    apart same = true-false (has_work (node_at state number)) (subst (λ n. has_work (node_at state n) ≡ true) same (ap (λ b. b || is_some (node_at state other).pending) p)) idle

    go : (found : Option FlatNode) → has_work (node_at (evaluated machine other found state) number) ≡ false
    go None = idle
    go (Some worked) =
        ap has_work (node-other state number other (λ old. record { marked = false; pending = Some (node_outputs machine other worked state.values) }) apart) ∙ idle
node_rests machine state (NetUpdate other) number node rules f p e stays idle =
    go (slice_get machine.design.nodes other) (node_at state other).pending refl refl stays
  where
    apart : other ≢ number
    apart same =
        true-false (has_work (node_at state number))
        (subst (λ n. has_work (node_at state n) ≡ true) same (or-second (node_at state other).marked (is_some (node_at state other).pending) p)) idle

    go : (found : Option FlatNode) (pending : Option (List LogicValue)) → slice_get machine.design.nodes other ≡ found → (node_at state other).pending ≡ pending →
        changes_one state (nets_updated machine other found pending state) node.inputs ≡ false → has_work (node_at (nets_updated machine other found pending state) number) ≡ false
    go None pending g h stays = idle
    go (Some worked) None g h stays = idle
    go (Some worked) (Some values) g h stays =
        ap has_work
        (node-values machine worked.outputs values (with_node other (λ old. record old { pending = None }) state) number node e
        (distinct [] worked.outputs (node_rules rules other worked g).outputs_once).0 f.fit (f.pending_widths other worked values g h)
        (λ x i reads. unchanged-input state (with_values machine worked.outputs values (with_node other (λ old. record old { pending = None }) state)) node.inputs x stays reads)
        ∙ node-other state number other (λ old. record old { pending = None }) apart)
        ∙ idle

-- Processes

woken-waited : (test : Entry → Bool) (act : Activity) → is_ready act ≡ false → is_ready (woken_by test act) ≡ true → is_waiting act ≡ true
woken-waited test (Ready tasks operands) n r = cc
woken-waited test (Waiting place entries tasks) n r = refl
woken-waited test (Asleep time tasks) n r = cc
woken-waited test (Postponed tasks) n r = cc
woken-waited test Done n r = cc

-- a process that an event makes ready waited before
pub process_waited : (machine : Machine) (state : State) (event : Event) (process : ℕ) → KeepsRules machine.design → Follows machine Everywhere state → possible state event ≡ true →
    is_ready (process_at state process).activity ≡ false → is_ready (process_at (after machine state event) process).activity ≡ true → is_waiting (process_at state process).activity ≡ true
process_waited machine state event process rules f p n r =
    woken-waited _ (process_at state process).activity n
    (ap is_ready
    (sym
    (woken_after machine state event process rules f
    (λ same. true-false (is_ready (process_at state process).activity) (subst (λ ev. possible state ev ≡ true) (sym same) p) n)))
    ∙ r)

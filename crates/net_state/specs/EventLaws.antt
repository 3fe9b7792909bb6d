-- What the work on a node does to the processes, and what it tells of itself (IEEE 1364-2001, clause 5).
use Rattle.std.proofs.Common.{◌≡◌, ℕ, suc, ◌<◌, List, [], ◌∷◌, ◌++◌, map, length, Bool, true, false, not, ◌&&◌, ◌||◌, refl, sym, ap, ◌∙◌, ◌⊎◌, inl, inr, arith}
use Rattle.std.specs.Prelude.{Some, slice_get, nat_eq, filter}
use Rattle.std.proofs.lemmas.Bool.{cases_Bool, cases_eq, eq-eqb, ne_eqb}
use Rattle.four_value.specs.Values.{LogicValue, same_value}
use Rattle.four_value.specs.ValueLaws.{same_value-refl}
use Rattle.vf_base.specs.Lists.{has, joined, map_numbered, AllHold}
use Rattle.v_design.specs.Designs.{FlatNode, FlatDesign, Machine}
use Rattle.v_design.specs.Paths.{net_pieces}
use Rattle.v_design.specs.Assignments.{value_at, node_outputs}
use Rattle.v_design.specs.States.{State, Evaluation, NetUpdate, after, evaluated, with_value, with_values, with_node}
use Rattle.v_design.specs.Accesses.{accesses_of, net_accesses}
use Rattle.v_design.specs.WellFormed.{KeepsRules, IsNodeOf}
use Rattle.graph_order.specs.ListLaws.{AllHold-has}
use Rattle.node_eval.specs.ValuesOf.{AreValuesOf}
use Rattle.net_graph.specs.RuleLaws.{rules_of_node}
use Rattle.value_change.specs.Changes.{ObjectChange, woken_by, ended_by_changes, changes_between}
use Rattle.value_change.specs.ChangeLaws.{FitValues, write_of_change, net_changes, distinct-once, wakes-by-nets, accesses-of-nets, has-filter, values-elsewhere}
use Rattle.net_state.specs.Held.{node_marked, HaveWidths}
use Rattle.net_state.specs.HeldLaws.{worked}
use Rattle.net_state.specs.OutputLaws.{nets-there, outputs-wide}

fit-of : (design : FlatDesign) (held : List LogicValue) (outputs : List ℕ) (values : List LogicValue) → AreValuesOf design held → AllHold (λ o. o < length held) outputs →
    HaveWidths design outputs values → FitValues held outputs values
fit-of design held [] values are there have = tt
fit-of design held (o ∷ outputs) [] are there have = tt
fit-of design held (o ∷ outputs) (v ∷ values) are there have = (
  have.widths 0 (omega arith) ∙ sym (are.widths o there.0),
  fit-of design held outputs values are there.1 (record { count = omega (arith, have.count); widths = λ k low. have.widths (suc k) (omega (arith, low)) }),
)

time-stays : (machine : Machine) (objects : List ℕ) (values : List LogicValue) (state : State) → (with_values machine objects values state).time ≡ state.time
time-stays machine [] values state = refl
time-stays machine (object ∷ objects) [] state = refl
time-stays machine (object ∷ objects) (value ∷ values) state = time-stays machine objects values (with_value machine object value state)

-- a node is evaluated and its nets get the values: time stays
pub worked-time : (machine : Machine) (number : ℕ) (node : FlatNode) (state : State) → slice_get machine.design.nodes number ≡ Some node → number < length state.nodes →
    (after machine (after machine state (Evaluation number)) (NetUpdate number)).time ≡ state.time
worked-time machine number node state at low =
    ap (λ (s : State). s.time) (worked machine number node state at low)
    ∙ time-stays machine node.outputs (node_outputs machine number node state.values) (with_node number (λ old. node_marked false) state)

-- the processes are made ready by the changes of its nets
pub worked-processes : (machine : Machine) (number : ℕ) (node : FlatNode) (state : State) → KeepsRules machine.design → slice_get machine.design.nodes number ≡ Some node →
    number < length state.nodes →
    AreValuesOf machine.design state.values →
    (after machine (after machine state (Evaluation number)) (NetUpdate number)).processes
    ≡ map (woken_by (net_changes machine.design node.outputs state.values (after machine (after machine state (Evaluation number)) (NetUpdate number)).values)) state.processes
worked-processes machine number node state rules at low are =
    let own : IsNodeOf machine.design node = rules_of_node machine.design number node rules at in
    ap (λ (s : State). s.processes) (worked machine number node state at low)
    ∙ wakes-by-nets machine node.outputs (node_outputs machine number node state.values) (with_node number (λ old. node_marked false) state)
    (distinct-once node.outputs own.outputs_once) own.outputs_nets
    (fit-of machine.design state.values node.outputs (node_outputs machine number node state.values) are (nets-there machine.design node.outputs (length state.values) own.outputs_nets are.count)
    (outputs-wide machine number node state.values rules at are))
    ∙ ap (λ (s : State). map (woken_by (net_changes machine.design node.outputs state.values s.values)) state.processes) (sym (worked machine number node state at low))

-- the accesses of the update are the writes of the changes, and then the waits that they end
pub worked-accesses : (machine : Machine) (process line number : ℕ) (node : FlatNode) (state : State) → KeepsRules machine.design → slice_get machine.design.nodes number ≡ Some node →
    accesses_of machine process line (after machine state (Evaluation number)) (NetUpdate number)
    ≡ map (write_of_change process line) (net_changes machine.design node.outputs state.values (after machine (after machine state (Evaluation number)) (NetUpdate number)).values)
    ++ joined (map_numbered (ended_by_changes (net_changes machine.design node.outputs state.values (after machine (after machine state (Evaluation number)) (NetUpdate number)).values)) 0
    state.processes)
worked-accesses machine process line number node state rules at =
    (λ i. net_accesses machine.design process line (at i) (evaluated machine number (at i) state) (after machine (after machine state (Evaluation number)) (NetUpdate number)))
    ∙ accesses-of-nets machine.design process line node (evaluated machine number (Some node) state) (after machine (after machine state (Evaluation number)) (NetUpdate number))
    (rules_of_node machine.design number node rules at).outputs_nets

-- What changed

or-nothing : (b c : Bool) → b ≡ false → (b || c) ≡ c
or-nothing true c e = cc
or-nothing false c e = refl

changed-one : (x o : ℕ) (b : Bool) (old new : LogicValue) (rest : List ObjectChange) → same_value old new ≡ b →
    has (map (λ (change : ObjectChange). change.object) (elim b [ true ↦ rest | false ↦ record { object = x; old = old; new = new } ∷ rest ])) o
    ≡ ((nat_eq x o && not (same_value old new)) || has (map (λ (change : ObjectChange). change.object) rest) o)
changed-one x o true old new rest e = sym (ap (λ b. (nat_eq x o && not b) || has (map (λ (change : ObjectChange). change.object) rest) o) e
    ∙ or-nothing (nat_eq x o && false) (has (map (λ (change : ObjectChange). change.object) rest) o) (none (nat_eq x o)))
  where
    none : (b : Bool) → (b && false) ≡ false
    none true = refl
    none false = refl
changed-one x o false old new rest e = sym (ap (λ b. (nat_eq x o && not b) || has (map (λ (change : ObjectChange). change.object) rest) o) e
    ∙ ap (λ b. b || has (map (λ (change : ObjectChange). change.object) rest) o) (all (nat_eq x o)))
  where
    all : (b : Bool) → (b && true) ≡ b
    all true = refl
    all false = refl

-- of some objects just those change whose values differ
pub changed-between : (old new : List LogicValue) (xs : List ℕ) (o : ℕ) → has (map (λ (change : ObjectChange). change.object) (changes_between old new xs)) o ≡
    (has xs o && not (same_value (value_at old o) (value_at new o)))
changed-between old new [] o = refl
changed-between old new (x ∷ xs) o =
    changed-one x o (same_value (value_at old x) (value_at new x)) (value_at old x) (value_at new x) (changes_between old new xs) refl
    ∙ ap (λ b. (nat_eq x o && not (same_value (value_at old x) (value_at new x))) || b) (changed-between old new xs o)
    ∙ here (cases_eq x o)
  where
    either : (a b : Bool) → (a || (b && a)) ≡ a
    either true b = refl
    either false true = refl
    either false false = refl

    here : (x ≡ o) ⊎ (x ≡ o → ⊥) →
        ((nat_eq x o && not (same_value (value_at old x) (value_at new x))) || (has xs o && not (same_value (value_at old o) (value_at new o)))) ≡
        ((nat_eq x o || has xs o) && not (same_value (value_at old o) (value_at new o)))
    here (inl same) =
        ap (λ b. (b && not (same_value (value_at old x) (value_at new x))) || (has xs o && not (same_value (value_at old o) (value_at new o)))) (eq-eqb x o same)
        ∙ ap (λ y. not (same_value (value_at old y) (value_at new y)) || (has xs o && not (same_value (value_at old o) (value_at new o)))) same
        ∙ either (not (same_value (value_at old o) (value_at new o))) (has xs o)
        ∙ sym (ap (λ b. (b || has xs o) && not (same_value (value_at old o) (value_at new o))) (eq-eqb x o same))
    here (inr other) =
        ap (λ b. (b && not (same_value (value_at old x) (value_at new x))) || (has xs o && not (same_value (value_at old o) (value_at new o)))) (ne_eqb x o other)
        ∙ sym (ap (λ b. (b || has xs o) && not (same_value (value_at old o) (value_at new o))) (ne_eqb x o other))

-- the changes of a node's nets are all that its update changes
pub worked-changes : (machine : Machine) (number : ℕ) (node : FlatNode) (state : State) (o : ℕ) → KeepsRules machine.design → slice_get machine.design.nodes number ≡ Some node →
    number < length state.nodes →
    has (map (λ (change : ObjectChange). change.object) (net_changes machine.design node.outputs state.values (after machine (after machine state (Evaluation number)) (NetUpdate number)).values)) o
    ≡ not (same_value (value_at state.values o) (value_at (after machine (after machine state (Evaluation number)) (NetUpdate number)).values o))
worked-changes machine number node state o rules at low =
    changed-between state.values (after machine (after machine state (Evaluation number)) (NetUpdate number)).values (filter (has node.outputs) (net_pieces machine.design)) o
    ∙ ap (λ b. b && not (same_value (value_at state.values o) (value_at (after machine (after machine state (Evaluation number)) (NetUpdate number)).values o)))
    (has-filter (has node.outputs) (net_pieces machine.design) o)
    ∙ go (cases_Bool (has node.outputs o))
  where
    and-none : (a b : Bool) → ((a && false) && b) ≡ false
    and-none true b = refl
    and-none false b = refl

    go : (has node.outputs o ≡ true) ⊎ (has node.outputs o ≡ false) →
        ((has (net_pieces machine.design) o && has node.outputs o) && not (same_value (value_at state.values o)
        (value_at (after machine (after machine state (Evaluation number)) (NetUpdate number)).values o)))
        ≡ not (same_value (value_at state.values o) (value_at (after machine (after machine state (Evaluation number)) (NetUpdate number)).values o))
    go (inl here) =
        (λ i. (nets (rules_of_node machine.design number node rules at).outputs_nets here i && here i)
        && not (same_value (value_at state.values o) (value_at (after machine (after machine state (Evaluation number)) (NetUpdate number)).values o)))
      where
        nets : AllHold (λ object. has (net_pieces machine.design) object ≡ true) node.outputs → has node.outputs o ≡ true → has (net_pieces machine.design) o ≡ true
        nets hold e = AllHold-has (λ object. has (net_pieces machine.design) object ≡ true) node.outputs o hold e
    go (inr none) =
        ap (λ b. (has (net_pieces machine.design) o && b) && not (same_value (value_at state.values o)
        (value_at (after machine (after machine state (Evaluation number)) (NetUpdate number)).values o))) none
        ∙ and-none (has (net_pieces machine.design) o) (not (same_value (value_at state.values o) (value_at (after machine (after machine state (Evaluation number)) (NetUpdate number)).values o)))
        ∙ sym
        (ap (λ (s : State). not (same_value (value_at state.values o) (value_at s.values o))) (worked machine number node state at low)
        ∙ ap (λ v. not (same_value (value_at state.values o) v)) (values-elsewhere machine node.outputs (node_outputs machine number node state.values)
        (with_node number (λ old. node_marked false) state) o none)
        ∙ ap not (same_value-refl (value_at state.values o)))

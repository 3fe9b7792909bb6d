-- Laws on the values of objects and the marks of nodes (nothing of the language).
use Rattle.std.proofs.Common.{◌≡◌, ℕ, zero, suc, ◌+◌, ◌<◌, List, [], ◌∷◌, ◌++◌, map, length, get_or, set, take, Bool, true, false, not, ◌&&◌, ◌||◌, refl, sym, ap, subst, ◌∙◌, inl, inr, arith}
use Rattle.std.specs.Prelude.{Option, Some, None, slice_get, MatchOption, IfSome}
use Rattle.vf_base.specs.declared.ids.NodeId.{NodeId}
use Rattle.vf_base.specs.Base.{node_number}
use Rattle.std.specs.Option.{option_map}
use Rattle.std.proofs.lemmas.Bool.{cases_eq, false≢true}
use Rattle.std.proofs.lemmas.List.{get_or-set_same, get_or-set_other, length-set, take_more, length-take-le}
use Rattle.four_value.specs.Values.{LogicValue, same_value}
use Rattle.vf_base.specs.Lists.{has, zip_with, change_at}
use Rattle.v_design.specs.Designs.{FlatNode, FlatDesign, Machine, width_in}
use Rattle.v_design.specs.Assignments.{value_at, node_outputs, with_outputs}
use Rattle.v_design.specs.States.{NodeState, State, Evaluation, NetUpdate, found_or, idle_node, node_at, marked_by, with_value, with_values, with_node, after, evaluated, nets_updated}
use Rattle.v_design.specs.Runs.{work_of, named_event, least_work}
use Rattle.graph_order.specs.ListLaws.{or-false}
use Rattle.node_eval.specs.ValuesOf.{AreValuesOf}
use Rattle.net_graph.specs.Tables.{reads}
use Rattle.net_settle.specs.Marked.{marked_at, MarksReaders, NoneMarked, IsLeastMarked}
use Rattle.net_state.specs.Held.{node_marked, marks_with}

-- Marks

readers-marked : (object : ℕ) (nodes : List FlatNode) (before later : List Bool) → length before ≡ length nodes → length later ≡ length nodes →
    ((k : ℕ) → marked_at later k ≡ (marked_at before k || reads object (slice_get nodes k))) → later ≡ zip_with (λ (node : FlatNode) marked. marked || (true && has node.inputs object)) nodes before
readers-marked object [] before [] one other h = refl
readers-marked object [] before (m ∷ later) one other h = absurd (omega (arith, other))
readers-marked object (node ∷ nodes) [] later one other h = absurd (omega (arith, one))
readers-marked object (node ∷ nodes) (b ∷ before) [] one other h = absurd (omega (arith, other))
readers-marked object (node ∷ nodes) (b ∷ before) (m ∷ later) one other h =
    λ i. h 0 i ∷ readers-marked object nodes before later (omega (arith, one)) (omega (arith, other)) (λ k. h (suc k)) i

-- where an object changed its readers are marked
pub marks-changed : (design : FlatDesign) (object : ℕ) (before later : List Bool) → length before ≡ length design.nodes → length later ≡ length design.nodes → MarksReaders design object before later →
    later ≡ marks_with design object true before
marks-changed design object before later one other h = readers-marked object design.nodes before later one other h

none-marked-more : (object : ℕ) (nodes : List FlatNode) (marks : List Bool) → length marks ≡ length nodes →
    marks ≡ zip_with (λ (node : FlatNode) marked. marked || (false && has node.inputs object)) nodes marks
none-marked-more object [] [] e = refl
none-marked-more object [] (m ∷ marks) e = absurd (omega (arith, e))
none-marked-more object (node ∷ nodes) [] e = absurd (omega (arith, e))
none-marked-more object (node ∷ nodes) (m ∷ marks) e = λ i. sym (or-false m) i ∷ none-marked-more object nodes marks (omega (arith, e)) i

-- and else none
pub marks-unchanged : (design : FlatDesign) (object : ℕ) (marks : List Bool) → length marks ≡ length design.nodes → marks ≡ marks_with design object false marks
marks-unchanged design object marks e = none-marked-more object design.nodes marks e

nodes-with : (object : ℕ) (changed : Bool) (nodes : List FlatNode) (marks : List Bool) →
    map node_marked (zip_with (λ (node : FlatNode) marked. marked || (changed && has node.inputs object)) nodes marks) ≡ zip_with (marked_by object changed) nodes (map node_marked marks)
nodes-with object changed [] marks = refl
nodes-with object changed (node ∷ nodes) [] = refl
nodes-with object changed (node ∷ nodes) (m ∷ marks) = ap (λ rest. node_marked (m || (changed && has node.inputs object)) ∷ rest) (nodes-with object changed nodes marks)

-- Values

pub set-change : (values : List LogicValue) (object : ℕ) (new : LogicValue) → set values object new ≡ change_at values object (λ old. new)
set-change [] object new = refl
set-change (v ∷ values) zero new = refl
set-change (v ∷ values) (suc object) new = ap (λ rest. v ∷ rest) (set-change values object new)

-- one value of its width in another's stead
pub values-set : (design : FlatDesign) (values : List LogicValue) (object : ℕ) (new : LogicValue) → AreValuesOf design values → length new ≡ width_in design object →
    AreValuesOf design (set values object new)
values-set design values object new are width = record {
  count = length-set values object new ∙ are.count;
  widths = λ x low.
      elim (cases_eq x object) [
        | inl same ↦
            subst (λ o. length (value_at (set values object new) o) ≡ width_in design o) (sym same)
            (ap length (get_or-set_same values object new [] (omega (arith, low, same, length-set values object new))) ∙ width)
        | inr other ↦ ap length (get_or-set_other values object x new [] other) ∙ are.widths x (omega (arith, low, length-set values object new))
      ];
}

-- the values and the nodes after a value is put in code are those of the state after it is put
pub put-values : (old new : List LogicValue) (object : ℕ) (value : LogicValue) (machine : Machine) (state : State) → new ≡ set old object value → old ≡ state.values →
    new ≡ (with_value machine object value state).values
put-values old new object value machine state is same = is ∙ set-change old object value ∙ ap (λ vs. change_at vs object (λ old. value)) same

pub put-nodes : (design : FlatDesign) (values : List LogicValue) (old new : List Bool) (object : ℕ) (value : LogicValue) (machine : Machine) (state : State) → machine.design ≡ design →
    new ≡ marks_with design object (not (same_value (value_at values object) value)) old → values ≡ state.values → map node_marked old ≡ state.nodes →
    map node_marked new ≡ (with_value machine object value state).nodes
put-nodes design values old new object value machine state is marks same nodes =
    ap (map node_marked) marks
    ∙ nodes-with object (not (same_value (value_at values object) value)) design.nodes old
    ∙ (λ i. zip_with (marked_by object (not (same_value (value_at (same i) object) value))) ((sym is i).nodes) (nodes i))

-- one object more
pub with_values-push : (machine : Machine) (objects : List ℕ) (values : List LogicValue) (object : ℕ) (value : LogicValue) (state : State) → length values ≡ length objects →
    with_values machine (objects ++ object ∷ []) (values ++ value ∷ []) state ≡ with_value machine object value (with_values machine objects values state)
with_values-push machine [] [] object value state e = refl
with_values-push machine [] (v ∷ values) object value state e = absurd (omega (arith, e))
with_values-push machine (o ∷ objects) [] object value state e = absurd (omega (arith, e))
with_values-push machine (o ∷ objects) (v ∷ values) object value state e = with_values-push machine objects values object value (with_value machine o v state) (omega (arith, e))

pub with_outputs-push : (objects : List ℕ) (outputs : List LogicValue) (object : ℕ) (value : LogicValue) (values : List LogicValue) → length outputs ≡ length objects →
    with_outputs (objects ++ object ∷ []) (outputs ++ value ∷ []) values ≡ change_at (with_outputs objects outputs values) object (λ old. value)
with_outputs-push [] [] object value values e = refl
with_outputs-push [] (v ∷ outputs) object value values e = absurd (omega (arith, e))
with_outputs-push (o ∷ objects) [] object value values e = absurd (omega (arith, e))
with_outputs-push (o ∷ objects) (v ∷ outputs) object value values e = with_outputs-push objects outputs object value (change_at values o (λ old. v)) (omega (arith, e))

-- the same of the first so many of two lists
pub with_values-more : (machine : Machine) (objects : List ℕ) (values : List LogicValue) (i : ℕ) (state : State) → length values ≡ length objects → i < length objects →
    with_values machine (take (i + 1) objects) (take (i + 1) values) state ≡ with_value machine (get_or objects i 0) (get_or values i []) (with_values machine (take i objects) (take i values) state)
with_values-more machine objects values i state e low =
    (λ j. with_values machine (take_more objects i 0 low j) (take_more values i [] (omega (arith, low, e)) j) state)
    ∙ with_values-push machine (take i objects) (take i values) (get_or objects i 0) (get_or values i []) state
    (length-take-le i values (omega (arith, low, e)) ∙ sym (length-take-le i objects (omega (arith, low))))

pub with_outputs-more : (objects : List ℕ) (outputs : List LogicValue) (i : ℕ) (values : List LogicValue) → length outputs ≡ length objects → i < length objects →
    with_outputs (take (i + 1) objects) (take (i + 1) outputs) values ≡ set (with_outputs (take i objects) (take i outputs) values) (get_or objects i 0) (get_or outputs i [])
with_outputs-more objects outputs i values e low =
    (λ j. with_outputs (take_more objects i 0 low j) (take_more outputs i [] (omega (arith, low, e)) j) values)
    ∙ with_outputs-push (take i objects) (take i outputs) (get_or objects i 0) (get_or outputs i []) values
    (length-take-le i outputs (omega (arith, low, e)) ∙ sym (length-take-le i objects (omega (arith, low))))
    ∙ sym (set-change (with_outputs (take i objects) (take i outputs) values) (get_or objects i 0) (get_or outputs i []))

-- Events of nodes

change-twice : {A : Type 0} (xs : List A) (place : ℕ) (f g h : A → A) → ((x : A) → g (f x) ≡ h x) → change_at (change_at xs place f) place g ≡ change_at xs place h
change-twice [] place f g h e = refl
change-twice (x ∷ xs) zero f g h e = ap (λ y. y ∷ xs) (e x)
change-twice (x ∷ xs) (suc place) f g h e = ap (λ rest. x ∷ rest) (change-twice xs place f g h e)

node-changed : (xs : List NodeState) (place : ℕ) (state : NodeState) → place < length xs → found_or idle_node (slice_get (change_at xs place (λ old. state)) place) ≡ state
node-changed [] place state low = absurd (omega (arith, low))
node-changed (x ∷ xs) zero state low = refl
node-changed (x ∷ xs) (suc place) state low = node-changed xs place state (omega (arith, low))

-- a node that is evaluated, and then gives its nets the values, is unmarked and puts the values of its function
pub worked : (machine : Machine) (number : ℕ) (node : FlatNode) (state : State) → slice_get machine.design.nodes number ≡ Some node → number < length state.nodes →
    after machine (after machine state (Evaluation number)) (NetUpdate number)
    ≡ with_values machine node.outputs (node_outputs machine number node state.values) (with_node number (λ old. node_marked false) state)
worked machine number node state at low =
    (λ i. nets_updated machine number (at i) (node_at (evaluated machine number (at i) state) number).pending (evaluated machine number (at i) state))
    ∙ (λ i. nets_updated machine number (Some node) (node-changed state.nodes number given low i).pending (evaluated machine number (Some node) state))
    ∙ (λ i. with_values machine node.outputs (node_outputs machine number node state.values)
    (record state { nodes = change-twice state.nodes number (λ old. given) (λ old. record old { pending = None }) (λ old. node_marked false) (λ x. refl) i }))
  where
    given : NodeState
    given = record { marked = false; pending = Some (node_outputs machine number node state.values) }

pub unmarked : (marks : List Bool) (number : ℕ) → map node_marked (set marks number false) ≡ change_at (map node_marked marks) number (λ old. node_marked false)
unmarked [] number = refl
unmarked (m ∷ marks) zero = refl
unmarked (m ∷ marks) (suc number) = ap (λ rest. node_marked m ∷ rest) (unmarked marks number)

-- The least node

pub least-none : (from : ℕ) (marks : List Bool) → NoneMarked marks → work_of from (map node_marked marks) ≡ None
least-none from [] h = refl
least-none from (m ∷ marks) h = ap (λ b. least_work from b false (work_of (from + 1) (map node_marked marks))) (h 0) ∙ least-none (from + 1) marks (λ k. h (suc k))

pub least-some : (from number : ℕ) (marks : List Bool) → IsLeastMarked number marks → work_of from (map node_marked marks) ≡ Some (Evaluation (from + number))
least-some from number [] h = absurd (false≢true h.is_marked)
least-some from zero (m ∷ marks) h =
    ap (λ b. least_work from b false (work_of (from + 1) (map node_marked marks))) h.is_marked ∙ ap (λ n. Some (Evaluation n)) (let e : from ≡ from + 0 = omega arith in e)
least-some from (suc number) (m ∷ marks) h =
    ap (λ b. least_work from b false (work_of (from + 1) (map node_marked marks))) (h.none_below 0 (omega arith))
    ∙ least-some (from + 1) number marks (record { is_marked = h.is_marked; none_below = λ k low. h.none_below (suc k) (omega (arith, low)) })
    ∙ ap (λ n. Some (Evaluation n)) (let e : from + 1 + number ≡ from + suc number = omega arith in e)

-- no node is marked at the start
pub none-at-start : {A : Type 0} (marks : List Bool) (nodes : List A) → length marks ≡ length nodes → NoneMarked marks → map node_marked marks ≡ map (λ node. node_marked false) nodes
none-at-start [] [] e h = refl
none-at-start [] (n ∷ nodes) e h = absurd (omega (arith, e))
none-at-start (m ∷ marks) [] e h = absurd (omega (arith, e))
none-at-start (m ∷ marks) (n ∷ nodes) e h = λ i. node_marked (h 0 i) ∷ none-at-start marks nodes (omega (arith, e)) (λ k. h (suc k)) i

-- a marked node is there
pub marked-within : (marks : List Bool) (number : ℕ) → marked_at marks number ≡ true → number < length (map node_marked marks)
marked-within [] number e = absurd (false≢true e)
marked-within (m ∷ marks) zero e = omega arith
marked-within (m ∷ marks) (suc number) e = let low : number < length (map node_marked marks) = marked-within marks number e in omega (arith, low)

-- the event of the least node with work
pub least-event : (result : Option NodeId) (marks : List Bool) → MatchOption result (NoneMarked marks) (λ node. IsLeastMarked (node_number node) marks) →
    work_of 0 (map node_marked marks) ≡ named_event Evaluation (option_map node_number result)
least-event None marks h = least-none 0 marks h
least-event (Some node) marks h = least-some 0 (node_number node) marks h ∙ ap (λ n. Some (Evaluation n)) (let e : 0 + node_number node ≡ node_number node = omega arith in e)

pub least-there : (result : Option NodeId) (marks : List Bool) → MatchOption result (NoneMarked marks) (λ node. IsLeastMarked (node_number node) marks) →
    IfSome result (λ node. node_number node < length (map node_marked marks))
least-there None marks h = tt
least-there (Some node) marks h = marked-within marks (node_number node) h.is_marked

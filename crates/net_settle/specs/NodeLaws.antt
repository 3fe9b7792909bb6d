-- What the rules of a design say for the evaluation of a node (IEEE 1364-2001, clause 6 for assignments, clause 7 for gates, clause 9 for blocks).
use Rattle.std.proofs.Common.{◌≡◌, ℕ, zero, suc, ◌+◌, ◌<◌, ◌≤◌, true, List, [], ◌∷◌, length, map, get_or, take, set, refl, ap, sym, ◌∙◌, subst, arith}
use Rattle.std.specs.Prelude.{Option, Some, slice_get}
use Rattle.std.specs.List.{All, AllZip}
use Rattle.std.proofs.lemmas.List.{length-map}
use Rattle.vf_base.specs.Base.{object_number}
use Rattle.vf_base.specs.declared.ids.ObjectId.{ObjectId}
use Rattle.four_value.specs.Values.{LogicValue}
use Rattle.four_value.specs.declared.operator.GateKind.{GateKind}
use Rattle.vf_base.specs.Lists.{AllHold, zip_with, has}
use Rattle.v_design.specs.Trees.{Expression, Expressions, Statement}
use Rattle.v_design.specs.Designs.{FlatDesign, FlatNode, FlatNodeKind, AssignNode, GateNode, BlockNode, Machine, width_in, forced_output}
use Rattle.v_design.specs.Assignments.{node_value, node_outputs}
use Rattle.v_design.specs.RulesHold.{rules_hold}
use Rattle.v_design.specs.PlainDesigns.{design_of}
use Rattle.v_design.specs.declared.plan.Design.{Design}
use Rattle.net_graph.specs.RuleLaws.{node_in, rules_of_node, outputs_are_objects}
use Rattle.v_design.specs.Expressions.{width_of}
use Rattle.v_design.specs.Reads.{named_in, named_in_parts, written_objects, named_by, named_by_node}
use Rattle.v_design.specs.Sized.{IsSized, levels_of, levels_of_parts}
use Rattle.v_design.specs.WellFormed.{KeepsRules, IsNodeOf, AreTerminals, IsSizedNode, levels_of_node, have_widths}
use Rattle.v_design.specs.CombinationalForm.{WritesOutputs}
use Rattle.v_design.specs.declared.plan.Node.{Node}
use Rattle.v_design.specs.Plain.{node_of, node_kind_of}
use Rattle.expr_eval.specs.Operands.{AreThere}
use Rattle.expr_eval.specs.WidthLaws.{AllHold-get_or}
use Rattle.node_eval.specs.ValuesOf.{AreValuesOf, named_there}
use Rattle.node_eval.specs.Overlaid.{StandOnce, once-distinct}
use Rattle.node_eval.specs.Running.{MayRun}

-- a continuous assignment may be evaluated over some values
pub record MayAssign (values : List LogicValue) (value : Expression) (places : List ℕ) (outputs : ℕ) : Type 0 where
  pub sized : IsSized value
  pub there : AreThere values (named_in value)
  pub levels : levels_of value ≤ 256
  pub alike : length places ≡ outputs

-- a gate may be evaluated over some values
pub record MayGate (values : List LogicValue) (terminals : Expressions) : Type 0 where
  pub sized : AreTerminals terminals
  pub there : AreThere values (named_in_parts terminals)
  pub levels : levels_of_parts terminals ≤ 256

zipped : (R : ℕ → ℕ → Type 0) (xs ys : List ℕ) → AllZip R xs ys → length ys ≡ length xs
zipped R [] [] h = refl
zipped R [] (y ∷ ys) h = absurd h
zipped R (x ∷ xs) [] h = absurd h
zipped R (x ∷ xs) (y ∷ ys) h = ap suc (zipped R xs ys h.1)

pub may-assign : (design : FlatDesign) (values : List LogicValue) (node : Node) (outputs : List ObjectId) (value : Expression) (places : List ℕ) → IsNodeOf design (node_of node) →
    AreValuesOf design values →
    (node_of node).kind ≡ AssignNode value places → node.outputs ≡ outputs → MayAssign values value places (length outputs)
may-assign design values node outputs value places rules are is same =
    let sized = subst (λ kind. IsSizedNode design kind (map object_number node.outputs)) is rules.sized in
    record {
      sized = sized.0;
      there = named_there design values (named_in value) are (subst (λ kind. have_widths design (named_by_node kind) ≡ true) is rules.names);
      levels = subst (λ kind. levels_of_node kind ≤ 256) is rules.levels;
      alike = zipped _ (map object_number node.outputs) places sized.1 ∙ length-map node.outputs object_number ∙ ap length same;
    }

pub may-gate : (design : FlatDesign) (values : List LogicValue) (node : Node) (kind : GateKind) (terminals : Expressions) → IsNodeOf design (node_of node) → AreValuesOf design values →
    (node_of node).kind ≡ GateNode kind terminals → MayGate values terminals
may-gate design values node kind terminals rules are is = record {
  sized = (subst (λ kind. IsSizedNode design kind (map object_number node.outputs)) is rules.sized).1;
  there = named_there design values (named_in_parts terminals) are (subst (λ kind. have_widths design (named_by_node kind) ≡ true) is rules.names);
  levels = subst (λ kind. levels_of_node kind ≤ 256) is rules.levels;
}

pub may-run : (design : FlatDesign) (values : List LogicValue) (node : Node) (outputs : List ObjectId) (statement : Statement) → IsNodeOf design (node_of node) → AreValuesOf design values →
    (node_of node).kind ≡ BlockNode statement → node.outputs ≡ outputs → MayRun values outputs statement
may-run design values node outputs statement rules are is same =
    let writes = subst (λ kind. WritesOutputs kind (map object_number node.outputs)) is rules.outputs in
    record {
      sized = subst (λ kind. IsSizedNode design kind (map object_number node.outputs)) is rules.sized;
      there = named_there design values (named_by statement) are (subst (λ kind. have_widths design (named_by_node kind) ≡ true) is rules.names);
      written = λ object e. subst (λ l. has (map object_number l) object ≡ true) same (sym (writes.0 object) ∙ e);
      levels = subst (λ kind. levels_of_node kind ≤ 256) is rules.levels;
    }

-- the outputs of a node stand once
pub outputs-once : (design : FlatDesign) (node : Node) (outputs : List ObjectId) → IsNodeOf design (node_of node) → node.outputs ≡ outputs → StandOnce (map object_number outputs)
outputs-once design node outputs rules same = subst (λ l. StandOnce (map object_number l)) same (once-distinct [] (map object_number node.outputs) rules.outputs_once)

-- of two outputs or more a single value goes to the first
pub zip-single : (f : ℕ → LogicValue → LogicValue) (output : ℕ) (outputs : List ℕ) (value : LogicValue) → zip_with f (output ∷ outputs) (value ∷ []) ≡ f output value ∷ []
zip-single f output [] value = refl
zip-single f output (other ∷ outputs) value = refl

-- the bit of a gate at its output
pub put-first : (f : ℕ → LogicValue → LogicValue) (outputs : List ObjectId) (held : List LogicValue) (value r : LogicValue) (d : ObjectId) → 0 < length outputs → length outputs ≤ length held →
    r ≡ f (object_number (get_or outputs 0 d)) value → take 1 (set held 0 r) ≡ zip_with f (map object_number outputs) (value ∷ [])
put-first f [] held value r d some room is = absurd (omega arith)
put-first f (output ∷ outputs) [] value r d some room is = absurd (omega arith)
put-first f (output ∷ outputs) (v ∷ held) value r d some room is = ap (λ x. x ∷ []) is ∙ sym (zip-single f (object_number output) (map object_number outputs) value)

-- a node of the code's list, as one of the design
pub at-list : (design : Design) (list : List Node) (k : ℕ) (node : Node) → list ≡ design.nodes → k < length (design_of design).nodes → node ≡ get_or list k node →
    slice_get (design_of design).nodes k ≡ Some (node_of node)
at-list design list k node same low is = node_in design.nodes list k node same (omega (arith, low, ap length same, length-map design.nodes node_of)) is

pub rules-at : (design : Design) (list : List Node) (k : ℕ) (node : Node) → list ≡ design.nodes → k < length (design_of design).nodes → node ≡ get_or list k node →
    IsNodeOf (design_of design) (node_of node)
rules-at design list k node same low is = rules_of_node (design_of design) k (node_of node) (rules_hold (design_of design) design.rules) (at-list design list k node same low is)

-- its outputs are objects
pub outputs-there : (design : Design) (k : ℕ) (node : Node) (outputs : List ObjectId) (count : ℕ) → slice_get (design_of design).nodes k ≡ Some (node_of node) → node.outputs ≡ outputs →
    count ≡ length (design_of design).objects →
    (i : ℕ) → i < length outputs → get_or (map object_number outputs) i 0 < count
outputs-there design k node outputs count at same enough i low =
    let there = subst (λ l. AllHold (λ o. o < length (design_of design).objects) (map object_number l)) same
    (outputs_are_objects (design_of design) k (node_of node) (rules_hold (design_of design) design.rules) at) in
    let here : get_or (map object_number outputs) i 0 < length (design_of design).objects =
    AllHold-get_or (λ o. o < length (design_of design).objects) (map object_number outputs) i 0 there (omega (arith, low, length-map outputs object_number)) in
    omega (arith, here, enough)

-- what is put for a node is its function
pub put-node : (machine : Machine) (k : ℕ) (node : Node) (flat : FlatNode) (kind : FlatNodeKind) (outputs : List ObjectId) (values put : List LogicValue) (found : Option FlatNode) →
    found ≡ Some (node_of node) → found ≡ Some flat →
    node_kind_of node.kind ≡ kind → node.outputs ≡ outputs →
    put ≡ zip_with (forced_output machine.fault k) (map object_number outputs) (node_value machine k kind (map object_number outputs) values) → put ≡ node_outputs machine k flat values
put-node machine k node flat kind outputs values put found own other is same was =
    let one : node_of node ≡ flat = cc in
    was
    ∙ ap (λ l. zip_with (forced_output machine.fault k) (map object_number l) (node_value machine k kind (map object_number l) values)) (sym same)
    ∙ ap (λ x. zip_with (forced_output machine.fault k) (map object_number node.outputs) (node_value machine k x (map object_number node.outputs) values)) (sym is)
    ∙ ap (λ f. node_outputs machine k f values) one

-- no node has more outputs than the most
pub few-outputs : (nodes : List Node) (most number : ℕ) (flat : FlatNode) → All (λ (node : Node). length node.outputs ≤ most) nodes → slice_get (map node_of nodes) number ≡ Some flat →
    length flat.outputs ≤ most
few-outputs [] most number flat few at = absurd (cc)
few-outputs (node ∷ nodes) most zero flat few at =
    let same : node_of node ≡ flat = cc in
    let own : length node.outputs ≤ most = few 0 node (omega arith) in
    subst (λ (f : FlatNode). length f.outputs ≤ most) same (omega (arith, own, length-map node.outputs object_number))
few-outputs (node ∷ nodes) most (suc number) flat few at = few-outputs nodes most number flat (λ k d low. few (suc k) d (omega arith)) at

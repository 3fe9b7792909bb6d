-- Laws on a node that is read from the code's list of nodes (nothing of the language).
use Rattle.std.proofs.Common.{◌≡◌, ℕ, ◌<◌, List, length, map, get_or, sym, subst}
use Rattle.std.specs.Prelude.{Option, Some, slice_get}
use Rattle.vf_base.specs.declared.ids.ObjectId.{ObjectId}
use Rattle.vf_base.specs.Base.{object_number}
use Rattle.four_value.specs.Values.{LogicValue}
use Rattle.v_design.specs.declared.plan.Design.{Design}
use Rattle.v_design.specs.declared.plan.Fault.{Fault}
use Rattle.v_design.specs.declared.plan.Node.{Node}
use Rattle.v_design.specs.Plain.{node_of}
use Rattle.v_design.specs.PlainDesigns.{design_of}
use Rattle.v_design.specs.Views.{machine_with}
use Rattle.v_design.specs.Designs.{FlatNode}
use Rattle.v_design.specs.Assignments.{node_outputs}
use Rattle.v_design.specs.RulesHold.{rules_hold}
use Rattle.node_eval.specs.ValuesOf.{AreValuesOf}
use Rattle.net_settle.specs.NodeLaws.{at-list, rules-at}
use Rattle.value_change.specs.ChangeLaws.{AreDistinct, distinct-once}
use Rattle.net_state.specs.Held.{AreNets, HaveWidths}
use Rattle.net_state.specs.OutputLaws.{outputs-wide}

-- one node stands at a place
pub same-node : (found : Option FlatNode) (one other : FlatNode) → found ≡ Some one → found ≡ Some other → one ≡ other
same-node found one other a b = cc

pub nets-of : (design : Design) (list : List Node) (k : ℕ) (node : Node) (outputs : List ObjectId) → list ≡ design.nodes → k < length (design_of design).nodes → node ≡ get_or list k node →
    outputs ≡ node.outputs →
    AreNets (design_of design) (map object_number outputs)
nets-of design list k node outputs same low is own = subst (λ l. AreNets (design_of design) (map object_number l)) (sym own) (rules-at design list k node same low is).outputs_nets

pub distinct-of : (design : Design) (list : List Node) (k : ℕ) (node : Node) (outputs : List ObjectId) → list ≡ design.nodes → k < length (design_of design).nodes → node ≡ get_or list k node →
    outputs ≡ node.outputs →
    AreDistinct (map object_number outputs)
distinct-of design list k node outputs same low is own =
    subst (λ l. AreDistinct (map object_number l)) (sym own) (distinct-once (map object_number node.outputs) (rules-at design list k node same low is).outputs_once)

pub wide-of : (design : Design) (fault : Option Fault) (list : List Node) (k : ℕ) (node : Node) (outputs : List ObjectId) (values put : List LogicValue) → list ≡ design.nodes →
    k < length (design_of design).nodes →
    node ≡ get_or list k node → outputs ≡ node.outputs → AreValuesOf (design_of design) values →
    ((flat : FlatNode) → slice_get (design_of design).nodes k ≡ Some flat → put ≡ node_outputs (machine_with design fault) k flat values) →
    HaveWidths (design_of design) (map object_number outputs) put
wide-of design fault list k node outputs values put same low is own are gives =
    let at : slice_get (design_of design).nodes k ≡ Some (node_of node) = at-list design list k node same low is in
    subst (λ l. HaveWidths (design_of design) (map object_number l) put) (sym own)
    (subst (λ vs. HaveWidths (design_of design) (map object_number node.outputs) vs) (sym (gives (node_of node) at))
    (outputs-wide (machine_with design fault) k (node_of node) values (rules_hold (design_of design) design.rules) at are))

use Rattle.std.proofs.Common.{◌≡◌, ◌<◌, ◌≤◌, length, map, ap, sym, subst, ◌∙◌, arith}
use Rattle.std.proofs.lemmas.List.{length-map}
use Rattle.vf_base.specs.Base.{object_number, node_number}
use Rattle.v_design.specs.Designs.{AssignNode, GateNode}
use Rattle.v_design.specs.Plain.{expression_of, expressions_of, statement_of, node_of, node_kind_of}
use Rattle.v_design.specs.PlainDesigns.{design_of}
use Rattle.v_design.specs.RulesHold.{rules_hold}
use Rattle.v_design.specs.Views.{machine_of}
use Rattle.net_graph.specs.RuleLaws.{outputs_below}
use Rattle.node_eval.specs.ValuesOf.{width_in-IsWidth}
use Rattle.net_settle.specs.NodeLaws.{MayAssign, MayGate, may-assign, may-gate, may-run, outputs-once, at-list, rules-at, outputs-there, put-node}
use Rattle.net_settle.proofs.node_work.evaluate.Goals as goal

pub put_assignment-requires-clause-there : goal.put_assignment-requires-clause-there
put_assignment-requires-clause-there g c =
    let design = c.args.view.now.design.now in
    let node = c.index-as_slice-node.result in
    let at = at-list design c.as_slice.result.now (node_number c.args.node) node c.as_slice.ensures c.requires.node c.index-as_slice-node.is in
    outputs_below (design_of design) (node_number c.args.node) (node_of node) c.as_slice-outputs.result.now (length (design_of design).objects) design.rules at
    (ap (map object_number) (sym c.as_slice-outputs.ensures)) (omega arith)

pub put_assignment-requires-clause-widths : goal.put_assignment-requires-clause-widths
put_assignment-requires-clause-widths g c object low =
    let design = c.args.view.now.design.now in
    width_in-IsWidth (design_of design) object (rules_hold (design_of design) design.rules) low

pub put_assignment-requires-clause-may : goal.put_assignment-requires-clause-may
put_assignment-requires-clause-may g c =
    let design = c.args.view.now.design.now in
    let node = c.index-as_slice-node.result in
    let rules = rules-at design c.as_slice.result.now (node_number c.args.node) node c.as_slice.ensures c.requires.node c.index-as_slice-node.is in
    subst (λ places. MayAssign (g.V.Values.values c.args.values.now) (expression_of c.in-Assign.value) places (length c.as_slice-outputs.result.now)) (sym c.as_slice-in-Assign.ensures)
    (may-assign (design_of design) (g.V.Values.values c.args.values.now) node c.as_slice-outputs.result.now (expression_of c.in-Assign.value) c.in-Assign.places rules c.requires.values
    (ap node_kind_of c.in-Assign.is) (sym c.as_slice-outputs.ensures))

pub put_assignment-requires-clause-room : goal.put_assignment-requires-clause-room
put_assignment-requires-clause-room g c =
    let design = c.args.view.now.design.now in
    let node = c.index-as_slice-node.result in
    let at = at-list design c.as_slice.result.now (node_number c.args.node) node c.as_slice.ensures c.requires.node c.index-as_slice-node.is in
    omega (arith, c.requires.made.outputs (node_number c.args.node) (node_of node) at, length-map node.outputs object_number, ap length c.as_slice-outputs.ensures)

pub put_gate-requires-clause-may : goal.put_gate-requires-clause-may
put_gate-requires-clause-may g c =
    let design = c.args.view.now.design.now in
    let node = c.index-as_slice-node.result in
    let rules = rules-at design c.as_slice.result.now (node_number c.args.node) node c.as_slice.ensures c.requires.node c.index-as_slice-node.is in
    subst (λ l. MayGate (g.V.Values.values c.args.values.now) (expressions_of l)) (sym c.deref.ensures.value)
    (may-gate (design_of design) (g.V.Values.values c.args.values.now) node c.in-Gate.kind (expressions_of c.in-Gate.terminals.items) rules c.requires.values (ap node_kind_of c.in-Gate.is))

pub put_gate-requires-clause-room : goal.put_gate-requires-clause-room
put_gate-requires-clause-room g c =
    let design = c.args.view.now.design.now in
    let node = c.index-as_slice-node.result in
    let at = at-list design c.as_slice.result.now (node_number c.args.node) node c.as_slice.ensures c.requires.node c.index-as_slice-node.is in
    omega (arith, c.requires.made.outputs (node_number c.args.node) (node_of node) at, length-map node.outputs object_number, ap length c.as_slice-outputs.ensures)

pub put_block-requires-clause-may : goal.put_block-requires-clause-may
put_block-requires-clause-may g c =
    let design = c.args.view.now.design.now in
    let node = c.index-as_slice-node.result in
    let rules = rules-at design c.as_slice.result.now (node_number c.args.node) node c.as_slice.ensures c.requires.node c.index-as_slice-node.is in
    may-run (design_of design) (g.V.Values.values c.args.values.now) node c.as_slice-outputs.result.now (statement_of c.in-Block.statement) rules c.requires.values (ap node_kind_of c.in-Block.is)
    (sym c.as_slice-outputs.ensures)

pub put_block-requires-clause-once : goal.put_block-requires-clause-once
put_block-requires-clause-once g c =
    let design = c.args.view.now.design.now in
    let node = c.index-as_slice-node.result in
    let rules = rules-at design c.as_slice.result.now (node_number c.args.node) node c.as_slice.ensures c.requires.node c.index-as_slice-node.is in
    outputs-once (design_of design) node c.as_slice-outputs.result.now rules (sym c.as_slice-outputs.ensures)

pub put_block-requires-clause-there : goal.put_block-requires-clause-there
put_block-requires-clause-there g c =
    let design = c.args.view.now.design.now in
    let node = c.index-as_slice-node.result in
    let at = at-list design c.as_slice.result.now (node_number c.args.node) node c.as_slice.ensures c.requires.node c.index-as_slice-node.is in
    outputs-there design (node_number c.args.node) node c.as_slice-outputs.result.now (length (g.V.Values.values c.args.values.now)) at (sym c.as_slice-outputs.ensures) c.requires.values.count

pub put_block-requires-clause-room : goal.put_block-requires-clause-room
put_block-requires-clause-room g c =
    let design = c.args.view.now.design.now in
    let node = c.index-as_slice-node.result in
    let at = at-list design c.as_slice.result.now (node_number c.args.node) node c.as_slice.ensures c.requires.node c.index-as_slice-node.is in
    omega (arith, c.requires.made.outputs (node_number c.args.node) (node_of node) at, length-map node.outputs object_number, ap length c.as_slice-outputs.ensures)

pub returns-in-Assign-clause-outputs : goal.returns-in-Assign-clause-outputs
returns-in-Assign-clause-outputs g c flat found =
    let design = c.args.view.now.design.now in
    let node = c.index-as_slice-node.result in
    let at = at-list design c.as_slice.result.now (node_number c.args.node) node c.as_slice.ensures c.requires.node c.index-as_slice-node.is in
    put-node (machine_of c.args.view.now) (node_number c.args.node) node flat _ c.as_slice-outputs.result.now (g.V.Values.values c.args.values.now) _ _ at found
    (ap node_kind_of c.in-Assign.is ∙ ap (AssignNode (expression_of c.in-Assign.value)) (sym c.as_slice-in-Assign.ensures)) (sym c.as_slice-outputs.ensures) c.put_assignment.ensures.put

pub returns-in-Gate-clause-outputs : goal.returns-in-Gate-clause-outputs
returns-in-Gate-clause-outputs g c flat found =
    let design = c.args.view.now.design.now in
    let node = c.index-as_slice-node.result in
    let at = at-list design c.as_slice.result.now (node_number c.args.node) node c.as_slice.ensures c.requires.node c.index-as_slice-node.is in
    put-node (machine_of c.args.view.now) (node_number c.args.node) node flat _ c.as_slice-outputs.result.now (g.V.Values.values c.args.values.now) _ _ at found
    (ap node_kind_of c.in-Gate.is ∙ ap (λ l. GateNode c.in-Gate.kind (expressions_of l)) (sym c.deref.ensures.value)) (sym c.as_slice-outputs.ensures) c.put_gate.ensures.put

pub returns-in-Block-clause-outputs : goal.returns-in-Block-clause-outputs
returns-in-Block-clause-outputs g c flat found =
    let design = c.args.view.now.design.now in
    let node = c.index-as_slice-node.result in
    let at = at-list design c.as_slice.result.now (node_number c.args.node) node c.as_slice.ensures c.requires.node c.index-as_slice-node.is in
    put-node (machine_of c.args.view.now) (node_number c.args.node) node flat _ c.as_slice-outputs.result.now (g.V.Values.values c.args.values.now) _ _ at found
    (ap node_kind_of c.in-Block.is) (sym c.as_slice-outputs.ensures) c.put_block.ensures.put

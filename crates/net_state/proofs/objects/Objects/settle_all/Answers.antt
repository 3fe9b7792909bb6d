use Rattle.std.proofs.Common.{rules, ◌≡◌, ◌+◌, ◌<◌, length, map, drop, sym, ap, subst, ◌∙◌, arith}
use Rattle.std.specs.Prelude.{Some, slice_get}
use Rattle.std.proofs.lemmas.List.{length-map}
use Rattle.vf_base.specs.Base.{object_number}
use Rattle.v_design.specs.Plain.{node_of}
use Rattle.v_design.specs.PlainDesigns.{design_of}
use Rattle.v_design.specs.Views.{machine_with}
use Rattle.v_design.specs.Assignments.{with_outputs, settled_from}
use Rattle.node_eval.specs.ValuesOf.{AreValuesOf}
use Rattle.net_settle.specs.declared.settle.Settle.{Settle}
use Rattle.net_settle.specs.NodeLaws.{at-list}
use Rattle.net_state.specs.Held.{AreNets, HaveWidths}
use Rattle.net_state.specs.StartLaws.{settled-more}
use Rattle.net_state.specs.WorkLaws.{nets-of, wide-of}
use Rattle.net_state.proofs.objects.Objects.settle_all.Goals as goal

pub hold-requires-clause-nets : goal.hold-requires-clause-nets
hold-requires-clause-nets c =
    let design = c.args.self.now.settle.graph.now.design.now in
    let test : c.nodes.number < length c.as_slice-node-items.result.now = search rules in
    let low : c.nodes.number < length (design_of c.args.self.now.settle.graph.now.design.now).nodes =
    omega (arith, test, ap length c.as_slice-node-items.ensures, length-map c.args.self.now.settle.graph.now.design.now.nodes node_of) in
    subst (λ (s : Settle). AreNets (design_of s.graph.now.design.now) (map object_number c.as_slice.result.now)) (sym c.nodes.invariant.settle)
    (nets-of design c.as_slice-node-items.result.now c.nodes.number c.node-item.result c.as_slice.result.now c.as_slice-node-items.ensures low c.node-item.is c.as_slice.ensures)

pub hold-requires-clause-widths : goal.hold-requires-clause-widths
hold-requires-clause-widths c =
    let design = c.args.self.now.settle.graph.now.design.now in
    let test : c.nodes.number < length c.as_slice-node-items.result.now = search rules in
    let low : c.nodes.number < length (design_of c.args.self.now.settle.graph.now.design.now).nodes =
    omega (arith, test, ap length c.as_slice-node-items.ensures, length-map c.args.self.now.settle.graph.now.design.now.nodes node_of) in
    subst (λ (s : Settle). HaveWidths (design_of s.graph.now.design.now) (map object_number c.as_slice.result.now) c.outputs.result.now) (sym c.nodes.invariant.settle)
    (wide-of design c.args.fault c.as_slice-node-items.result.now c.nodes.number c.node-item.result c.as_slice.result.now c.nodes.self.values.items c.outputs.result.now c.as_slice-node-items.ensures
    low c.node-item.is c.as_slice.ensures
    (subst (λ (s : Settle). AreValuesOf (design_of s.graph.now.design.now) c.nodes.self.values.items) c.nodes.invariant.settle c.nodes.self.are)
    (λ flat at. c.outputs.ensures ∙ c.evaluate.ensures.outputs flat at))

pub nodes-preserved : goal.nodes-preserved
nodes-preserved c =
    let design = c.args.self.now.settle.graph.now.design.now in
    let machine = machine_with c.args.self.now.settle.graph.now.design.now c.args.fault in
    let test : c.nodes.number < length c.as_slice-node-items.result.now = search rules in
    let low : c.nodes.number < length (design_of c.args.self.now.settle.graph.now.design.now).nodes =
    omega (arith, test, ap length c.as_slice-node-items.ensures, length-map c.args.self.now.settle.graph.now.design.now.nodes node_of) in
    let at : slice_get (design_of c.args.self.now.settle.graph.now.design.now).nodes c.nodes.number ≡ Some (node_of c.node-item.result) =
    at-list design c.as_slice-node-items.result.now c.nodes.number c.node-item.result c.as_slice-node-items.ensures low c.node-item.is in
    record {
      settle = c.hold.ensures.settle ∙ c.nodes.invariant.settle;
      made = c.evaluate.ensures.made;
      values =
          ap (settled_from machine (c.nodes.number + 1) (drop (c.nodes.number + 1) (design_of design).nodes))
          (c.hold.ensures.values ∙ (λ j. with_outputs (map object_number (c.as_slice.ensures j))
          ((c.outputs.ensures ∙ c.evaluate.ensures.outputs (node_of c.node-item.result) at) j) c.nodes.self.values.items))
          ∙ sym (settled-more machine (design_of design).nodes c.nodes.number (node_of c.node-item.result) c.nodes.self.values.items at)
          ∙ c.nodes.invariant.values;
    }

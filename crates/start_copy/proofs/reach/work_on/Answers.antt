use Rattle.std.proofs.Common.{map, sym, ap, subst, ◌∙◌}
use Rattle.std.specs.Prelude.{slice_get}
use Rattle.vf_base.specs.Base.{object_number, node_number}
use Rattle.v_design.specs.declared.plan.Design.{Design}
use Rattle.v_design.specs.Assignments.{with_outputs}
use Rattle.v_design.specs.Designs.{FlatNode}
use Rattle.v_design.specs.Laws.{worked_on}
use Rattle.v_design.specs.Plain.{node_of}
use Rattle.v_design.specs.PlainDesigns.{design_of}
use Rattle.v_design.specs.Views.{machine_of}
use Rattle.copy_overlay.specs.Faulty.{faulty_values}
use Rattle.net_settle.specs.NodeLaws.{at-list}
use Rattle.net_state.specs.Held.{AreNets, HaveWidths}
use Rattle.net_state.specs.WorkLaws.{same-node, nets-of, wide-of}
use Rattle.start_copy.specs.Reached.{ComesToHold}
use Rattle.start_copy.proofs.reach.work_on.Goals as goal

pub hold_all-requires-clause-nets : goal.hold_all-requires-clause-nets
hold_all-requires-clause-nets c =
    subst (λ (d : Design). AreNets (design_of d) (map object_number c.as_slice-outputs.result.now)) (sym c.requires.belongs)
    (nets-of c.args.view.now.design.now c.as_slice.result.now (node_number c.args.node) c.index-as_slice-node.result c.as_slice-outputs.result.now c.as_slice.ensures c.requires.node
    c.index-as_slice-node.is c.as_slice-outputs.ensures)

pub hold_all-requires-clause-widths : goal.hold_all-requires-clause-widths
hold_all-requires-clause-widths c =
    subst (λ (d : Design). HaveWidths (design_of d) (map object_number c.as_slice-outputs.result.now) c.outputs.result.now) (sym c.requires.belongs)
    (wide-of c.args.view.now.design.now c.args.view.now.fault c.as_slice.result.now (node_number c.args.node) c.index-as_slice-node.result c.as_slice-outputs.result.now
    (faulty_values c.args.good.now c.args.copy.now.values) c.outputs.result.now c.as_slice.ensures c.requires.node c.index-as_slice-node.is c.as_slice-outputs.ensures c.requires.are
    (λ flat at. c.outputs.ensures ∙ c.evaluate.ensures.outputs flat at))

pub returns-clause-holds : goal.returns-clause-holds
returns-clause-holds c = λ flat at.
    let design = c.args.view.now.design.now in
    let shown = faulty_values c.args.good.now c.args.copy.now.values in
    let number = node_number c.args.node in
    let outputs = map object_number c.as_slice-outputs.result.now in
    let before = c.args.settle.now.marks.items in
    let later = c.hold_all.new.settle.marks.items in
    let own = at-list design c.as_slice.result.now number c.index-as_slice-node.result c.as_slice.ensures c.requires.node c.index-as_slice-node.is in
    let same = same-node (slice_get (design_of design).nodes number) (node_of c.index-as_slice-node.result) flat own at in
    let outs = ap (map object_number) c.as_slice-outputs.ensures ∙ ap (λ (f : FlatNode). f.outputs) same in
    let put = c.outputs.ensures ∙ c.evaluate.ensures.outputs flat at in
    subst (λ (d : Design). ComesToHold (design_of d) c.args.good.now flat.outputs (worked_on (machine_of c.args.view.now) number flat shown) c.args.copy.now c.hold_all.new.copy before later)
    c.requires.belongs
    (subst (λ held. ComesToHold (design_of c.args.settle.now.graph.now.design.now) c.args.good.now flat.outputs held c.args.copy.now c.hold_all.new.copy before later)
    (λ j. with_outputs (outs j) (put j) shown)
    (subst (λ objects. ComesToHold (design_of c.args.settle.now.graph.now.design.now) c.args.good.now objects (with_outputs outputs c.outputs.result.now shown) c.args.copy.now c.hold_all.new.copy before
    later) outs c.in_ok-hold_all.ensures.holds))

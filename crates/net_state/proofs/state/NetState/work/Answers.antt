use Rattle.std.proofs.Common.{arith, ◌≡◌, ◌<◌, false, length, map, sym, ap, subst, ◌∙◌}
use Rattle.std.specs.Prelude.{Some, slice_get}
use Rattle.std.proofs.lemmas.List.{length-map}
use Rattle.vf_base.specs.Base.{object_number, node_number}
use Rattle.v_design.specs.declared.plan.Design.{Design}
use Rattle.vf_base.specs.Lists.{AllHold, change_at}
use Rattle.v_design.specs.Designs.{FlatNode}
use Rattle.v_design.specs.Plain.{node_of}
use Rattle.v_design.specs.PlainDesigns.{design_of}
use Rattle.v_design.specs.Assignments.{node_outputs}
use Rattle.v_design.specs.States.{State, with_node, with_values}
use Rattle.node_eval.specs.ValuesOf.{AreValuesOf}
use Rattle.net_graph.specs.declared.graph.Graph.{Graph}
use Rattle.net_settle.specs.NodeLaws.{at-list}
use Rattle.value_change.specs.declared.change.Change.{Change}
use Rattle.value_change.specs.ChangeLaws.{net_changes}
use Rattle.net_state.specs.Held.{node_marked, AreNets, HaveWidths, Holds}
use Rattle.net_state.specs.HeldLaws.{unmarked, worked}
use Rattle.net_state.specs.States.{machine_in}
use Rattle.net_state.specs.WorkLaws.{same-node, nets-of, distinct-of, wide-of}
use Rattle.net_state.proofs.state.NetState.work.Goals as goal

pub put_all-requires-clause-nets : goal.put_all-requires-clause-nets
put_all-requires-clause-nets c =
    let same : c.view-view.result.design.now ≡ c.unmark.new.self.settle.graph.now.design.now = c.view-view.ensures.design ∙ ap (λ (g : Graph). g.design.now) (sym c.unmark.ensures.belongs) in
    subst (λ (d : Design). AreNets (design_of d) (map object_number c.as_slice-outputs.result.now)) same
    (nets-of c.view-view.result.design.now c.as_slice.result.now (node_number c.args.node) c.index-as_slice-node.result c.as_slice-outputs.result.now c.as_slice.ensures
    (omega (
      arith,
      c.requires,
      length-map c.args.self.now.objects.settle.marks.items node_marked,
      c.args.self.now.objects.settle.sized,
      ap (λ (d : Design). length (design_of d).nodes) c.view-view.ensures.design,
    )) c.index-as_slice-node.is c.as_slice-outputs.ensures)

pub put_all-requires-clause-distinct : goal.put_all-requires-clause-distinct
put_all-requires-clause-distinct c =
    distinct-of c.view-view.result.design.now c.as_slice.result.now (node_number c.args.node) c.index-as_slice-node.result c.as_slice-outputs.result.now c.as_slice.ensures
    (omega (
      arith,
      c.requires,
      length-map c.args.self.now.objects.settle.marks.items node_marked,
      c.args.self.now.objects.settle.sized,
      ap (λ (d : Design). length (design_of d).nodes) c.view-view.ensures.design,
    )) c.index-as_slice-node.is c.as_slice-outputs.ensures

pub put_all-requires-clause-widths : goal.put_all-requires-clause-widths
put_all-requires-clause-widths c =
    let same : c.view-view.result.design.now ≡ c.unmark.new.self.settle.graph.now.design.now = c.view-view.ensures.design ∙ ap (λ (g : Graph). g.design.now) (sym c.unmark.ensures.belongs) in
    subst (λ (d : Design). HaveWidths (design_of d) (map object_number c.as_slice-outputs.result.now) c.outputs.result.now) same
    (wide-of c.view-view.result.design.now c.view-view.result.fault c.as_slice.result.now (node_number c.args.node) c.index-as_slice-node.result c.as_slice-outputs.result.now
    c.unmark.new.self.values.items c.outputs.result.now
    c.as_slice.ensures (omega (
      arith,
      c.requires,
      length-map c.args.self.now.objects.settle.marks.items node_marked,
      c.args.self.now.objects.settle.sized,
      ap (λ (d : Design). length (design_of d).nodes) c.view-view.ensures.design,
    )) c.index-as_slice-node.is c.as_slice-outputs.ensures
    (subst (λ (d : Design). AreValuesOf (design_of d) c.unmark.new.self.values.items) (sym same) c.unmark.new.self.are)
    (λ flat at. c.outputs.ensures ∙ c.evaluate.ensures.outputs flat at))

pub returns-clause-after : goal.returns-clause-after
returns-clause-after c state h =
    let machine = machine_in c.args.self.now in
    let number = node_number c.args.node in
    let at : slice_get (design_of c.view-view.result.design.now).nodes (node_number c.args.node) ≡ Some (node_of c.index-as_slice-node.result) =
    at-list c.view-view.result.design.now c.as_slice.result.now (node_number c.args.node) c.index-as_slice-node.result c.as_slice.ensures
    (omega (
      arith,
      c.requires,
      length-map c.args.self.now.objects.settle.marks.items node_marked,
      c.args.self.now.objects.settle.sized,
      ap (λ (d : Design). length (design_of d).nodes) c.view-view.ensures.design,
    )) c.index-as_slice-node.is in
    let here : slice_get (machine_in c.args.self.now).design.nodes (node_number c.args.node) ≡ Some (node_of c.index-as_slice-node.result) =
    subst (λ (d : Design). slice_get (design_of d).nodes (node_number c.args.node) ≡ Some (node_of c.index-as_slice-node.result)) c.view-view.ensures.design at in
    let put : c.outputs.result.now ≡ node_outputs (machine_in c.args.self.now) (node_number c.args.node) (node_of c.index-as_slice-node.result) state.values =
    c.outputs.ensures ∙ c.evaluate.ensures.outputs (node_of c.index-as_slice-node.result) at
    ∙ (λ j. node_outputs (c.view-view.ensures.machine j) (node_number c.args.node) (node_of c.index-as_slice-node.result) ((c.unmark.ensures.values ∙ h.values) j)) in
    let held : Holds c.unmark.new.self (with_node (node_number c.args.node) (λ old. node_marked false) state) = record {
      values = c.unmark.ensures.values ∙ h.values;
      nodes =
          ap (map node_marked) c.unmark.ensures.marks
          ∙ unmarked c.args.self.now.objects.settle.marks.items (node_number c.args.node)
          ∙ ap (λ ns. change_at ns (node_number c.args.node) (λ old. node_marked false)) h.nodes;
    } in
    subst (λ (s : State). Holds c.put_all.new.self s)
    ((λ j. with_values machine (map object_number (c.as_slice-outputs.ensures j)) (put j) (with_node number (λ old. node_marked false) state))
    ∙ sym (worked machine number (node_of c.index-as_slice-node.result) state here (subst (λ ns. node_number c.args.node < length ns) h.nodes c.requires)))
    (c.in_ok-put_all.ensures.holds machine (with_node number (λ old. node_marked false) state) (ap (λ (g : Graph). design_of g.design.now) (sym c.unmark.ensures.belongs)) held)

pub returns-clause-changes : goal.returns-clause-changes
returns-clause-changes c flat found =
    let at : slice_get (design_of c.view-view.result.design.now).nodes (node_number c.args.node) ≡ Some (node_of c.index-as_slice-node.result) =
    at-list c.view-view.result.design.now c.as_slice.result.now (node_number c.args.node) c.index-as_slice-node.result c.as_slice.ensures
    (omega (
      arith,
      c.requires,
      length-map c.args.self.now.objects.settle.marks.items node_marked,
      c.args.self.now.objects.settle.sized,
      ap (λ (d : Design). length (design_of d).nodes) c.view-view.ensures.design,
    )) c.index-as_slice-node.is in
    let here : slice_get (machine_in c.args.self.now).design.nodes (node_number c.args.node) ≡ Some (node_of c.index-as_slice-node.result) =
    subst (λ (d : Design). slice_get (design_of d).nodes (node_number c.args.node) ≡ Some (node_of c.index-as_slice-node.result)) c.view-view.ensures.design at in
    let own : map object_number c.as_slice-outputs.result.now ≡ flat.outputs =
    ap (map object_number) c.as_slice-outputs.ensures ∙ ap (λ (f : FlatNode). f.outputs) (same-node (slice_get (machine_in c.args.self.now).design.nodes (node_number c.args.node))
    (node_of c.index-as_slice-node.result) flat here found) in
    c.in_ok-put_all.ensures.changes ∙ (λ j. net_changes (design_of (c.unmark.ensures.belongs j).design.now) (own j) (c.unmark.ensures.values j) c.put_all.new.self.values.items)

pub returns-clause-objects : goal.returns-clause-objects
returns-clause-objects c =
    subst (λ (g : Graph). AllHold (λ (change : Change). object_number change.object < length (design_of g.design.now).objects) c.put_all.new.changes.items) c.unmark.ensures.belongs
    c.in_ok-put_all.ensures.objects

-- The work is done and recorded.
use Rattle.std.proofs.Common.{◌≡◌, ◌<◌, ◌+◌, ◌∙◌, Some, length, map, refl, sym, ap, subst, arith}
use Rattle.std.specs.Prelude.{slice_get}
use Rattle.std.specs.List.{All}
use Rattle.std.proofs.lemmas.List.{length-map}
use Rattle.vf_base.specs.Base.{object_number, node_number}
use Rattle.vf_base.specs.declared.ids.ObjectId.{ObjectId}
use Rattle.v_design.specs.declared.plan.Design.{Design}
use Rattle.v_design.specs.Designs.{FlatDesign, Machine}
use Rattle.v_design.specs.Plain.{node_of}
use Rattle.v_design.specs.PlainDesigns.{design_of}
use Rattle.v_design.specs.PhaseLogs.{noted_events}
use Rattle.value_change.specs.declared.change.Change.{Change}
use Rattle.net_graph.specs.RuleLaws.{rules_of_node}
use Rattle.net_settle.specs.NodeLaws.{at-list}
use Rattle.net_state.specs.States.{machine_in}
use Rattle.process_table.specs.Arranged.{table_of}
use Rattle.machine_events.specs.PartLaws.{node-low}
use Rattle.machine_events.proofs.Recorded.{rules-of, one-in-slot, room-objects, fits-record}
use Rattle.machine_events.proofs.NodesOn.{mapped-all, node-leads}
use Rattle.machine_events.proofs.nodes.work_node.Goals as goal

pub node_alone-requires-clause-one : goal.node_alone-requires-clause-one
node_alone-requires-clause-one c = one-in-slot c.args.nets.now c.args.table.now c.args.record.now c.requires.stands

pub bounds-as_slice-node : goal.bounds-as_slice-node
bounds-as_slice-node c =
    let d : Design = c.args.design.now in
    omega (
      arith,
      node-low c.args.nets.now (node_number c.args.node) c.requires.node,
      ap length c.as_slice.ensures,
      length-map d.nodes node_of,
      ap (λ (f : FlatDesign). length f.nodes) c.requires.design,
    )

pub note_node-requires-clause-stands : goal.note_node-requires-clause-stands
note_node-requires-clause-stands c =
    let s = c.requires.stands in
    let d : Design = c.args.design.now in
    let same : design_of d ≡ s.machine.design = c.requires.design ∙ ap (λ (k : Machine). k.design) s.is.both.machine_is in
    let low : node_number c.args.node < length (design_of d).nodes =
    subst (λ (f : FlatDesign). node_number c.args.node < length f.nodes) (sym c.requires.design) (node-low c.args.nets.now (node_number c.args.node) c.requires.node) in
    record {
      machine = s.machine;
      number = length s.before + 1;
      begins = s.phase.begins;
      noted = noted_events s.machine s.phase.begins s.phase.events;
      stands = s.is.recorded.present;
      text = node_of c.index-as_slice-node.result;
      is_text = subst (λ (f : FlatDesign). slice_get f.nodes (node_number c.args.node) ≡ Some (node_of c.index-as_slice-node.result)) same
          (at-list d c.as_slice.result.now (node_number c.args.node) c.index-as_slice-node.result c.as_slice.ensures low c.index-as_slice-node.is);
      has_inputs = refl;
    }

pub note_node-requires-clause-inputs : goal.note_node-requires-clause-inputs
note_node-requires-clause-inputs c =
    let s = c.requires.stands in
    let d : Design = c.args.design.now in
    let same : design_of d ≡ s.machine.design = c.requires.design ∙ ap (λ (k : Machine). k.design) s.is.both.machine_is in
    let low : node_number c.args.node < length (design_of d).nodes =
    subst (λ (f : FlatDesign). node_number c.args.node < length f.nodes) (sym c.requires.design) (node-low c.args.nets.now (node_number c.args.node) c.requires.node) in
    let here : slice_get s.machine.design.nodes (node_number c.args.node) ≡ Some (node_of c.index-as_slice-node.result) =
    subst (λ (f : FlatDesign). slice_get f.nodes (node_number c.args.node) ≡ Some (node_of c.index-as_slice-node.result)) same
    (at-list d c.as_slice.result.now (node_number c.args.node) c.index-as_slice-node.result c.as_slice.ensures low c.index-as_slice-node.is) in
    subst (λ n. All (λ (object : ObjectId). object_number object < n) c.index-as_slice-node.result.inputs) (room-objects s.machine s.first s.before s.phase c.args.record.now s.log s.is.recorded)
    (mapped-all (λ o. o < length s.machine.design.objects) object_number c.index-as_slice-node.result.inputs
    (rules_of_node s.machine.design (node_number c.args.node) (node_of c.index-as_slice-node.result) (rules-of s.machine c.args.nets.now s.is.both.machine_is) here).inputs_there)

pub note_node-requires-clause-changed : goal.note_node-requires-clause-changed
note_node-requires-clause-changed c =
    let s = c.requires.stands in
    subst (λ n. All (λ (change : Change). object_number change.object < n) c.node_alone.new.told.net_changes.items)
    (ap (λ (k : Machine). length k.design.objects) s.is.both.machine_is ∙ room-objects s.machine s.first s.before s.phase c.args.record.now s.log s.is.recorded)
    c.in_ok-node_alone.ensures.objects

pub note_node-requires-clause-widths : goal.note_node-requires-clause-widths
note_node-requires-clause-widths c = c.in_ok-node_alone.ensures.widths

pub note_node-requires-clause-fits : goal.note_node-requires-clause-fits
note_node-requires-clause-fits c =
    let s = c.requires.stands in
    fits-record s.machine s.first s.before s.phase c.args.record.now s.log (table_of c.args.table.now).design _ s.is.recorded s.is.both.table_is.design c.in_ok-node_alone.ensures.fits

pub returns : goal.returns
returns c =
    let d : Design = c.args.design.now in
    let low : node_number c.args.node < length (design_of d).nodes =
    subst (λ (f : FlatDesign). node_number c.args.node < length f.nodes) (sym c.requires.design) (node-low c.args.nets.now (node_number c.args.node) c.requires.node) in
    let here : slice_get (machine_in c.args.nets.now).design.nodes (node_number c.args.node) ≡ Some (node_of c.index-as_slice-node.result) =
    subst (λ (f : FlatDesign). slice_get f.nodes (node_number c.args.node) ≡ Some (node_of c.index-as_slice-node.result)) c.requires.design
    (at-list d c.as_slice.result.now (node_number c.args.node) c.index-as_slice-node.result c.as_slice.ensures low c.index-as_slice-node.is) in
    node-leads c.args.nets.now c.node_alone.new.nets c.args.table.now c.node_alone.new.table c.args.record.now c.note_node.new.record (node_number c.args.node)
    (node_of c.index-as_slice-node.result) c.node_alone.new.told here c.in_ok-node_alone.ensures (map object_number c.index-as_slice-node.result.inputs) refl c.in_ok-note_node.ensures

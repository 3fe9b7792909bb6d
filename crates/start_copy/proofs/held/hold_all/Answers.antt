use Rattle.std.proofs.Common.{rules, ◌≡◌, ◌+◌, ◌<◌, [], true, get_or, length, map, take, set, sym, ap, subst, ◌∙◌, arith}
use Rattle.std.proofs.lemmas.List.{get_or-map, get_or_default, length-map}
use Rattle.vf_base.specs.Base.{object_number}
use Rattle.vf_base.specs.Lists.{has}
use Rattle.v_design.specs.Assignments.{with_outputs}
use Rattle.v_design.specs.Designs.{width_in}
use Rattle.v_design.specs.PlainDesigns.{design_of}
use Rattle.copy_overlay.specs.Faulty.{faulty_values}
use Rattle.graph_order.specs.ListLaws.{has-get_or}
use Rattle.net_graph.specs.declared.graph.Graph.{Graph}
use Rattle.net_state.specs.HeldLaws.{with_outputs-more}
use Rattle.net_state.specs.OutputLaws.{output-there, output-width}
use Rattle.start_copy.specs.Reached.{ComesToHold}
use Rattle.start_copy.proofs.Holding.{comes-more}
use Rattle.start_copy.proofs.held.hold_all.Goals as goal

pub hold-requires-clause-there : goal.hold-requires-clause-there
hold-requires-clause-there c =
    output-there (design_of c.args.settle.now.graph.now.design.now) c.args.outputs.now (length c.args.good.now) c.outputs.at (record { 0 = 0 }) c.requires.nets c.requires.good.count (search rules)

pub hold-requires-clause-width : goal.hold-requires-clause-width
hold-requires-clause-width c =
    output-width (design_of c.args.settle.now.graph.now.design.now) c.args.outputs.now c.args.values.now c.outputs.at (record { 0 = 0 }) c.index-values-at.result c.requires.widths (search rules)
    c.index-values-at.is
    ∙ ap (λ (g : Graph). width_in (design_of g.design.now) (object_number (get_or c.args.outputs.now c.outputs.at (record { 0 = 0 })))) (sym c.outputs.invariant.belongs)

pub outputs-preserved : goal.outputs-preserved
outputs-preserved c =
    let design = design_of c.args.settle.now.graph.now.design.now in
    let good = c.args.good.now in
    let objects = map object_number c.args.outputs.now in
    let low : c.outputs.at < length c.args.outputs.now = search rules in
    let within : c.outputs.at < length (map object_number c.args.outputs.now) = omega (arith, low, length-map c.args.outputs.now object_number) in
    let is_o : get_or (map object_number c.args.outputs.now) c.outputs.at 0 ≡ object_number (get_or c.args.outputs.now c.outputs.at (record { 0 = 0 })) =
    get_or-map object_number c.args.outputs.now c.outputs.at (record { 0 = 0 }) 0 low in
    let read : c.index-values-at.result ≡ get_or c.args.values.now c.outputs.at [] =
    c.index-values-at.is ∙ get_or_default c.args.values.now c.outputs.at c.index-values-at.result [] (omega (arith, within, c.requires.widths.count)) in
    let among : has (map object_number c.args.outputs.now) (object_number (get_or c.args.outputs.now c.outputs.at (record { 0 = 0 }))) ≡ true =
    ap (has (map object_number c.args.outputs.now)) (sym is_o) ∙ has-get_or (map object_number c.args.outputs.now) c.outputs.at 0 within in
    let held = with_outputs (take (c.outputs.at + 1) objects) (take (c.outputs.at + 1) c.args.values.now) (faulty_values good c.args.copy.now.values) in
    let more : set (faulty_values good c.outputs.copy.values) (object_number (get_or c.args.outputs.now c.outputs.at (record { 0 = 0 }))) c.index-values-at.result ≡ with_outputs
    (take (c.outputs.at + 1) (map object_number c.args.outputs.now)) (take (c.outputs.at + 1) c.args.values.now) (faulty_values c.args.good.now c.args.copy.now.values) =
    (λ j. set (c.outputs.invariant.holds.values j) (sym is_o j) (read j))
    ∙ sym (with_outputs-more objects c.args.values.now c.outputs.at (faulty_values good c.args.copy.now.values) c.requires.widths.count within) in
    record {
      belongs = c.hold.ensures.belongs ∙ c.outputs.invariant.belongs;
      holds =
          comes-more design good objects (with_outputs (take c.outputs.at objects) (take c.outputs.at c.args.values.now) (faulty_values good c.args.copy.now.values)) held c.args.copy.now c.outputs.copy
          c.hold.new.copy c.args.settle.now.marks.items c.outputs.settle.marks.items c.hold.new.settle.marks.items c.outputs.invariant.holds
          (subst (λ h. ComesToHold design good objects h c.outputs.copy c.hold.new.copy c.outputs.settle.marks.items c.hold.new.settle.marks.items) more
          (subst (λ (g : Graph). ComesToHold (design_of g.design.now) good objects (set (faulty_values good c.outputs.copy.values)
          (object_number (get_or c.args.outputs.now c.outputs.at (record { 0 = 0 }))) c.index-values-at.result) c.outputs.copy c.hold.new.copy c.outputs.settle.marks.items
          c.hold.new.settle.marks.items) c.outputs.invariant.belongs (c.in_ok-hold.ensures.holds objects among)));
    }

use Rattle.std.proofs.Common.{rules, ◌<◌, [], get_or, length, map, set, sym, ap, ◌∙◌, arith}
use Rattle.std.proofs.lemmas.List.{get_or-map, get_or_default, length-map}
use Rattle.vf_base.specs.Base.{object_number}
use Rattle.v_design.specs.Designs.{width_in}
use Rattle.v_design.specs.PlainDesigns.{design_of}
use Rattle.net_settle.specs.declared.settle.Settle.{Settle}
use Rattle.net_state.specs.HeldLaws.{values-set, with_outputs-more}
use Rattle.net_state.specs.OutputLaws.{output-there, output-width}
use Rattle.net_state.proofs.objects.Objects.hold.Goals as goal

pub index_mut-requires : goal.index_mut-requires
index_mut-requires c =
    let design = design_of c.args.self.now.settle.graph.now.design.now in
    let there : object_number (get_or c.args.outputs.now c.outputs.at (record { 0 = 0 })) < length c.outputs.self.values.items =
    output-there design c.args.outputs.now (length c.outputs.self.values.items) c.outputs.at (record { 0 = 0 }) c.requires.nets
    (c.outputs.invariant.are.count ∙ ap (λ (s : Settle). length (design_of s.graph.now.design.now).objects) c.outputs.invariant.settle) (search rules) in
    omega (arith, there)

pub invariant_of-self : goal.invariant_of-self
invariant_of-self c =
    let design = design_of c.args.self.now.settle.graph.now.design.now in
    record {
      are =
          values-set (design_of c.outputs.self.settle.graph.now.design.now) c.outputs.self.values.items
          (object_number (get_or c.args.outputs.now c.outputs.at (record { 0 = 0 }))) c.index-values-at.result c.outputs.invariant.are
          (output-width design c.args.outputs.now c.args.values.now c.outputs.at (record { 0 = 0 }) c.index-values-at.result c.requires.widths (search rules) c.index-values-at.is
          ∙ ap (λ (s : Settle). width_in (design_of s.graph.now.design.now) (object_number (get_or c.args.outputs.now c.outputs.at (record { 0 = 0 })))) (sym c.outputs.invariant.settle));
    }

pub outputs-preserved : goal.outputs-preserved
outputs-preserved c =
    let design = design_of c.args.self.now.settle.graph.now.design.now in
    let low : c.outputs.at < length c.args.outputs.now = search rules in
    let inside : c.outputs.at < length c.args.values.now = omega (arith, low, c.requires.widths.count, length-map c.args.outputs.now object_number) in
    record {
      settle = c.outputs.invariant.settle;
      are =
          values-set (design_of c.outputs.self.settle.graph.now.design.now) c.outputs.self.values.items
          (object_number (get_or c.args.outputs.now c.outputs.at (record { 0 = 0 }))) c.index-values-at.result c.outputs.invariant.are
          (output-width design c.args.outputs.now c.args.values.now c.outputs.at (record { 0 = 0 }) c.index-values-at.result c.requires.widths low c.index-values-at.is
          ∙ ap (λ (s : Settle). width_in (design_of s.graph.now.design.now) (object_number (get_or c.args.outputs.now c.outputs.at (record { 0 = 0 })))) (sym c.outputs.invariant.settle));
      values =
          (λ j. set (c.outputs.invariant.values j) (sym (get_or-map object_number c.args.outputs.now c.outputs.at (record { 0 = 0 }) 0 low) j)
          ((c.index-values-at.is ∙ get_or_default c.args.values.now c.outputs.at c.index-values-at.result [] inside) j))
          ∙ sym
          (with_outputs-more (map object_number c.args.outputs.now) c.args.values.now c.outputs.at c.args.self.now.values.items c.requires.widths.count
          (omega (arith, low, length-map c.args.outputs.now object_number)));
    }

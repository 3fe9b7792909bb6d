use Rattle.std.proofs.Common.{rules, ◌≡◌, ℕ, ◌+◌, ◌<◌, ap, sym, subst, ◌∙◌, take, set, map, get_or, length, vec_len, arith}
use Rattle.std.proofs.lemmas.List.{take-map, get_or-map, get_or_default, length-map}
use Rattle.vf_base.specs.Base.{object_number, node_number}
use Rattle.four_value.specs.Values.{LogicValue, part_of}
use Rattle.vf_base.specs.Lists.{zip_with}
use Rattle.v_design.specs.Designs.{forced_output}
use Rattle.v_design.specs.Assignments.{object_width}
use Rattle.v_design.specs.Views.{machine_of}
use Rattle.node_eval.specs.Parts.{parts-more}
use Rattle.node_eval.proofs.assign.place_parts.Goals as goal

pub outputs-preserved : goal.outputs-preserved
outputs-preserved c = record {
  same = search rules;
  placed =
      let i : ℕ = c.outputs.number in
      let low : c.outputs.number < length c.args.outputs.now = search rules in
      let force : ℕ → LogicValue → LogicValue = λ object value. forced_output (machine_of c.args.view.now).fault (node_number c.args.node) object value in
      let part : ℕ → ℕ → LogicValue = λ object place. part_of c.args.value place (object_width (machine_of c.args.view.now) object) in
      let o : ℕ = object_number (get_or c.args.outputs.now c.outputs.number (record { 0 = 0 })) in
      let p : ℕ = get_or c.args.places.now c.outputs.number 0 in
      subst (λ l. take (c.outputs.number + 1) (set c.outputs.results.items c.outputs.number c.forced_output.result)
      ≡ zip_with (λ object value. forced_output (machine_of c.args.view.now).fault (node_number c.args.node) object value) l
      (zip_with (λ object place. part_of c.args.value place (object_width (machine_of c.args.view.now) object)) l (take (c.outputs.number + 1) c.args.places.now)))
      (take-map object_number (c.outputs.number + 1) c.args.outputs.now)
      (parts-more (λ object value. forced_output (machine_of c.args.view.now).fault (node_number c.args.node) object value)
      (λ object place. part_of c.args.value place (object_width (machine_of c.args.view.now) object))
      (map object_number c.args.outputs.now) c.args.places.now c.outputs.results.items c.outputs.number (object_number (get_or c.args.outputs.now c.outputs.number (record { 0 = 0 })))
      (get_or c.args.places.now c.outputs.number 0) c.forced_output.result
      (omega (arith, length-map c.args.outputs.now object_number)) (c.requires.alike ∙ sym (length-map c.args.outputs.now object_number)) (omega (arith, c.requires.room, c.outputs.invariant.same))
      (get_or-map object_number c.args.outputs.now c.outputs.number (record { 0 = 0 }) (object_number (get_or c.args.outputs.now c.outputs.number (record { 0 = 0 }))) low)
      (get_or_default c.args.places.now c.outputs.number (get_or c.args.places.now c.outputs.number 0) 0 (omega (arith, c.requires.alike)))
      (c.forced_output.ensures
      ∙ ap (forced_output (machine_of c.args.view.now).fault (node_number c.args.node) (object_number (get_or c.args.outputs.now c.outputs.number (record { 0 = 0 }))))
      (c.part-part.ensures ∙ ap (part_of c.args.value (get_or c.args.places.now c.outputs.number 0)) c.width_of.ensures))
      (subst (λ l. take c.outputs.number c.outputs.results.items
      ≡ zip_with (λ object value. forced_output (machine_of c.args.view.now).fault (node_number c.args.node) object value) l
      (zip_with (λ object place. part_of c.args.value place (object_width (machine_of c.args.view.now) object)) l (take c.outputs.number c.args.places.now)))
      (sym (take-map object_number c.outputs.number c.args.outputs.now)) c.outputs.invariant.placed));
}

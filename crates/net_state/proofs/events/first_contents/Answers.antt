use Rattle.std.proofs.Common.{rules, ◌<◌, ◌≤◌, ◌++◌, ◌∷◌, [], length, sym, ap, ◌∙◌, arith}
use Rattle.std.proofs.lemmas.List.{length-map}
use Rattle.v_design.specs.Designs.{FlatObject, forced_variable}
use Rattle.v_design.specs.Plain.{object_of}
use Rattle.v_design.specs.PlainDesigns.{design_of}
use Rattle.v_design.specs.RulesHold.{rules_hold}
use Rattle.v_design.specs.Views.{machine_of}
use Rattle.net_state.specs.StartLaws.{map_numbered-more, object-in}
use Rattle.net_state.proofs.events.first_contents.Goals as goal

pub overflow_cast-number : goal.overflow_cast-number
overflow_cast-number c =
    let few : length (design_of c.args.view.now.design.now).objects ≤ 65536 = (rules_hold (design_of c.args.view.now.design.now) c.args.view.now.design.now.rules).few_objects in
    let low : c.objects.number < length c.as_slice-object-items.result.now = search rules in
    omega (arith, few, low, ap length c.as_slice-object-items.ensures, length-map c.args.view.now.design.now.objects object_of)

pub objects-preserved : goal.objects-preserved
objects-preserved c =
    let low : c.objects.number < length c.as_slice-object-items.result.now = search rules in
    c.in_ok-push.ensures.items
    ∙ (λ j. c.objects.invariant j ++ c.forced.ensures j ∷ [])
    ∙ sym
    (map_numbered-more (λ number (object : FlatObject). forced_variable (machine_of c.args.view.now).fault number object.first) (design_of c.args.view.now.design.now).objects c.objects.number
    (object_of c.object-item.result)
    (omega (arith, low, ap length c.as_slice-object-items.ensures, length-map c.args.view.now.design.now.objects object_of))
    (object-in c.args.view.now.design.now.objects c.as_slice-object-items.result.now c.objects.number c.object-item.result c.as_slice-object-items.ensures low c.object-item.is))

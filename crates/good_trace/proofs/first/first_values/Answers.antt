use Rattle.std.proofs.Common.{length, ap, ◌∙◌, arith}
use Rattle.v_design.specs.Designs.{Machine}
use Rattle.v_design.specs.PlainDesigns.{design_of}
use Rattle.v_design.specs.RulesHold.{rules_hold}
use Rattle.good_trace.proofs.first.first_values.Goals as goal

pub overflow_cast-number : goal.overflow_cast-number
overflow_cast-number c =
    let few = (rules_hold (design_of c.args.design.now) c.args.design.now.rules).few_objects in
    let count = c.object_count-number-end.ensures.all ∙ ap (λ (m : Machine). length m.design.objects) c.in_ok-nets.ensures.machine in
    omega (arith, c.objects-test.true, c.object_count-number-end.ensures.count, count, few)

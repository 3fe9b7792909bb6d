use Rattle.std.proofs.Common.{◌∙◌, sym, ap}
use Rattle.v_design.specs.Plain.{object_of, site_of}
use Rattle.v_design.specs.PlainDesigns.{design_of}
use Rattle.v_design.specs.declared.plan.Object.{Object}
use Rattle.fault_list.specs.Spelled.{object_spelled}
use Rattle.fault_list.proofs.Finding.{first-next, first-here}
use Rattle.fault_list.proofs.spelled.objects_spelled.Goals as goal

pub returns-in-Some : goal.returns-in-Some
returns-in-Some c =
    first-here object_of (object_spelled (design_of c.args.design.now) c.args.word.now) c.as_slice-objects.result.now c.objects.number c.index-objects-number.result
    (site_of c.in-Some.site) c.objects-test.true
    (ap (λ (x : Object). object_spelled (design_of c.args.design.now) c.args.word.now c.objects.number (object_of x)) (sym c.index-objects-number.is) ∙ sym c.in-Some.ensures)
    ∙ sym c.objects.invariant

pub objects-preserved : goal.objects-preserved
objects-preserved c =
    c.objects.invariant
    ∙ first-next object_of (object_spelled (design_of c.args.design.now) c.args.word.now) c.as_slice-objects.result.now c.objects.number c.index-objects-number.result c.objects-test.true
    (ap (λ (x : Object). object_spelled (design_of c.args.design.now) c.args.word.now c.objects.number (object_of x)) (sym c.index-objects-number.is) ∙ sym c.in_default.ensures)

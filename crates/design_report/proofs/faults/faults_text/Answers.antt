use Rattle.std.proofs.Common.{◌∙◌, sym, ap, subst}
use Rattle.v_design.specs.PlainDesigns.{design_of}
use Rattle.fault_list.specs.Listed.{stuck}
use Rattle.fault_list.specs.Classes.{AreClasses}
use Rattle.design_report.proofs.Lines.{has-place, lines-more, lines-done}
use Rattle.design_report.proofs.faults.faults_text.Goals as goal

pub bounds-places-number : goal.bounds-places-number
bounds-places-number c =
    has-place (design_of c.args.design.now) c.as_slice-faults.result.now c.as_slice-places.result.now c.faults.number
    (subst (AreClasses (design_of c.args.design.now) (stuck c.as_slice-faults.result.now)) (sym c.as_slice-places.ensures.value) c.in_ok-first_places.ensures.classes) c.faults-test.true

pub faults-preserved : goal.faults-preserved
faults-preserved c =
    let design = design_of c.args.design.now in
    let low = has-place design c.as_slice-faults.result.now c.as_slice-places.result.now c.faults.number
    (subst (AreClasses design (stuck c.as_slice-faults.result.now)) (sym c.as_slice-places.ensures.value) c.in_ok-first_places.ensures.classes) c.faults-test.true in
    lines-more design c.as_slice-faults.result.now c.as_slice-places.result.now c.faults.number _ _ c.faults.out.items c.append_class.new.out.items
    c.faults-test.true low c.faults.invariant c.in_ok-append_class.ensures

pub returns : goal.returns
returns c =
    let design = design_of c.args.design.now in
    lines-done design c.as_slice-faults.result.now c.as_slice-places.result.now c.faults.number c.faults.out.items (ap stuck c.as_slice-faults.ensures.value ∙ c.in_ok-all.ensures)
    (subst (AreClasses design (stuck c.as_slice-faults.result.now)) (sym c.as_slice-places.ensures.value) c.in_ok-first_places.ensures.classes) c.faults-test.false c.faults.invariant

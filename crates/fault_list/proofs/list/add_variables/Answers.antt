use Rattle.v_design.specs.Plain.{object_of}
use Rattle.v_design.specs.Sites.{variable_sites}
use Rattle.fault_list.proofs.Growing.{more_listed}
use Rattle.fault_list.proofs.list.add_variables.Goals as goal

pub objects-preserved : goal.objects-preserved
objects-preserved c = more_listed object_of variable_sites c.args.objects.now c.objects.number c.index-objects-number.result _ _ _ c.objects-test.true c.index-objects-number.is c.objects.invariant
    c.in_ok-add_variable.ensures

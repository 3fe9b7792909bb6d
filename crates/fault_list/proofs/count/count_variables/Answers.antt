use Rattle.std.proofs.Common.{length, map, take, ◌^◌, ◌-◌}
use Rattle.vf_base.specs.Lists.{joined, map_numbered}
use Rattle.v_design.specs.Plain.{object_of}
use Rattle.v_design.specs.Sites.{variable_sites}
use Rattle.fault_list.proofs.Counting.{plain, count-more}
use Rattle.fault_list.proofs.count.count_variables.Goals as goal

pub objects-preserved : goal.objects-preserved
objects-preserved c =
    count-more object_of variable_sites c.args.objects.now c.objects.object-index c.object-item.result (2 ^ 64 - 1) c.saturating_add-count.result c.objects-test.true c.object-item.is
    (plain (length (joined (map_numbered variable_sites 0 (map object_of (take c.objects.object-index c.args.objects.now)))))
    (length (variable_sites c.objects.object-index (object_of c.object-item.result)))
    (2 ^ 64 - 1) c.objects.count c.variable_bits.result c.saturating_add-count.result c.objects.invariant (c.variable_bits.ensures c.objects.object-index) c.saturating_add-count.ensures)

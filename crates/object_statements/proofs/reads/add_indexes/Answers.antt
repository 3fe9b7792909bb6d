use Rattle.std.proofs.Common.{List, map, flat_map, refl}
use Rattle.vf_base.specs.Base.{object_number}
use Rattle.v_design.specs.Plain.{target_of}
use Rattle.v_design.specs.Sized.{IsSizedTarget}
use Rattle.object_reads.specs.SizedReads.{holds-at}
use Rattle.v_design.specs.declared.tree.FlatTarget.{FlatTarget}
use Rattle.v_elab.specs.Statements.{index_objects_in_text}
use Rattle.name_checks.specs.Rows.{list-more}
use Rattle.object_statements.proofs.reads.add_indexes.Goals as goal

pub targets-preserved : goal.targets-preserved
targets-preserved c =
    list-more (λ (t : FlatTarget). index_objects_in_text (target_of t)) (λ (ts : List FlatTarget). flat_map index_objects_in_text (map target_of ts)) c.args.targets.now c.targets.target-index
    c.target-item.result
    (map object_number c.targets.objects.items) (map object_number c.add_index.new.objects.items) _ (λ y ys. refl) c.targets-test.true c.target-item.is c.in_ok-add_index.ensures c.targets.invariant

pub add_index-requires : goal.add_index-requires
add_index-requires c = holds-at IsSizedTarget target_of c.args.targets.now c.targets.target-index c.target-item.result c.requires c.targets-test.true c.target-item.is

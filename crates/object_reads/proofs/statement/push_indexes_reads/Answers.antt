use Rattle.v_design.specs.Plain.{target_of}
use Rattle.v_design.specs.Sized.{IsSizedTarget}
use Rattle.object_reads.specs.SizedReads.{holds-at}
use Rattle.object_reads.proofs.statement.push_indexes_reads.Goals as goal

pub push_index_reads-requires : goal.push_index_reads-requires
push_index_reads-requires c = holds-at IsSizedTarget target_of c.args.targets.now c.targets.target-index c.target-item.result c.requires c.targets-test.true c.target-item.is

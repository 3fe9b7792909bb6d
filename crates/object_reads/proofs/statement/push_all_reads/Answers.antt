use Rattle.object_reads.specs.SizedReads.{sized-at}
use Rattle.object_reads.proofs.statement.push_all_reads.Goals as goal

pub push_reads-requires : goal.push_reads-requires
push_reads-requires c = sized-at c.args.exprs.now c.exprs.expr-index c.expr-item.result c.requires c.exprs-test.true c.expr-item.is

-- Of the processes that aren't cleared yet alone something may be kept.
use Rattle.std.proofs.Common.{◌≡◌, drop, length}
use Rattle.block_runner.specs.Beside.{AreClean}
use Rattle.block_runner.proofs.rows.clear_rows.Given as goal

abbrev pub invariant-processes : goal.invariant-processes
invariant-processes l = record {
  same : length l.rows.items ≡ length l.fn.rows.items;
  clean : AreClean l.rows.items (drop l.process-index l.fn.stepped);
}

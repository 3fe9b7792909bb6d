-- The words of so many findings are settled.
use Rattle.std.proofs.Common.{take}
use Rattle.fault_shards.specs.Found.{found_faults}
use Rattle.verdict_words.specs.Seats.{view, IsSeatOf}
use Rattle.verdict_settle.specs.Settling.{KeepsClaims, AreSettled}
use Rattle.verdict_settle.proofs.settle.settle_findings.Given as goal

abbrev pub invariant-findings : goal.invariant-findings
invariant-findings g l = record {
  own : IsSeatOf l.board l.seat;
  claims : KeepsClaims (view l.initial.seat) (view l.seat);
  settled : AreSettled (found_faults (take l.finding-index l.findings)) (view l.initial.seat) (view l.seat);
}

use Rattle.std.proofs.Common.{map, take}
use Rattle.vf_base.specs.Base.{process_number}
use Rattle.lockstep_compare.specs.Among.{AreWritesKeptAmong}
use Rattle.lockstep_compare.proofs.writes.keep_all_writes.Given as goal

-- so far they are kept
abbrev pub invariant-processes : goal.invariant-processes
invariant-processes g l = AreWritesKeptAmong (g.G.Processes.writes l.good) (g.F.Processes.writes l.faulty) (map process_number (take l.place l.processes)) l.fn.own l.own

use Rattle.std.proofs.Common.{take}
use Rattle.good_trace.specs.Setups.{AreCompiled}
use Rattle.good_trace.proofs.setup.compile_all.Given as goal

abbrev pub invariant-processes : goal.invariant-processes
invariant-processes l = AreCompiled (take l.process-index l.processes) l.codes.items

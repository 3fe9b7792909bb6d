-- So many of the runs are listed.
use Rattle.std.proofs.Common.{[], take, map}
use Rattle.window_runs.specs.RunsByProcess.{run_process}
use Rattle.lockstep_block.specs.Runs.{NotesEnded}
use Rattle.lockstep_block.proofs.ended.list_good.Given as goal

abbrev pub invariant-runs : goal.invariant-runs
invariant-runs l = NotesEnded l.initial.apart.items l.apart.items [] (map run_process (take l.end-index l.good))

-- The lists are as long, and of the same processes so far.
use Rattle.std.proofs.Common.{◌≡◌, length, take, map}
use Rattle.vf_base.specs.Base.{process_number}
use Rattle.window_runs.specs.RunsByProcess.{run_process}
use Rattle.lockstep_block.proofs.ended.ended_alike.Given as goal

abbrev pub invariant-runs : goal.invariant-runs
invariant-runs l = (length l.own ≡ length l.good) × (map process_number (take l.place l.own) ≡ map run_process (take l.place l.good))

-- Some steps were taken, beside the good machine's phase, and another one comes.
use Rattle.block_events.specs.Runners.{machine_of, state_of}
use Rattle.block_runner.proofs.BlocksBeside.{LoopBeside}
use Rattle.block_runner.proofs.blocks.run_of.Given as goal

abbrev pub invariant-runs : goal.invariant-runs
invariant-runs g l =
    LoopBeside (machine_of l.fn.runner) (state_of l.fn.runner) l.fn.goods l.runner l.told l.taken l.beside.processes l.beside.ended.items l.fn.tried.items l.tried.items l.fn.steps l.steps

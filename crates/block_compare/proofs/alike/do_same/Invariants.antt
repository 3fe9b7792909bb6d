-- So far each does.
use Rattle.std.proofs.Common.{◌≡◌, ℕ, true, map, take}
use Rattle.vf_base.specs.Base.{process_number}
use Rattle.vf_base.specs.Lists.{has}
use Rattle.v_design.specs.States.{State}
use Rattle.runner_writes.specs.block_events.Runners.{state_of}
use Rattle.moment_shown.specs.Shown.{Shows}
use Rattle.block_compare.specs.Comparing.{DoesSame}
use Rattle.block_compare.proofs.alike.do_same.Given as goal

abbrev pub invariant-processes : goal.invariant-processes
invariant-processes l =
    (state : State) → Shows l.good state → (process : ℕ) → has (map process_number (take l.place l.processes)) process ≡ true → DoesSame state (state_of l.runner) process

-- So many of the runs so far.
use Rattle.std.proofs.Common.{◌≡◌, ◌≤◌, count_by}
use Rattle.std.specs.Prelude.{take}
use Rattle.vf_base.specs.Base.{process_number}
use Rattle.run_numbers.specs.Numbers.{is_own}
use Rattle.run_numbers.proofs.numbers.own_runs.Given as goal

abbrev pub invariant-runs : goal.invariant-runs
invariant-runs l = (l.count ≡ count_by (is_own (process_number l.process)) (take l.run-index l.apart)) × (l.count ≤ l.run-index)

-- So far each of the processes has the updates that are kept of it.
use Rattle.std.proofs.Common.{◌≡◌, map, take}
use Rattle.vf_base.specs.Base.{process_number}
use Rattle.vf_base.specs.Lists.{has}
use Rattle.lockstep_copy.specs.Kept.{kept_by}
use Rattle.block_events.specs.Runners.{IsWhole, machine_of, state_of}
use Rattle.lockstep_exchange.specs.Putting.{WritesArePut, found_among}
use Rattle.lockstep_exchange.proofs.put.put_some_writes.Given as goal

abbrev pub invariant-processes : goal.invariant-processes
invariant-processes l = record {
  machine : machine_of l.runner ≡ machine_of l.fn.runner;
  put : WritesArePut (found_among (has (map process_number (take l.place l.processes))) (kept_by l.own).writes) (state_of l.fn.runner) (state_of l.runner);
  whole : IsWhole l.runner;
}

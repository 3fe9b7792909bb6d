-- So far each of the first objects holds its value.
use Rattle.std.proofs.Common.{◌≡◌, map, take}
use Rattle.copy_laws.specs.Differences.{own_of}
use Rattle.copy_state.specs.Listed.{entry_of}
use Rattle.block_events.specs.Runners.{IsWhole, machine_of, state_of}
use Rattle.lockstep_exchange.specs.Putting.{ValuesArePut}
use Rattle.lockstep_exchange.proofs.put.put_listed.Given as goal

abbrev pub invariant-objects : goal.invariant-objects
invariant-objects l = record {
  machine : machine_of l.runner ≡ machine_of l.fn.runner;
  put : ValuesArePut (own_of (map entry_of (take l.own-index l.listed))) (state_of l.fn.runner) (state_of l.runner);
  whole : IsWhole l.runner;
}

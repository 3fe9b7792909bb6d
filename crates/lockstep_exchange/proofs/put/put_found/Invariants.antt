-- So far each object below the next one of which a value is kept holds what is kept.
use Rattle.std.proofs.Common.{◌≡◌, ℕ, length}
use Rattle.std.specs.Prelude.{IfSome, Some, option_map}
use Rattle.copy_laws.specs.Differences.{own_of}
use Rattle.copy_state.specs.Entries.{first_from}
use Rattle.lockstep_copy.specs.lockstep_slots.Kept.{kept_within}
use Rattle.lockstep_copy.specs.Kept.{kept_by}
use Rattle.block_events.specs.Runners.{IsWhole, machine_of, state_of}
use Rattle.lockstep_exchange.specs.Putting.{ValuesArePut}
use Rattle.lockstep_exchange.proofs.Entries.{held_number}
use Rattle.lockstep_exchange.proofs.Puts.{below, left_of}
use Rattle.lockstep_exchange.proofs.put.put_found.Given as goal

abbrev pub invariant-objects : goal.invariant-objects
invariant-objects l = record {
  from : ℕ;
  next_is : option_map held_number l.next ≡ first_from from l.own.copy.values;
  value_is : IfSome l.next (λ held. own_of l.own.copy.values (held_number held) ≡ Some held.value);
  machine : machine_of l.runner ≡ machine_of l.fn.runner;
  put : ValuesArePut (below from (kept_within (kept_by l.own) (state_of l.fn.runner)).values) (state_of l.fn.runner) (state_of l.runner);
  whole : IsWhole l.runner;
}

abbrev pub decreases-objects : goal.decreases-objects
decreases-objects l = left_of (length (state_of l.fn.runner).values) (option_map held_number l.next)

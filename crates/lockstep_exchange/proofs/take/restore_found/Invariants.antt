-- So far each object below the next one of which a value is kept holds what is shown.
use Rattle.std.proofs.Common.{◌≡◌, ℕ, length}
use Rattle.std.specs.Prelude.{option_map}
use Rattle.copy_state.specs.Entries.{first_from}
use Rattle.block_events.specs.Runners.{IsWhole, machine_of, state_of}
use Rattle.lockstep_exchange.specs.Putting.{ShownFits, ValuesArePut, values_restored}
use Rattle.lockstep_exchange.proofs.Entries.{held_number}
use Rattle.lockstep_exchange.proofs.Puts.{below, left_of}
use Rattle.lockstep_exchange.proofs.take.restore_found.Given as goal

abbrev pub invariant-objects : goal.invariant-objects
invariant-objects g l = record {
  from : ℕ;
  next_is : option_map held_number l.next ≡ first_from from l.own.copy.values;
  machine : machine_of l.runner ≡ machine_of l.fn.runner;
  put : (of : ShownFits (machine_of l.fn.runner).design (g.S.ShownState.shows l.good) (state_of l.fn.runner) l.own.copy.values) →
      ValuesArePut (below from (values_restored l.own.copy.values of.good)) (state_of l.fn.runner) (state_of l.runner);
  whole : IsWhole l.runner;
}

abbrev pub decreases-objects : goal.decreases-objects
decreases-objects g l = left_of (length (state_of l.fn.runner).values) (option_map held_number l.next)

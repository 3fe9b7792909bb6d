-- So far each of the first objects holds what is shown.
use Rattle.std.proofs.Common.{◌≡◌, map, take}
use Rattle.copy_state.specs.Listed.{entry_of}
use Rattle.block_events.specs.Runners.{IsWhole, machine_of, state_of}
use Rattle.lockstep_exchange.specs.Putting.{ShownFits, ValuesArePut, values_restored}
use Rattle.lockstep_exchange.proofs.take.restore_listed.Given as goal

abbrev pub invariant-objects : goal.invariant-objects
invariant-objects g l = record {
  machine : machine_of l.runner ≡ machine_of l.fn.runner;
  put : (of : ShownFits (machine_of l.fn.runner).design (g.S.ShownState.shows l.good) (state_of l.fn.runner) (map entry_of l.listed)) →
      ValuesArePut (values_restored (map entry_of (take l.own-index l.listed)) of.good) (state_of l.fn.runner) (state_of l.runner);
  whole : IsWhole l.runner;
}

use Rattle.std.proofs.Common.{◌≡◌, ◌<◌, ℕ, length}
use Rattle.std.specs.Prelude.{Some, slice_get}
use Rattle.process_code.specs.declared.state.ProcState.{ProcState}
use Rattle.window_runs.specs.Standing.{standing_after, last_run, IsCopyOf}
use Rattle.window_runs.proofs.states.states_after.Given as goal

abbrev pub invariant-processes : goal.invariant-processes
invariant-processes l = record {
  count : length l.later.items ≡ l.number;
  each :
      (process : ℕ) (state own : ProcState) → process < l.number → slice_get l.states process ≡ Some state → slice_get l.later.items process ≡ Some own →
      IsCopyOf (standing_after state (last_run process l.runs)) own;
}

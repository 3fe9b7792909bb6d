use Rattle.std.proofs.Common.{◌<◌, ◌-◌, ◌^◌, List, length, sym, subst}
use Rattle.std.specs.List.Sorted.{IsNonDecreasingBy}
use Rattle.process_code.specs.declared.state.RunEnd.{RunEnd}
use Rattle.window_runs.specs.RunsByProcess.{run_phase}
use Rattle.good_trace.proofs.closing.close_slots.Goals as goal

pub refill-requires-clause-rise : goal.refill-requires-clause-rise
refill-requires-clause-rise c = subst (λ (l : List RunEnd). IsNonDecreasingBy run_phase l) (sym c.as_slice-runs.ensures.value) c.requires.rise

pub refill-requires-clause-few : goal.refill-requires-clause-few
refill-requires-clause-few c = subst (λ (l : List RunEnd). length l < 2 ^ 32 - 1) (sym c.as_slice-runs.ensures.value) c.requires.few

use Rattle.std.proofs.Common.{◌≡◌, false, take}
use Rattle.std.specs.List.{list_any}
use Rattle.process_code.specs.declared.state.ProcState.{ProcState as StateKept}
use Rattle.moment_parts.specs.Turned.{at_postponed}
use Rattle.moment_parts.proofs.turning.some_postponed.Given as goal

abbrev pub invariant-states : goal.invariant-states
invariant-states l = list_any (λ (state : StateKept). at_postponed state.stage) (take l.state-index l.states) ≡ false

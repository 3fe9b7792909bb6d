use Rattle.std.proofs.Common.{◌≡◌, List, take}
use Rattle.std.specs.Prelude.{count_by, sum_by}
use Rattle.causal_monitor.specs.declared.slot.Actor.{Actor}
use Rattle.good_trace.specs.Counted.{is_step}
use Rattle.good_trace.proofs.slot.count_steps.Given as goal

abbrev pub invariant-phases : goal.invariant-phases
invariant-phases l = l.steps ≡ sum_by (λ (actors : List Actor). count_by is_step actors) (take l.actors-index l.phases)

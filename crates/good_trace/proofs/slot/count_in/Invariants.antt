use Rattle.std.proofs.Common.{◌≡◌, take}
use Rattle.std.specs.Prelude.{count_by}
use Rattle.good_trace.specs.Counted.{is_step}
use Rattle.good_trace.proofs.slot.count_in.Given as goal

abbrev pub invariant-actors : goal.invariant-actors
invariant-actors l = l.steps ≡ count_by is_step (take l.actor-index l.actors)

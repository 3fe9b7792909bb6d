use Rattle.std.proofs.Common.{map}
use Rattle.window_wakes.specs.Wakes.{wake_of}
use Rattle.window_wakes.proofs.Phases.{AreGathered}
use Rattle.window_wakes.proofs.gathering.push_slot.Given as goal

abbrev pub invariant-phases : goal.invariant-phases
invariant-phases l = AreGathered l.first l.moment l.number l.log.actors l.log.phases (map wake_of l.fn.wakes.items) (map wake_of l.wakes.items)

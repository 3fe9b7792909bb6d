use Rattle.std.proofs.Common.{map, take}
use Rattle.vf_base.specs.Base.{object_number}
use Rattle.reach_search.specs.Reach.{ReachesAllToo}
use Rattle.reach_search.proofs.reached.Reached.add_all.Given as goal

abbrev pub invariant-objects : goal.invariant-objects
invariant-objects l = ReachesAllToo (map object_number (take l.object-index l.objects)) l.initial.self l.self

use Rattle.std.proofs.Common.{◌≡◌, length, map, take}
use Rattle.strobe_detect.specs.declared.hard.Hard.{Hard}
use Rattle.vf_pick.proofs.counts.count_strobes.Given as goal

abbrev pub invariant-faults : goal.invariant-faults
invariant-faults l = l.counts.items ≡ map (λ (one : Hard). length one.times) (take l.one-index l.hard)

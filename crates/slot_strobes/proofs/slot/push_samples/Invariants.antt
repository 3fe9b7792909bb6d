-- The samples at the strobes so far stand behind the others.
use Rattle.std.proofs.Common.{◌≡◌, ◌++◌, map, take}
use Rattle.kept_samples.specs.Plain.{sample_of}
use Rattle.slot_strobes.specs.Counts.{samples_of}
use Rattle.slot_strobes.proofs.slot.push_samples.Given as goal

abbrev pub invariant-strobes : goal.invariant-strobes
invariant-strobes l = map sample_of l.kept.items ≡ map sample_of l.fn.kept.items ++ samples_of l.bits (take l.strobe-index l.strobes)

use Rattle.std.proofs.Common.{sym}
use Rattle.driver_checks.specs.Overlaps.{bits_of, among-none}
use Rattle.driver_checks.proofs.OverlapTurns.{taken-turn}
use Rattle.driver_checks.proofs.overlap.least_taken.Goals as goal

pub taken-init : goal.taken-init
taken-init c = sym (among-none (bits_of c.args.bits))

pub taken-preserved : goal.taken-preserved
taken-preserved c =
    taken-turn c.args.taken.now c.taken.run-index c.run-item.result (bits_of c.args.bits) c.taken.least c.shared_bit.result _ c.taken-test.true c.run-item.is c.taken.invariant c.shared_bit.ensures
    c.lesser-least.ensures

use Rattle.std.proofs.Common.{◌-◌, sym, ◌∙◌}
use Rattle.v_design.specs.Expressions.{up_from}
use Rattle.v_ports.specs.Cuts.{first_owned}
use Rattle.v_ports.proofs.Cutting.{first-goes}
use Rattle.v_ports.proofs.cut.least_taken.Goals as goal

pub bits-preserved : goal.bits-preserved
bits-preserved c =
    first-goes c.args.owners.now c.bits.bit c.args.end (first_owned c.args.owners.now (up_from c.args.low (c.args.end - c.args.low))) c.bits-test.true
    (sym c.is_some.ensures ∙ c.if-is_some.false) c.bits.invariant

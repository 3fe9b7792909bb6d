use Rattle.std.proofs.Common.{◌-◌, Some, ◌∙◌}
use Rattle.std.proofs.lemmas.List.{length-set}
use Rattle.v_design.specs.Expressions.{up_from}
use Rattle.v_ports.specs.Cuts.{owned_after}
use Rattle.v_ports.proofs.Cutting.{owned-goes}
use Rattle.v_ports.proofs.cut.take_bits.Goals as goal

pub bits-preserved : goal.bits-preserved
bits-preserved c = record {
  long = length-set c.bits.owners.items c.bits.bit (Some c.args.number) ∙ c.bits.invariant.long;
  taken =
      owned-goes c.args.number c.bits.bit c.args.end c.bits.owners.items (owned_after c.args.number c.args.owners.now.items (up_from c.args.low (c.args.end - c.args.low))) c.bits-test.true
      c.bits.invariant.taken;
}

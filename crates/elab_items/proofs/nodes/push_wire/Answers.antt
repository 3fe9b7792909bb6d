use Rattle.std.proofs.Common.{sym, subst}
use Rattle.select_bits.specs.Runs.{TargetTakesRuns}
use Rattle.elab_items.proofs.nodes.push_wire.Goals as goal

pub assign_part-requires : goal.assign_part-requires
assign_part-requires c = subst (TargetTakesRuns c.args.here.now.scope.value) (sym c.in_ok-target-in-Some.ensures) (tt, tt)

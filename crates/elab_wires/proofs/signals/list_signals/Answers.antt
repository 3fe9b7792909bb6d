use Rattle.std.proofs.Common.{[]}
use Rattle.v_elab.specs.Drivers.{signals_of}
use Rattle.elab_parts.specs.PartViews.{part_of}
use Rattle.elab_wires.specs.Turns.{turn}
use Rattle.elab_wires.specs.PartLists.{signals-append}
use Rattle.elab_wires.proofs.signals.list_signals.Goals as goal

pub parts-preserved : goal.parts-preserved
parts-preserved c = record {
  listed = turn part_of signals_of signals-append c.args.parts.now c.parts.part-index c.part-item.result [] _ _ c.parts-test.true c.part-item.is c.parts.invariant.listed
      c.in_ok-push_signal.ensures.listed;
  own = c.in_ok-push_signal.ensures.own;
}

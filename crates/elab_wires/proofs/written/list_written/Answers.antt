use Rattle.elab_wires.proofs.WrittenTurns.{written-turn}
use Rattle.elab_wires.proofs.written.list_written.Goals as goal

pub parts-preserved : goal.parts-preserved
parts-preserved c = written-turn c.args.parts.now c.parts.number c.index-parts-number.result _ _ c.parts-test.true c.index-parts-number.is c.parts.invariant c.in_ok-push_written.ensures

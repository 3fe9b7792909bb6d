use Rattle.std.proofs.Common.{map}
use Rattle.elab_parts.specs.PartViews.{process_of}
use Rattle.elab_wires.specs.WrittenNames.{written_of, written_by}
use Rattle.elab_wires.specs.Assigned.{variables_among}
use Rattle.elab_wires.specs.Turns.{turn-at}
use Rattle.elab_wires.proofs.WrittenTurns.{variables-append}
use Rattle.elab_wires.proofs.written.push_variables_among.Goals as goal

pub names-preserved : goal.names-preserved
names-preserved c =
    turn-at (λ n. n.now) (λ ns. written_by c.args.part (variables_among (process_of c.args.process.now) ns))
    (variables-append c.args.part (process_of c.args.process.now)) c.args.names.now c.names.name-index _
    (map written_of c.args.written.now.items) _ _ c.names-test.true c.names.invariant c.in_ok-push_variable.ensures

use Rattle.v_elab.specs.Drivers.{nodes_of, processes_of}
use Rattle.elab_parts.specs.PartViews.{parts_of}
use Rattle.elab_behaviours.proofs.BehaviourTurns.{nodes-append, processes-append, part-turn}
use Rattle.elab_behaviours.proofs.behaviours.behaviours_of.Goals as goal

pub parts-preserved : goal.parts-preserved
parts-preserved c =
    let parts = parts_of c.args.wiring.now.parts.now in
    record {
      nodes = part-turn nodes_of nodes-append parts c.args.wiring.now.parts.now c.parts.number c.part-item.result _ _ c.parts-test.true c.part-item.is c.parts.invariant.nodes
          c.in_ok-push_part.ensures.nodes;
      processes = part-turn processes_of processes-append parts c.args.wiring.now.parts.now c.parts.number c.part-item.result _ _ c.parts-test.true c.part-item.is c.parts.invariant.processes
          c.in_ok-push_part.ensures.processes;
    }

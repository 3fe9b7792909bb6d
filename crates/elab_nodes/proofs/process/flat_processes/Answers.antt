use Rattle.std.proofs.Common.{◌++◌, ◌∷◌, [], map, ap, sym, ◌∙◌}
use Rattle.std.proofs.lemmas.List.{map_push}
use Rattle.v_design.specs.Plain.{process_of}
use Rattle.v_elab.specs.Parts.{WalkedProcess}
use Rattle.v_elab.specs.Flat.{meaning_in, flat_process}
use Rattle.object_reads.specs.SizedReads.{holds-at}
use Rattle.object_statements.specs.Texts.{IsSizedText}
use Rattle.elab_parts.specs.BehaviourViews.{process_in}
use Rattle.elab_nodes.proofs.Turns.{push-turn, here}
use Rattle.elab_nodes.proofs.process.flat_processes.Goals as goal

pub processes-preserved : goal.processes-preserved
processes-preserved c parts objects are =
    push-turn (map process_of c.processes.flats.items) _ (flat_process parts objects (process_in c.process-item.result)) _ _ _
    (ap (map process_of) c.in_ok-push.ensures.items ∙ (map_push process_of c.processes.flats.items _
    ∙ ap (λ p. map process_of c.processes.flats.items ++ p ∷ []) (c.in_ok-flat_process.ensures parts objects are)))
    (ap (λ l. map (flat_process parts objects) (map process_in l)) (here c.args.processes.now c.processes.process-index c.process-item.result c.processes-test.true (sym c.process-item.is)))
    (c.processes.invariant parts objects are)

pub flat_process-requires : goal.flat_process-requires
flat_process-requires c =
    let over = c.requires in
    record {
      parts = over.parts;
      objects = over.objects;
      basis_is = over.basis_is;
      sized = (
        holds-at (λ (process : WalkedProcess). IsSizedText (meaning_in over.parts over.objects process) process.body) process_in c.args.processes.now c.processes.process-index c.process-item.result
            over.sized c.processes-test.true c.process-item.is,
        tt,
      );
    }

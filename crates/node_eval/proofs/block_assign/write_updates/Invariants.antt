use Rattle.std.proofs.Common.{◌≡◌, take, map, fold}
use Rattle.std.specs.Prelude.{option_map}
use Rattle.v_design.specs.Plain.{update_of}
use Rattle.v_design.specs.Assignments.{updated}
use Rattle.node_eval.specs.Overlaid.{overlaid}
use Rattle.node_eval.proofs.block_assign.write_updates.Given as goal

abbrev pub invariant-updates : goal.invariant-updates
invariant-updates g l = overlaid l.frame.outputs.now l.held (g.V.Values.values l.frame.values.now) ≡ fold updated (overlaid l.frame.outputs.now l.fn.held (g.V.Values.values l.frame.values.now))
    (map (option_map update_of) (take l.update-index l.updates))

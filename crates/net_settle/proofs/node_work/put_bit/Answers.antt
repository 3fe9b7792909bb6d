use Rattle.std.proofs.Common.{rules, ◌≡◌, ◌<◌, ◌≤◌, [], ◌∷◌, length, ap, sym, ◌∙◌, arith}
use Rattle.vf_base.specs.Base.{object_number, node_number}
use Rattle.v_design.specs.Designs.{forced_output}
use Rattle.v_design.specs.Views.{machine_of}
use Rattle.net_settle.specs.NodeLaws.{put-first}
use Rattle.net_settle.proofs.node_work.put_bit.Goals as goal

pub returns-else-is_empty-clause-put : goal.returns-else-is_empty-clause-put
returns-else-is_empty-clause-put c =
    let some : 0 < length c.args.outputs.now = search rules in
    put-first (forced_output (machine_of c.args.view.now).fault (node_number c.args.node)) c.args.outputs.now c.args.work.now.results.items (c.args.bit ∷ []) c.forced_output.result _ some
    (search rules)
    (c.forced_output.ensures ∙ ap (forced_output (machine_of c.args.view.now).fault (node_number c.args.node) _) c.of_bit.ensures)

use Rattle.std.proofs.Common.{map, subst, sym, arith}
use Rattle.std.specs.Prelude.{option_map}
use Rattle.std.proofs.lemmas.List.{get_or-map, length-map}
use Rattle.vf_base.specs.Base.{object_number}
use Rattle.v_design.specs.Plain.{update_of}
use Rattle.expr_eval.specs.WidthLaws.{AllHold-get_or}
use Rattle.node_eval.specs.WriteLaws.{IsAmong}
use Rattle.node_eval.proofs.block_assign.write_updates.Goals as goal

pub write_update-requires-clause-among : goal.write_update-requires-clause-among
write_update-requires-clause-among g c =
    let objects = map object_number c.args.frame.now.outputs.now in
    let own = option_map update_of c.update-item.result in
    subst (λ u. IsAmong (map object_number c.args.frame.now.outputs.now) (option_map update_of u)) (sym c.update-item.is)
    (subst (IsAmong (map object_number c.args.frame.now.outputs.now))
    (get_or-map (option_map update_of) c.args.updates.now c.updates.update-index c.update-item.result own c.updates-test.true)
    (AllHold-get_or (IsAmong objects) (map (option_map update_of) c.args.updates.now) c.updates.update-index own c.requires.among
    (omega (arith, c.updates-test.true, length-map c.args.updates.now (option_map update_of)))))

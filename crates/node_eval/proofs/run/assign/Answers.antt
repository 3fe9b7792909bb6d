use Rattle.std.proofs.Common.{sym, subst, map}
use Rattle.std.specs.Prelude.{option_map}
use Rattle.vf_base.specs.Base.{object_number}
use Rattle.vf_base.specs.Lists.{AllHold}
use Rattle.v_design.specs.Plain.{target_of, update_of}
use Rattle.node_eval.specs.WriteLaws.{IsAmong, targets-among}
use Rattle.node_eval.proofs.run.assign.Goals as goal

pub write_updates-requires-clause-among : goal.write_updates-requires-clause-among
write_updates-requires-clause-among g c =
    let objects = map object_number c.args.frame.now.outputs.now in
    subst (λ l. AllHold (IsAmong (map object_number c.args.frame.now.outputs.now)) (map (option_map update_of) l)) (sym c.deref.ensures.value)
    (subst (AllHold (IsAmong (map object_number c.args.frame.now.outputs.now))) (sym c.find_over.ensures)
    (targets-among objects c.args.place.line (map target_of c.args.targets.now) _ c.eval_over-bits.result c.requires.written))

use Rattle.std.proofs.Common.{rules, inr, sym, ap, arith}
use Rattle.vf_base.specs.Base.{object_number}
use Rattle.v_elab.specs.Flat.{NodeOutput}
use Rattle.std.proofs.lemmas.List.{length-map}
use Rattle.elab_objects.specs.ObjectViews.{driver_of}
use Rattle.object_names.specs.OutputViews.{outputs_seen, output_lists}
use Rattle.object_names.proofs.OutputTurns.{put-past, output-put}
use Rattle.object_names.proofs.outputs.push_output.Goals as goal

pub returns-in_ok-push : goal.returns-in_ok-push
returns-in_ok-push c =
    output-put c.args.outputs.now.items c.index_mut.result.now c.push.new.self _ (object_number c.args.object) (driver_of c.args.driver)
    (omega (arith, c.if-driver-len.true, c.len.ensures)) c.index_mut.ensures.value c.in_ok-push.ensures.items
    (ap (λ place. let o : NodeOutput = record { object = object_number c.args.object; place = place } in o) (search rules))

pub returns-else-driver-len : goal.returns-else-driver-len
returns-else-driver-len c =
    let long = length-map c.args.outputs.now.items outputs_seen in
    sym (put-past (output_lists c.args.outputs.now.items) 0 (object_number c.args.object) (driver_of c.args.driver) (inr (omega (arith, c.if-driver-len.false, c.len.ensures, long))))

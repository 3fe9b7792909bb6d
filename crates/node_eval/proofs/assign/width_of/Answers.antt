use Rattle.std.proofs.Common.{rules, ◌≡◌, ◌<◌, ap, ◌∙◌, length, arith}
use Rattle.std.proofs.lemmas.List.{length-map}
use Rattle.v_design.specs.Plain.{object_of}
use Rattle.node_eval.specs.ValuesOf.{width_in-read}
use Rattle.node_eval.proofs.assign.width_of.Goals as goal

pub returns : goal.returns
returns c =
    width_in-read c.args.design.now.objects c.as_slice.result.now c.args.object.0 c.index-as_slice-object.result c.as_slice.ensures
    (omega (arith, ap length c.as_slice.ensures, length-map c.args.design.now.objects object_of))

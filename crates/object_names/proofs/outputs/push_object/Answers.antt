use Rattle.std.proofs.Common.{option_map, sym, ap, ◌∙◌}
use Rattle.vf_base.specs.Base.{object_number}
use Rattle.elab_objects.specs.ObjectViews.{driver_of}
use Rattle.object_names.specs.OutputViews.{output_lists, with_output}
use Rattle.object_names.proofs.OutputTurns.{put-nothing}
use Rattle.object_names.proofs.outputs.push_object.Goals as goal

pub returns-in-None : goal.returns-in-None
returns-in-None c =
    put-nothing (output_lists c.args.outputs.now.items) 0 (object_number c.args.object) ∙ ap
    (λ d. with_output (object_number c.args.object) (option_map driver_of d) (output_lists c.args.outputs.now.items)) (sym c.in-None.is)

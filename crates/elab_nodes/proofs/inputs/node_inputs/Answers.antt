use Rattle.std.proofs.Common.{map, ap, ◌∙◌}
use Rattle.std.specs.Prelude.{filter}
use Rattle.vf_base.specs.Base.{object_number}
use Rattle.vf_base.specs.Lists.{has}
use Rattle.v_design.specs.Expressions.{up_from}
use Rattle.v_design.specs.Plain.{node_kind_of}
use Rattle.object_names.specs.OutputViews.{output_of}
use Rattle.elab_nodes.specs.Inputs.{objects_written, own_objects, is_other, reads-others, others-alike}
use Rattle.elab_nodes.proofs.inputs.node_inputs.Goals as goal

pub returns : goal.returns
returns c =
    let outputs = objects_written (map output_of c.args.outputs.now) in
    let kind = node_kind_of c.args.kind.now in
    let reads = c.in_ok-read.ensures
    ∙ (ap (λ l. filter (is_other c.in_ok-own.own) (map object_number l)) c.deref.ensures.value
    ∙ (ap (filter (is_other c.in_ok-own.own)) c.in_ok-named.ensures
    ∙ (others-alike c.in_ok-own.own (own_objects kind outputs) _ c.in_ok-own.ensures ∙ reads-others kind outputs))) in
    c.in_ok-inputs.ensures ∙ ap (λ l. filter (has l) (up_from 0 c.args.objects)) (ap (map object_number) c.deref-2.ensures.value ∙ reads)

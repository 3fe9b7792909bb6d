use Rattle.std.proofs.Common.{◌∙◌, sym, ap}
use Rattle.v_design.specs.declared.plan.Object.{Object}
use Rattle.fault_list.proofs.Growing.{width-in}
use Rattle.fault_list.proofs.list.width_of.Goals as goal

pub returns : goal.returns
returns c =
    c.from.ensures ∙ (ap (λ (x : Object). x.width) (sym c.index-objects-place.is)
    ∙ sym (width-in c.args.design.now.objects c.as_slice-objects.result.now c.args.object.0 c.index-objects-place.result c.as_slice-objects.ensures c.if-place-objects.false c.index-objects-place.is))

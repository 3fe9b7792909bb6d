use Rattle.std.proofs.Common.{ap}
use Rattle.std.proofs.lemmas.Option.{get_or_from_slice_get}
use Rattle.v_design.specs.declared.plan.Object.{Object}
use Rattle.node_order.proofs.order.declared_at.Goals as goal

pub returns : goal.returns
returns c = λ o at. ap (λ (found : Object). found.place) (get_or_from_slice_get c.args.objects.now c.args.object.0 o c.index-objects-object.result at)

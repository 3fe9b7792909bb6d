-- One object more is there.
use Rattle.std.proofs.Common.{◌<◌, ◌∙◌}
use Rattle.vf_base.specs.Base.{object_number}
use Rattle.vf_base.specs.declared.ids.ObjectId.{ObjectId}
use Rattle.block_compare.proofs.Same.{all-taken, one-more}
use Rattle.block_compare.proofs.alike.are_objects.Goals as goal

abbrev none : ObjectId
none = record { 0 = 0 }

pub objects-preserved : goal.objects-preserved
objects-preserved c =
    one-more object_number (λ object. object < c.args.count) c.args.objects.now c.objects.place none c.objects-test.true c.objects.invariant c.if-objects-place.false

pub returns : goal.returns
returns c = λ yes object there. c.objects.invariant object (all-taken object_number c.args.objects.now c.objects.place object c.objects-test.false ∙ there)

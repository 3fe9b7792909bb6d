use Rattle.std.proofs.Common.{sym, ◌∙◌, refl}
use Rattle.v_design.specs.PlainDesigns.{design_of}
use Rattle.cert_text.proofs.Objects.{objects-first, objects-found, objects-more}
use Rattle.cert_text.proofs.object.is_object.Goals as goal

pub objects-init : goal.objects-init
objects-init c = objects-first (design_of c.args.design.now) c.args.word.now c.args.design.now.objects c.as_slice-objects.result.now refl c.as_slice-objects.ensures

pub returns-then-branch : goal.returns-then-branch
returns-then-branch c =
    objects-found (design_of c.args.design.now) c.args.word.now c.as_slice-objects.result.now c.objects.object-index c.object-item.result c.objects-test.true c.object-item.is
    c.objects.invariant (sym c.in_ok-prints_as.ensures ∙ c.if-branch.true)

pub objects-preserved : goal.objects-preserved
objects-preserved c =
    objects-more (design_of c.args.design.now) c.args.word.now c.as_slice-objects.result.now c.objects.object-index c.object-item.result c.objects-test.true c.object-item.is
    c.objects.invariant (sym c.in_ok-prints_as.ensures ∙ c.if-branch.false)

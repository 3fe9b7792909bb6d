use Rattle.std.proofs.Common.{◌≡◌, ◌∙◌, ap, rules}
use Rattle.v_design.specs.Plain.{object_of}
use Rattle.plan_read.specs.Stems.{stem, object_key}
use Rattle.key_index.specs.KeyLists.{keys-more}
use Rattle.plan_read.proofs.keys.object_keys.Goals as goal

pub objects-preserved : goal.objects-preserved
objects-preserved c = record {
  keys = keys-more object_of object_key c.args.objects.now c.objects.object-index c.object-item.result _ _ _ c.objects-test.true c.object-item.is c.objects.invariant.keys c.in_ok-push.ensures.items
      (c.stem.ensures ∙ ap stem c.as_bytes.ensures);
  len = search rules;
}

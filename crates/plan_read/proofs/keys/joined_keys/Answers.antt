use Rattle.std.proofs.Common.{◌≡◌, ◌∙◌, ap, rules}
use Rattle.v_design.specs.Plain.{name_joined}
use Rattle.plan_read.specs.Stems.{stem, joined_key}
use Rattle.key_index.specs.KeyLists.{keys-more}
use Rattle.plan_read.proofs.keys.joined_keys.Goals as goal

pub names-preserved : goal.names-preserved
names-preserved c = record {
  keys = keys-more name_joined joined_key c.args.names.now c.names.name-index c.name-item.result _ _ _ c.names-test.true c.name-item.is c.names.invariant.keys c.in_ok-push.ensures.items
      (c.stem.ensures ∙ ap stem c.as_bytes.ensures);
  len = search rules;
}

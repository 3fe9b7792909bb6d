use Rattle.std.proofs.Common.{◌≡◌, map, take, vec_len}
use Rattle.v_design.specs.Plain.{object_of}
use Rattle.key_index.specs.Places.{keys_of}
use Rattle.plan_read.specs.Stems.{object_key}
use Rattle.plan_read.proofs.keys.object_keys.Given as goal

abbrev pub invariant-objects : goal.invariant-objects
invariant-objects l = record {
  keys : keys_of l.keys.items ≡ map object_key (map object_of (take l.object-index l.objects));
  len : vec_len l.keys ≡ l.object-index;
}

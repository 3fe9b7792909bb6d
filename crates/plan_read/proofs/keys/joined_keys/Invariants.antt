use Rattle.std.proofs.Common.{◌≡◌, map, take, vec_len}
use Rattle.v_design.specs.Plain.{name_joined}
use Rattle.key_index.specs.Places.{keys_of}
use Rattle.plan_read.specs.Stems.{joined_key}
use Rattle.plan_read.proofs.keys.joined_keys.Given as goal

abbrev pub invariant-names : goal.invariant-names
invariant-names l = record {
  keys : keys_of l.keys.items ≡ map joined_key (map name_joined (take l.name-index l.names));
  len : vec_len l.keys ≡ l.name-index;
}

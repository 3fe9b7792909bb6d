use Rattle.std.proofs.Common.{◌≡◌, ◌<◌, ℕ, take, map, vec_len, Some, None}
use Rattle.std.specs.Prelude.{slice_index_or, if◌then◌else◌}
use Rattle.vf_base.specs.Base.{object_number}
use Rattle.vf_base.specs.Lists.{has}
use Rattle.plan_read.proofs.drivers.note_outputs.Given as goal

abbrev pub invariant-outputs : goal.invariant-outputs
invariant-outputs l = record {
  len : vec_len l.drivers ≡ vec_len l.initial.drivers;
  noted : (object : ℕ) → object < vec_len l.initial.drivers → slice_index_or l.drivers.items object None ≡
      (if has (map object_number (take l.output-index l.outputs)) object then Some l.node else slice_index_or l.initial.drivers.items object None);
}

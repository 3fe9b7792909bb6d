use Rattle.std.proofs.Common.{◌≡◌, ◌-◌, ◌≤◌, ◌++◌, map, drop}
use Rattle.std.specs.Prelude.{filter}
use Rattle.vf_base.specs.Base.{object_number}
use Rattle.vf_base.specs.Lists.{has}
use Rattle.v_design.specs.Expressions.{up_from}
use Rattle.object_reads.proofs.inputs.objects_among.Given as goal

-- what was found, and among what is left those from the next number on
abbrev pub invariant-numbers : goal.invariant-numbers
invariant-numbers l = record {
  low : l.next ≤ l.count;
  left : map object_number l.among.items ++ filter (has (drop l.number-index l.number-items)) (up_from l.next (l.count - l.next)) ≡ filter (has l.number-items) (up_from 0 l.count);
}

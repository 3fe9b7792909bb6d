-- So many shards.
use Rattle.std.proofs.Common.{◌≡◌, ◌*◌, take}
use Rattle.fault_shards.specs.Shards.{representatives_of}
use Rattle.dict_windows.specs.Faults.{HaveGone, faults_in}
use Rattle.dict_windows.proofs.faults.begin_shards.Given as goal

abbrev pub invariant-numbers : goal.invariant-numbers
invariant-numbers g l = record {
  gone : HaveGone 0 l.own.items;
  faults : faults_in l.own.items ≡ take (32 * l.number) (representatives_of l.shards);
}

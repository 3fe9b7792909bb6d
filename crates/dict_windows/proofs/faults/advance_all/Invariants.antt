-- So many shards have gone through the window.
use Rattle.std.proofs.Common.{◌≡◌, length}
use Rattle.kept_shard.specs.Keeping.{KeepingShard}
use Rattle.own_gradings.specs.Numbers.{RisesOwn}
use Rattle.dict_windows.specs.Faults.{all_steps, faults_in}
use Rattle.dict_windows.proofs.Shards.{HavePassed}
use Rattle.dict_windows.proofs.faults.advance_all.Given as goal

abbrev pub invariant-shards : goal.invariant-shards
invariant-shards g l = record {
  count : length l.shards.items ≡ length l.initial.shards.items;
  faults : faults_in l.shards.items ≡ faults_in l.initial.shards.items;
  passed : HavePassed (λ (own : KeepingShard). own.gone ≡ l.window.before) (λ (own : KeepingShard). own.gone ≡ l.window.through) l.place l.shards.items;
  ticks : RisesOwn g.N.World.design g.N.World.plan (λ tally. all_steps tally l.initial.shards.items) (λ tally. all_steps tally l.shards.items) l.fn.steps l.steps;
}

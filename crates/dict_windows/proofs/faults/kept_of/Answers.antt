-- Shard by shard.
use Rattle.std.proofs.Common.{◌≡◌, ◌+◌, ◌≤◌, ◌∷◌, ◌++◌, List, length, subst}
use Rattle.std.specs.Prelude.{sum_by}
use Rattle.std.specs.Vec.Iter.{into_iter_items}
use Rattle.std.proofs.lemmas.List.Elements.{All-tail}
use Rattle.copy_laws.specs.Windows.{good_slots}
use Rattle.kept_shard.specs.Keeping.{KeepingShard, full_steps_at, numbers_of}
use Rattle.dict_windows.specs.Faults.{HaveGone, all_steps, faults_in}
use Rattle.dict_windows.proofs.Shards.{kept-more, steps-more}
use Rattle.dict_windows.proofs.faults.kept_of.Goals as goal

pub shards-preserved : goal.shards-preserved
shards-preserved g c =
    let design = g.N.World.design in
    let plan = g.N.World.plan in
    let all = c.args.shards.items in
    let before = c.shards.kept.items in
    let after = c.push_kept.new.kept.items in
    let rest = into_iter_items c.next.new.self in
    let next : into_iter_items c.shards.shard-iterator ≡ c.in-Some.shard ∷ rest = c.in-Some.ensures.steps.0 in
    record {
      gone =
          All-tail (λ (own : KeepingShard). own.gone ≡ length (good_slots design plan)) c.in-Some.shard rest
          (subst (HaveGone (length (good_slots design plan))) next c.shards.invariant.gone);
      faults =
          kept-more (faults_in all) before after c.in-Some.shard rest (subst (λ (l : List KeepingShard). faults_in all ≡ numbers_of before ++ faults_in l) next c.shards.invariant.faults)
          c.in_ok-push_kept.ensures.faults;
      whole = c.in_ok-push_kept.ensures.whole c.shards.invariant.whole;
      steps = λ tally.
          steps-more design plan tally (all_steps tally all) before after c.in-Some.shard rest
          (subst (λ (l : List KeepingShard). all_steps tally all ≤ sum_by (full_steps_at tally) (numbers_of before) + all_steps tally l) next (c.shards.invariant.steps tally))
          (c.in_ok-push_kept.ensures.steps tally) c.in_ok-push_kept.ensures.faults;
    }

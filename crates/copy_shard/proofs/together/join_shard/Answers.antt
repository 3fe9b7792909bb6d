-- Its faults stand behind the others.
use Rattle.std.proofs.Common.{◌≡◌, true, false, sym, ap, subst, ◌∙◌}
use Rattle.std.specs.List.{list_any}
use Rattle.vf_base.specs.Lists.{AllHold}
use Rattle.shard_windows.specs.copy_window.ShardFaults.{IsShardFault}
use Rattle.shard_windows.specs.Reached.{HasReachedIfOpen, is_open}
use Rattle.copy_shard.proofs.Joining.{joined-reaches, joined-stand}
use Rattle.copy_shard.proofs.together.join_shard.Goals as goal

pub returns : goal.returns
returns g c =
    let design = g.N.World.design in
    let plan = g.N.World.plan in
    let gone = c.args.shard.gone in
    let parts = c.into_parts-numbers.result in
    let faults = c.args.faults.now.items in
    let part = parts.faults.items in
    let joined = c.reached_by-joined.result in
    let seen = c.deref.ensures.value in
    let open_is : list_any is_open part ≡ true → joined ≡ parts.reached = λ some. c.reached_by-joined.ensures.open (ap (list_any is_open) seen ∙ some) in
    let ended_is : list_any is_open part ≡ false → joined ≡ c.args.reached = λ none. c.reached_by-joined.ensures.ended (ap (list_any is_open) seen ∙ none) in
    let shard = c.into_parts-numbers.ensures.stands in
    record {
      part = part;
      behind = c.in_ok-append.ensures.items;
      seen = c.into_parts-numbers.ensures.seen;
      numbers_are = shard.numbers_are;
      judged = shard.judged;
      reaches = subst (HasReachedIfOpen design plan gone joined) (sym c.in_ok-append.ensures.items)
          (joined-reaches design plan gone faults part c.args.reached parts.reached joined open_is ended_is c.requires.reached c.requires.faults shard.reaches shard.each);
      each = subst (AllHold (IsShardFault design plan gone joined.passed)) (sym c.in_ok-append.ensures.items)
          (joined-stand design plan gone faults part c.args.reached parts.reached joined open_is ended_is c.requires.reached c.requires.faults shard.reaches shard.each);
    }

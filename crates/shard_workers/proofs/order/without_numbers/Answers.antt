-- All are taken out, in order.
use Rattle.std.proofs.Common.{rules, map, ap, sym, ◌∙◌, map-id}
use Rattle.std.proofs.lemmas.Iterator.Consumers.{YieldsList-end}
use Rattle.std.proofs.lemmas.Iterator.Adapters.{YieldsList-from_vec}
use Rattle.shard_workers.specs.Ordered.{claimed_shard}
use Rattle.shard_workers.proofs.order.without_numbers.Goals as goal

pub returns : goal.returns
returns g c =
    let end = YieldsList-end (YieldsList-from_vec {s = c.into_iter-one-iterator.result} c.args.claimed.items (search rules) (search rules))
    c.claimed.yielded c.claimed.one-iterator c.claimed.yielded_by c.next.result c.next.new.self c.in-None.is c.next.ensures.steps in
    c.claimed.invariant ∙ ap (map claimed_shard) (sym (map-id c.claimed.yielded) ∙ end.0)

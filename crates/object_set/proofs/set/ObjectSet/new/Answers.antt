use Rattle.std.proofs.Common.{rules, arith, ◌≡◌, false, replicate}
use Rattle.object_set.proofs.Tables.{IsOrdered-new}
use Rattle.object_set.proofs.set.ObjectSet.new.Goals as goal

pub invariant_of-result : goal.invariant_of-result
invariant_of-result c =
    let blank : c.in_ok-members.members.items ≡ replicate c.args.bound false = search rules in
    IsOrdered-new c.in_ok-members.members.items c.in_ok-order.order.items c.args.bound blank (omega (arith, c.in_ok-order.ensures.len, c.in_ok-order.order.ok.0))

-- All are the empty one.
use Rattle.std.proofs.Common.{◌≡◌, replicate, rules, sym, subst}
use Rattle.next_touches.specs.Touches.{AreUnknown, no_stretch}
use Rattle.next_touches.proofs.Known.{unknown-all}
use Rattle.next_touches.proofs.table.unknown.Goals as goal

pub returns : goal.returns
returns c =
    let blank : c.in_ok-stretches.stretches.items ≡ replicate c.args.count no_stretch = search (rules, c.no_stretch-none.ensures) in
    subst (AreUnknown c.args.count) (sym blank) (unknown-all c.args.count)

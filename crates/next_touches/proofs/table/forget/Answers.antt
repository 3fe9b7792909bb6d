-- One after the other.
use Rattle.std.proofs.Common.{arith}
use Rattle.next_touches.proofs.Known.{forgotten-all, forgotten-more, forgotten-none}
use Rattle.next_touches.proofs.table.forget.Goals as goal

pub stretches-init : goal.stretches-init
stretches-init c = forgotten-none c.args.stretches.now.items

pub stretches-preserved : goal.stretches-preserved
stretches-preserved c =
    forgotten-more c.stretches.place c.args.stretches.now.items c.stretches.stretches.items c.no_stretch-none.result c.no_stretch-none.ensures
    (omega (arith, c.stretches-test.true, c.len-place-end.ensures, c.stretches.invariant.count_is)) c.stretches.invariant

pub returns : goal.returns
returns c =
    forgotten-all c.stretches.place c.args.stretches.now.items c.stretches.stretches.items (omega (arith, c.stretches-test.false, c.len-place-end.ensures)) c.stretches.invariant

use Rattle.std.proofs.Common.{◌≡◌, ◌+◌, min, max, Some, sym, ap, ◌∙◌, arith, rules}
use Rattle.driver_checks.specs.Overlaps.{runs-share, runs-apart}
use Rattle.driver_checks.proofs.overlap.shared_bit.Goals as goal

pub returns-then-low-end : goal.returns-then-low-end
returns-then-low-end c =
    let low : c.max-low.result ≡ max c.args.one.low c.args.other.low = search rules in
    let end : c.min-end.result ≡ min (c.args.one.low + c.args.one.width) (c.args.other.low + c.args.other.width) = search rules in
    ap Some low ∙ sym (runs-share c.args.one.low c.args.one.width c.args.other.low c.args.other.width (omega arith))

pub returns-else-low-end : goal.returns-else-low-end
returns-else-low-end c =
    let low : c.max-low.result ≡ max c.args.one.low c.args.other.low = search rules in
    let end : c.min-end.result ≡ min (c.args.one.low + c.args.one.width) (c.args.other.low + c.args.other.width) = search rules in
    sym (runs-apart c.args.one.low c.args.one.width c.args.other.low c.args.other.width (omega arith))

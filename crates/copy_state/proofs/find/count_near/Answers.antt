-- The entries beside the place tell of all others.
use Rattle.std.proofs.Common.{arith}
use Rattle.copy_state.specs.Listed.{numbers_of}
use Rattle.copy_state.proofs.ListLaws.{all-before, all-behind, count-numbers}
use Rattle.copy_state.proofs.find.count_near.Goals as goal

pub returns-clause-before : goal.returns-clause-before
returns-clause-before g c =
    let long = count-numbers c.args.entries.now in
    all-before (numbers_of c.args.entries.now) c.args.hint c.args.number c.requires (omega (arith, long, c.if-entries-hint.false)) (c.is_behind.ensures c.if-not-is_behind.false)

pub returns-clause-after : goal.returns-clause-after
returns-clause-after g c place past inside =
    let long = count-numbers c.args.entries.now in
    all-behind (numbers_of c.args.entries.now) c.args.hint c.args.number c.requires (λ low. c.is_ahead.ensures c.if-not-is_ahead.false (omega (arith, low, long))) place past (omega (arith, inside, long))

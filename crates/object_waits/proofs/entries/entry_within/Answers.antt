use Rattle.std.proofs.Common.{arith}
use Rattle.v_design.specs.Plain.{piece_of}
use Rattle.object_waits.proofs.Runs.{entry_some, entry_none}
use Rattle.object_waits.proofs.entries.entry_within.Goals as goal

pub returns-then-first-end-clause-some : goal.returns-then-first-end-clause-some
returns-then-first-end-clause-some c =
    entry_some c.args.edge (piece_of c.args.piece.now) c.args.offset c.args.low c.args.width c.max-first.result c.min-end.result
    (omega (arith, c.max-first.ensures, c.from.ensures)) (omega (arith, c.min-end.ensures, c.from-2.ensures, c.from-3.ensures, c.from-4.ensures)) (omega (arith, c.if-first-end.true))

pub returns-else-first-end-clause-none : goal.returns-else-first-end-clause-none
returns-else-first-end-clause-none c =
    entry_none c.args.edge (piece_of c.args.piece.now) c.args.offset c.args.low c.args.width c.max-first.result c.min-end.result
    (omega (arith, c.max-first.ensures, c.from.ensures)) (omega (arith, c.min-end.ensures, c.from-2.ensures, c.from-3.ensures, c.from-4.ensures)) (omega (arith, c.if-first-end.false))

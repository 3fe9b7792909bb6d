use Rattle.std.proofs.Common.{sym, arith}
use Rattle.elab_wires.specs.SignalTables.{joining_borrowed}
use Rattle.elab_wires.proofs.NamedSignals.{whole-way, one-join, way-ends, way-done}
use Rattle.elab_wires.proofs.signals.Signals.outermost.Goals as goal

pub joins-init : goal.joins-init
joins-init c = whole-way c.args.self.now 64 c.args.name.now

pub joins-preserved : goal.joins-preserved
joins-preserved c =
    one-join c.args.self.now 64 c.joins.counter c.args.name.now c.joins.now.now c.as_bytes-now.result.now (joining_borrowed c.in-Some.joining) (omega (arith, c.joins-test.true)) c.joins.invariant
    (sym c.in-Some.ensures)
    c.as_bytes-now.ensures

pub returns-in-None : goal.returns-in-None
returns-in-None c = way-ends c.args.self.now 64 c.joins.counter c.args.name.now c.joins.now.now c.joins.invariant (sym c.in-None.ensures)

pub returns : goal.returns
returns c = way-done c.args.self.now 64 c.joins.counter c.args.name.now c.joins.now.now (omega (arith, c.joins-test.false)) c.joins.invariant

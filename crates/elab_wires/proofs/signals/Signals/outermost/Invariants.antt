use Rattle.elab_wires.proofs.NamedSignals.{WayLeft}
use Rattle.elab_wires.proofs.signals.Signals.outermost.Given as goal

abbrev pub invariant-joins : goal.invariant-joins
invariant-joins l = WayLeft l.self 64 l.counter l.fn.name l.now

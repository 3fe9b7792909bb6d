use Rattle.std.proofs.Common.{ap, ◌∙◌, option_map}
use Rattle.elab_wires.specs.SignalTables.{signal_borrowed}
use Rattle.elab_wires.proofs.NamedSignals.{named-first}
use Rattle.elab_wires.proofs.signals.Signals.named.Goals as goal

pub returns : goal.returns
returns c = rw (← c.self.view_is) (ap (option_map signal_borrowed) c.first.ensures ∙ named-first c.self.inside.by_name c.args.name.now c.self.invariant)

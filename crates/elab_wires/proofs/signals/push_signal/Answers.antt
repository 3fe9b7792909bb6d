use Rattle.std.proofs.Common.{[], ◌∷◌, ◌++◌, ap, sym, ◌∙◌}
use Rattle.v_elab.specs.Drivers.{signals_of}
use Rattle.elab_parts.specs.PartViews.{part_of}
use Rattle.elab_wires.specs.SignalTables.{signals_listed}
use Rattle.elab_wires.proofs.NamedSignals.{pushed-listed, pushed-own}
use Rattle.elab_wires.proofs.signals.push_signal.Goals as goal

pub returns-in_ok-push-in-Signal-clause-listed : goal.returns-in_ok-push-in-Signal-clause-listed
returns-in_ok-push-in-Signal-clause-listed c =
    pushed-listed c.args.items.now.items c.push.new.self.items _ c.in_ok-push-in-Signal.ensures.items
    ∙ ap (λ p. signals_listed c.args.items.now.items ++ signals_of (part_of p ∷ [])) (sym c.in-Signal.is)

pub returns-in_ok-push-in-Signal-clause-own : goal.returns-in_ok-push-in-Signal-clause-own
returns-in_ok-push-in-Signal-clause-own c = pushed-own c.args.items.now.items c.push.new.self.items _ c.in_ok-push-in-Signal.ensures.items c.requires c.as_bytes.ensures

use Rattle.std.proofs.Common.{◌≡◌, take, map}
use Rattle.std.specs.Prelude.{option_map}
use Rattle.elab_wires.specs.SignalTables.{signal_borrowed}
use Rattle.elab_objects.specs.Driven.{first_by_depth}
use Rattle.elab_objects.proofs.parts.first_by_depth.Given as goal

abbrev pub invariant-signals : goal.invariant-signals
invariant-signals l = option_map signal_borrowed l.first ≡ first_by_depth (map signal_borrowed (take l.signal-index l.signals))

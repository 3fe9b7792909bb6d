use Rattle.std.proofs.Common.{◌≡◌, map, take}
use Rattle.std.specs.Prelude.{option_map}
use Rattle.v_elab.specs.Drivers.{by_depth}
use Rattle.elab_wires.specs.Depths.{first_two}
use Rattle.elab_wires.specs.SignalTables.{signal_borrowed}
use Rattle.driver_checks.specs.Seconds.{second_in, two_of}
use Rattle.driver_checks.proofs.second.second_by_depth.Given as goal

abbrev pub invariant-signals : goal.invariant-signals
invariant-signals l = record {
  both : two_of (option_map signal_borrowed l.first) (option_map signal_borrowed l.second) ≡ first_two (by_depth (map signal_borrowed (take l.signal-index l.signals)));
  second : option_map signal_borrowed l.second ≡ second_in (two_of (option_map signal_borrowed l.first) (option_map signal_borrowed l.second));
}

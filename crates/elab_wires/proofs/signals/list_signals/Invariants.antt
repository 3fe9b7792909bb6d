use Rattle.std.proofs.Common.{◌≡◌, take, map}
use Rattle.vf_base.specs.Lists.{AllHold}
use Rattle.key_index.specs.Groups.{keyed_of}
use Rattle.v_elab.specs.Drivers.{signals_of}
use Rattle.elab_parts.specs.PartViews.{part_of}
use Rattle.elab_wires.specs.SignalTables.{signals_listed, IsOwn}
use Rattle.elab_wires.proofs.signals.list_signals.Given as goal

abbrev pub invariant-parts : goal.invariant-parts
invariant-parts l = record {
  listed : signals_listed l.items.items ≡ signals_of (map part_of (take l.part-index l.parts));
  own : AllHold IsOwn (map keyed_of l.items.items);
}

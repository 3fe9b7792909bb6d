-- Ports of the code that are joined, as plain ones.
use Rattle.std.specs.Borrow.{Bor}
use Rattle.v_elab.specs.Parts as parts
use Rattle.v_elab.specs.Connections as plain
use Rattle.elab_parts.specs.PartViews.{joining_of}
use Rattle.elab_parts.specs.declared.signal.Joining.{Joining}
use Rattle.elab_items.specs.declared.joins.PortJoined.{PortJoined}

abbrev pub port_joined_of : PortJoined → plain.PortJoined
port_joined_of j = record { port = j.port; joining = joining_of j.joining }

abbrev pub joining_seen : Bor Joining → parts.Joining
joining_seen joining = joining_of joining.now

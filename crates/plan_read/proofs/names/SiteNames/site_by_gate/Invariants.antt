use Rattle.std.proofs.Common.{length}
use Rattle.v_design.specs.Plain.{node_of}
use Rattle.v_design.specs.PlainDesigns.{design_of}
use Rattle.fault_list.specs.Spelled.{node_spelled}
use Rattle.plan_read.specs.Stems.{front, gate_key}
use Rattle.key_index.specs.Walks.{places_left}
use Rattle.plan_read.proofs.NameWalking.{IsWalk}
use Rattle.plan_read.proofs.names.SiteNames.site_by_gate.Given as goal

abbrev pub invariant-places : goal.invariant-places
invariant-places l = IsWalk node_of (node_spelled l.word) gate_key (front l.word) l.self.design.now.nodes l.at

abbrev pub decreases-places : goal.decreases-places
decreases-places l = places_left (length l.self.design.now.nodes) l.at

use Rattle.std.proofs.Common.{◌≡◌, drop, map, flat_map}
use Rattle.v_elab.specs.ItemFaults.{gate_faults}
use Rattle.v_tree.specs.Views.{gate_of}
use Rattle.name_checks.specs.Noted.{noted}
use Rattle.item_checks.proofs.assigned.note_gates.Given as goal

abbrev pub invariant-gates : goal.invariant-gates
invariant-gates l = noted l.first (flat_map (gate_faults l.scope) (map gate_of (drop l.gate-index l.gates))) ≡ noted l.initial.first (flat_map (gate_faults l.scope) (map gate_of l.gates))

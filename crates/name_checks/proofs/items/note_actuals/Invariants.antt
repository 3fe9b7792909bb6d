use Rattle.std.proofs.Common.{◌≡◌, drop, map, flat_map}
use Rattle.v_names.specs.Names.{actual_faults}
use Rattle.v_tree.specs.Views.{connection_of}
use Rattle.name_checks.specs.Noted.{noted}
use Rattle.name_checks.proofs.items.note_actuals.Given as goal

abbrev pub invariant-connections : goal.invariant-connections
invariant-connections l = noted l.first (flat_map (actual_faults l.scope) (map connection_of (drop l.connection-index l.connections))) ≡ noted l.initial.first
    (flat_map (actual_faults l.scope) (map connection_of l.connections))

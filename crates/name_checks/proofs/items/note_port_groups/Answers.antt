use Rattle.std.proofs.Common.{◌++◌, List, map, flat_map, refl, ap, sym, ◌∙◌}
use Rattle.v_names.specs.Constants.{most_bound, bound_faults, optional_faults}
use Rattle.v_tree.specs.Trees.{SourcePorts}
use Rattle.v_tree.specs.Views.{range_in, ports_of}
use Rattle.v_tree.specs.declared.item.Ports.{Ports}
use Rattle.name_checks.specs.Rows.{rest-more}
use Rattle.name_checks.proofs.items.note_port_groups.Goals as goal

pub groups-preserved : goal.groups-preserved
groups-preserved c =
    rest-more (λ (x : Ports). optional_faults (bound_faults c.args.scope.now most_bound) (range_in x.range))
    (λ (xs : List Ports). flat_map (λ (g : SourcePorts). optional_faults (bound_faults c.args.scope.now most_bound) g.range) (map ports_of xs)) c.args.groups.now c.groups.group-index
    c.group-item.result
    c.groups.first c.note_range.new.first _ (λ y ys. refl) c.groups-test.true c.group-item.is c.in_ok-note_range.ensures c.groups.invariant

use Rattle.std.proofs.Common.{List, [], ◌++◌, map, flat_map, ap₂, ◌∙◌}
use Rattle.v_tree.specs.Views.{parameters_of, heads_of, item_of}
use Rattle.v_tree.specs.declared.item.Params.{Params}
use Rattle.v_tree.specs.declared.item.Item.{Item}
use Rattle.v_names.specs.Faults.{first_fault}
use Rattle.v_names.specs.Names.{twice_faults, parameters_faults, heads_faults, item_name_faults}
use Rattle.module_scope.specs.Declarations.{declarations_seen}
use Rattle.module_scope.proofs.Ends.{four-noted}
use Rattle.module_scope.proofs.module_scope.module_fault.Goals as goal

pub returns : goal.returns
returns c =
    c.found.ensures
    ∙ four-noted _ _ _ _ _ (twice_faults c.args.scope.now [] (declarations_seen c.args.declarations.now)) (flat_map (parameters_faults c.args.scope.now) (map parameters_of c.as_slice.result.now))
    (heads_faults c.args.scope.now (heads_of c.args.«module».now.ports)) (flat_map (item_name_faults c.args.scope.now) (map item_of c.as_slice-2.result.now))
    c.new-first.ensures c.in_ok-note_all_twice.ensures c.in_ok-note_parameter_groups.ensures c.in_ok-note_ports.ensures c.in_ok-note_items.ensures
    ∙ ap₂ (λ (ps : List Params) (is : List Item). first_fault (twice_faults c.args.scope.now [] (declarations_seen c.args.declarations.now)
    ++ (flat_map (parameters_faults c.args.scope.now) (map parameters_of ps) ++ (heads_faults c.args.scope.now (heads_of c.args.«module».now.ports)
    ++ flat_map (item_name_faults c.args.scope.now) (map item_of is))))) c.as_slice.ensures c.as_slice-2.ensures

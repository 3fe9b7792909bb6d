use Rattle.std.proofs.Common.{◌+◌, List, map, drop, refl}
use Rattle.std.proofs.lemmas.Result.{err_from_is_err_and}
use Rattle.v_tree.specs.Trees.{ParameterItem}
use Rattle.v_tree.specs.Views.{parameters_of}
use Rattle.v_tree.specs.declared.item.Params.{Params}
use Rattle.v_elab.specs.Walk.{walked_item, walked_items}
use Rattle.elab_walk.proofs.Turns.{goes-turn, goes-wrong, goes-end, turn-of, end-of}
use Rattle.elab_walk.proofs.items.walk_param_groups.Goals as goal

pub returns-in_err-walk_params : goal.returns-in_err-walk_params
returns-in_err-walk_params c h walker is before counted =
    let p = err_from_is_err_and c.from_residual.result c.from_residual.ensures.1 in
    rw (p.1, p.2)
    (goes-wrong before _ (walked_items walker h 0 (map ParameterItem (map parameters_of (drop c.groups.group-index c.args.groups.now))))
    (walked_items walker h 0 (map ParameterItem (map parameters_of (drop (c.groups.group-index + 1) c.args.groups.now))))
    (walked_item walker h 0 (ParameterItem (parameters_of c.group-item.result))) _ _ _
    (turn-of (λ (g : Params). walked_item walker h 0 (ParameterItem (parameters_of g))) (λ (gs : List Params). walked_items walker h 0 (map ParameterItem (map parameters_of gs)))
    (λ (gs : List Params). walked_items walker h 0 (map ParameterItem (map parameters_of gs)))
    c.args.groups.now c.groups.group-index c.group-item.result (λ ys all. refl) c.groups-test.true c.group-item.is)
    (c.in_err-walk_params.ensures h walker is) (c.groups.invariant h walker is before counted))

pub groups-preserved : goal.groups-preserved
groups-preserved c h walker is before counted =
    goes-turn before _ (walked_items walker h 0 (map ParameterItem (map parameters_of (drop c.groups.group-index c.args.groups.now))))
    (walked_items walker h 0 (map ParameterItem (map parameters_of (drop (c.groups.group-index + 1) c.args.groups.now))))
    (walked_item walker h 0 (ParameterItem (parameters_of c.group-item.result))) _ _ _
    (turn-of (λ (g : Params). walked_item walker h 0 (ParameterItem (parameters_of g))) (λ (gs : List Params). walked_items walker h 0 (map ParameterItem (map parameters_of gs)))
    (λ (gs : List Params). walked_items walker h 0 (map ParameterItem (map parameters_of gs)))
    c.args.groups.now c.groups.group-index c.group-item.result (λ ys all. refl) c.groups-test.true c.group-item.is)
    (c.in_ok-walk_params.ensures h walker is) (c.groups.invariant h walker is before counted)

pub returns : goal.returns
returns c h walker is before counted =
    goes-end before _ (walked_items walker h 0 (map ParameterItem (map parameters_of (drop c.groups.group-index c.args.groups.now)))) _ _
    (end-of (λ (gs : List Params). walked_items walker h 0 (map ParameterItem (map parameters_of gs))) c.args.groups.now c.groups.group-index (λ all. refl) c.groups-test.false)
    (c.groups.invariant h walker is before counted)

use Rattle.std.proofs.Common.{◌+◌, List, map, drop, refl}
use Rattle.std.proofs.lemmas.Result.{err_from_is_err_and}
use Rattle.v_tree.specs.Trees.{PortItem}
use Rattle.v_tree.specs.Views.{ports_of}
use Rattle.v_tree.specs.declared.item.Ports.{Ports}
use Rattle.v_elab.specs.Walk.{walked_item, walked_items}
use Rattle.elab_walk.proofs.Turns.{goes-turn, goes-wrong, goes-end, turn-of, end-of}
use Rattle.elab_walk.proofs.Within.{ports-within}
use Rattle.elab_walk.proofs.items.walk_port_groups.Goals as goal

pub returns-in_err-walk_ports : goal.returns-in_err-walk_ports
returns-in_err-walk_ports c h walker is before counted =
    let p = err_from_is_err_and c.from_residual.result c.from_residual.ensures.1 in
    rw (p.1, p.2)
    (goes-wrong before _ (walked_items walker h 0 (map PortItem (map ports_of (drop c.groups.group-index c.args.groups.now))))
    (walked_items walker h 0 (map PortItem (map ports_of (drop (c.groups.group-index + 1) c.args.groups.now))))
    (walked_item walker h 0 (PortItem (ports_of c.group-item.result))) _ _ _
    (turn-of (λ (g : Ports). walked_item walker h 0 (PortItem (ports_of g))) (λ (gs : List Ports). walked_items walker h 0 (map PortItem (map ports_of gs)))
    (λ (gs : List Ports). walked_items walker h 0 (map PortItem (map ports_of gs)))
    c.args.groups.now c.groups.group-index c.group-item.result (λ ys all. refl) c.groups-test.true c.group-item.is)
    (c.in_err-walk_ports.ensures h walker is) (c.groups.invariant h walker is before counted))

pub groups-preserved : goal.groups-preserved
groups-preserved c h walker is before counted =
    goes-turn before _ (walked_items walker h 0 (map PortItem (map ports_of (drop c.groups.group-index c.args.groups.now))))
    (walked_items walker h 0 (map PortItem (map ports_of (drop (c.groups.group-index + 1) c.args.groups.now))))
    (walked_item walker h 0 (PortItem (ports_of c.group-item.result))) _ _ _
    (turn-of (λ (g : Ports). walked_item walker h 0 (PortItem (ports_of g))) (λ (gs : List Ports). walked_items walker h 0 (map PortItem (map ports_of gs)))
    (λ (gs : List Ports). walked_items walker h 0 (map PortItem (map ports_of gs)))
    c.args.groups.now c.groups.group-index c.group-item.result (λ ys all. refl) c.groups-test.true c.group-item.is)
    (c.in_ok-walk_ports.ensures h walker is) (c.groups.invariant h walker is before counted)

pub returns : goal.returns
returns c h walker is before counted =
    goes-end before _ (walked_items walker h 0 (map PortItem (map ports_of (drop c.groups.group-index c.args.groups.now)))) _ _
    (end-of (λ (gs : List Ports). walked_items walker h 0 (map PortItem (map ports_of gs))) c.args.groups.now c.groups.group-index (λ all. refl) c.groups-test.false)
    (c.groups.invariant h walker is before counted)

pub walk_ports-requires : goal.walk_ports-requires
walk_ports-requires c =
    ports-within c.args.site.here.now.scope.value c.args.groups.now c.groups.group-index c.group-item.result c.requires c.groups-test.true c.group-item.is

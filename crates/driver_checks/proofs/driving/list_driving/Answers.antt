use Rattle.std.proofs.Common.{◌≡◌, List, map, flat_map, sym, ap, ap₂, ◌∙◌, rules}
use Rattle.key_index.specs.Places.{keys_of}
use Rattle.v_tree.specs.Trees.{Identifier}
use Rattle.v_elab.specs.Parts.{Signal}
use Rattle.v_elab.specs.Drivers.{signals_of, block_signals}
use Rattle.elab_parts.specs.PartViews.{parts_of}
use Rattle.elab_parts.specs.BehaviourViews.{node_of}
use Rattle.driver_checks.specs.Driving.{driving_besides, besides-blocks}
use Rattle.driver_checks.proofs.driving.list_driving.Goals as goal

pub returns : goal.returns
returns c =
    let signals = c.args.signals.now in
    let targets : c.in_ok-targets.targets ≡ flat_map block_signals (map node_of c.args.nodes.now) = c.in_ok-targets.ensures ∙ c.in_ok-names.ensures in
    c.in_ok-items.ensures
    ∙ ap₂ (λ (ts : List Identifier) (ss : List Signal). driving_besides signals ts ss) targets (sym c.requires)
    ∙ besides-blocks signals (map node_of c.args.nodes.now) signals

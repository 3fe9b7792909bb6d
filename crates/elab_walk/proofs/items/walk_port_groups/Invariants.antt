use Rattle.std.proofs.Common.{List, map, drop}
use Rattle.v_tree.specs.Trees.{PortItem}
use Rattle.v_tree.specs.Views.{ports_of}
use Rattle.v_elab.specs.Parts.{Part}
use Rattle.v_elab.specs.Walk.{Here, Walker, walked_items}
use Rattle.elab_walk.specs.CountViews.{AreCounts}
use Rattle.elab_walk.specs.Sites.{IsSite}
use Rattle.elab_walk.proofs.Turns.{GoesOn}
use Rattle.elab_walk.proofs.items.walk_port_groups.Given as goal

abbrev pub invariant-groups : goal.invariant-groups
invariant-groups l =
    (h : Here) (walker : Walker) → IsSite h l.site → (before : List Part) → AreCounts before l.initial.walked.counts
    → GoesOn before (walked_items walker h 0 (map PortItem (map ports_of l.groups)) before)
    (walked_items walker h 0 (map PortItem (map ports_of (drop l.group-index l.groups)))) l.initial.walked l.walked

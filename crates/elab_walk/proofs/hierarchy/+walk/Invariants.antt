use Rattle.std.proofs.Common.{◌≡◌, ◌≤◌, ◌+◌, ◌*◌, List, [], map, flat_map, drop}
use Rattle.v_tree.specs.Trees.{SourceModule}
use Rattle.v_tree.specs.Views.{item_of, instance_of}
use Rattle.v_names.specs.Names.{GivenParameter}
use Rattle.v_elab.specs.Parts.{Part}
use Rattle.v_elab.specs.Connections.{instance_faults}
use Rattle.v_elab.specs.Walk.{Here, child_of, walked, walked_items, walked_instances}
use Rattle.elab_walk.specs.CountViews.{AreCounts}
use Rattle.elab_walk.specs.Sites.{IsSite, IsInner}
use Rattle.elab_walk.proofs.Turns.{GoesOn}
use Rattle.elab_walk.proofs.hierarchy.+walk.Given as goal

abbrev pub invariant-walk_instances-instances : goal.invariant-walk_instances-instances
invariant-walk_instances-instances l =
    (h : Here) (m : SourceModule) (given : List GivenParameter) → IsSite h l.site → IsInner h m given l.inner
    → flat_map (instance_faults (child_of h m given) (h.instance.depth + 1)) (map instance_of l.instances) ≡ [] → (before : List Part) → AreCounts before l.initial.walked.counts
    → GoesOn before (walked_instances (walked h.modules h.mode l.levels) h m given (map instance_of l.instances) before)
    (walked_instances (walked h.modules h.mode l.levels) h m given (map instance_of (drop l.instance-index l.instances))) l.initial.walked l.walked

-- an item has fewer than 2 ^ 64 gates
abbrev pub invariant-walk_items-items : goal.invariant-walk_items-items
invariant-walk_items-items l = record {
  few : l.gates ≤ 18446744073709551615 * l.item-index;
  goes : (h : Here) → IsSite h l.site → (before : List Part) → AreCounts before l.initial.walked.counts →
      GoesOn before (walked_items (walked h.modules h.mode l.levels) h 0 (map item_of l.items) before)
      (walked_items (walked h.modules h.mode l.levels) h l.gates (map item_of (drop l.item-index l.items))) l.initial.walked l.walked;
}

abbrev pub decreases-walk_inside : goal.decreases-walk_inside
decreases-walk_inside l = 8 * l.levels + 1

abbrev pub decreases-walk_instance : goal.decreases-walk_instance
decreases-walk_instance l = 8 * l.levels + 2

abbrev pub decreases-walk_instances : goal.decreases-walk_instances
decreases-walk_instances l = 8 * l.levels + 3

abbrev pub decreases-walk_instance_item : goal.decreases-walk_instance_item
decreases-walk_instance_item l = 8 * l.levels + 4

abbrev pub decreases-walk_item : goal.decreases-walk_item
decreases-walk_item l = 8 * l.levels + 5

abbrev pub decreases-walk_items : goal.decreases-walk_items
decreases-walk_items l = 8 * l.levels + 6

abbrev pub decreases-walk_module : goal.decreases-walk_module
decreases-walk_module l = 8 * l.levels + 7

abbrev pub decreases-enter : goal.decreases-enter
decreases-enter l = 8 * l.levels

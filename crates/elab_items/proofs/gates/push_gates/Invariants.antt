use Rattle.std.proofs.Common.{◌≡◌, ◌+◌, ◌++◌, map, drop}
use Rattle.v_tree.specs.Views.{gate_of}
use Rattle.v_elab.specs.Walk as plain
use Rattle.v_elab.specs.Walk.{gate_parts}
use Rattle.elab_parts.specs.PartViews.{parts_of}
use Rattle.elab_items.specs.Heres.{IsHere}
use Rattle.elab_items.proofs.gates.push_gates.Given as goal

abbrev pub invariant-gates : goal.invariant-gates
invariant-gates l =
    (h : plain.Here) → IsHere h l.here
    → parts_of l.parts.items ++ gate_parts h l.kind ((l.before + 1) + l.place) (map gate_of (drop l.place l.gates)) ≡ parts_of l.initial.parts.items
    ++ gate_parts h l.kind (l.before + 1) (map gate_of l.gates)

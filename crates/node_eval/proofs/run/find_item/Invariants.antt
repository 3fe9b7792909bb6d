use Rattle.std.proofs.Common.{◌≡◌, List, drop}
use Rattle.four_value.specs.Values.{LogicValue}
use Rattle.v_design.specs.PlainLemmas.{items_of}
use Rattle.v_design.specs.Assignments.{run_items}
use Rattle.node_eval.proofs.run.find_item.Given as goal

abbrev pub invariant-items : goal.invariant-items
invariant-items g l =
    record {
      chosen : (otherwise : List LogicValue) → run_items l.kind l.value (items_of l.items) (g.V.Values.values l.values) otherwise ≡ run_items l.kind l.value (items_of (drop l.number l.items))
          (g.V.Values.values l.values) otherwise;
      levels : l.stack.depth ≡ l.fn.stack.depth;
    }

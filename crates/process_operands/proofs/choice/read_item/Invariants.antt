use Rattle.std.proofs.Common.{◌≡◌, drop}
use Rattle.v_design.specs.PlainLemmas.{items_of}
use Rattle.v_design.specs.Trees.{Statement}
use Rattle.v_design.specs.Processes.{read_items}
use Rattle.process_operands.specs.Sought.{got}
use Rattle.process_operands.specs.Choices.{chosen_or}
use Rattle.process_operands.proofs.choice.read_item.Given as goal

abbrev pub invariant-items : goal.invariant-items
invariant-items l =
    (default : Statement) → read_items l.kind l.value (items_of l.items) default (drop l.fn.used l.operands)
    ≡ got (chosen_or (items_of l.items) default l.choice) (read_items l.kind l.value (items_of (drop l.number l.items)) default (drop l.used l.operands))

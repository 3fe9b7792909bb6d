use Rattle.std.proofs.Common.{Option, option_map, ap, sym, ◌∙◌}
use Rattle.v_tree.specs.Trees.{named_in}
use Rattle.v_tree.specs.Views.{expression_of}
use Rattle.v_names.specs.Faults.{Fault}
use Rattle.v_names.specs.FaultViews.{fault_of}
use Rattle.name_checks.specs.Noted.{noted, noted_none}
use Rattle.item_checks.specs.Memories.{memories_faults}
use Rattle.item_checks.proofs.MemoryLaws.{kinds-none, kinds-some}
use Rattle.item_checks.proofs.memories.memory_faults.Goals as goal

pub returns-in-None : goal.returns-in-None
returns-in-None c =
    kinds-none c.args.scope.now (named_in (expression_of c.args.expr.now)) _
    (sym (noted_none (memories_faults c.args.scope.now (named_in (expression_of c.args.expr.now))))
    ∙ ap (λ (o : Option Fault). noted o (memories_faults c.args.scope.now (named_in (expression_of c.args.expr.now)))) (sym c.new-first.ensures)
    ∙ sym c.note_memories.ensures ∙ sym c.found.ensures ∙ ap (option_map fault_of) c.in-None.is) c.no_faults.ensures

pub returns-in-Some : goal.returns-in-Some
returns-in-Some c =
    kinds-some c.args.scope.now (named_in (expression_of c.args.expr.now)) (fault_of c.in-Some.found) _
    (sym (noted_none (memories_faults c.args.scope.now (named_in (expression_of c.args.expr.now))))
    ∙ ap (λ (o : Option Fault). noted o (memories_faults c.args.scope.now (named_in (expression_of c.args.expr.now)))) (sym c.new-first.ensures)
    ∙ sym c.note_memories.ensures ∙ sym c.found.ensures ∙ ap (option_map fault_of) c.in-Some.is) c.wrong_kind.ensures

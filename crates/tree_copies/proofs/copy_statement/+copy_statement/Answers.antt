use Rattle.std.proofs.Common.{ap, map, sym, ◌∙◌}
use Rattle.v_tree.specs.Views.{statement_of}
use Rattle.v_tree.specs.CaseParts.{case_part_of}
use Rattle.v_tree.specs.declared.statement.Stmt.{Stmt}
use Rattle.tree_copies.proofs.Copies.{copied-block, copied-case}
use Rattle.tree_copies.proofs.copy_statement.+copy_statement.Goals as goal

pub copy_stmt-returns-in_ok-statements-in-Block : goal.copy_stmt-returns-in_ok-statements-in-Block
copy_stmt-returns-in_ok-statements-in-Block t c =
    copied-block c.in-Block.place c.in_ok-statements-in-Block.statements c.in-Block.statements (c.in_ok-statements-in-Block.ensures ∙ ap (map statement_of) c.deref.ensures.value)
    ∙ ap (λ (s : Stmt). statement_of s) (sym c.in-Block.is)

pub copy_stmt-returns-in_ok-items-in-Case : goal.copy_stmt-returns-in_ok-items-in-Case
copy_stmt-returns-in_ok-items-in-Case t c =
    copied-case c.in-Case.place c.in-Case.kind c.in_ok-value-in-Case.value c.in-Case.value c.in_ok-items-in-Case.items c.in-Case.items
    c.in_ok-value-in-Case.ensures (c.in_ok-items-in-Case.ensures ∙ ap (map case_part_of) c.deref-in-Case.ensures.value)
    ∙ ap (λ (s : Stmt). statement_of s) (sym c.in-Case.is)

use Rattle.std.proofs.Common.{◌≡◌, true, false, List, ap, ap₂, rules, sym, ◌∙◌}
use Rattle.v_tree.specs.Views.{statement_of, statements_of, case_items_of}
use Rattle.v_tree.specs.declared.statement.Stmt.{Stmt}
use Rattle.v_tree.specs.declared.statement.CaseItem.{CaseItem}
use Rattle.v_comb.specs.Flags.{unmatched_flags, has_default, flags_after, all_flags_after, items_flags_after}
use Rattle.v_comb.proofs.Trees.{block-flags, case-refused, case-followed}
use Rattle.v_comb.proofs.assigned.+flags_after.Goals as goal

pub after_statement-returns-in_ok-after-in-Block : goal.after_statement-returns-in_ok-after-in-Block
after_statement-returns-in_ok-after-in-Block t c =
    c.in_ok-after-in-Block.ensures ∙ ap (λ (ss : List Stmt). all_flags_after c.args.targets.now c.args.flags.items (statements_of ss)) c.deref.ensures.value
    ∙ sym (block-flags c.args.targets.now c.args.flags.items c.in-Block.place c.in-Block.statements)
    ∙ ap (λ (s : Stmt). flags_after c.args.targets.now c.args.flags.items (statement_of s)) (sym c.in-Block.is)

pub after_statement-returns-then-not-branch-3 : goal.after_statement-returns-then-not-branch-3
after_statement-returns-then-not-branch-3 t c =
    let fails : c.in_ok-case_is_flagged-in-Case.field-0 ≡ false = search rules in
    case-refused c.args.targets.now c.args.flags.items c.in-Case.place c.in-Case.kind c.in-Case.value c.in-Case.items c.in_ok-case_is_flagged-in-Case.field-0 c.deref-in-Case.result.now
    c.deref-in-Case-2.result.now
    c.in_ok-case_is_flagged-in-Case.ensures c.deref-in-Case.ensures.value c.deref-in-Case-2.ensures.value fails
    ∙ ap (λ (s : Stmt). flags_after c.args.targets.now c.args.flags.items (statement_of s)) (sym c.in-Case.is)

pub after_statement-returns-in_ok-after-in-Case : goal.after_statement-returns-in_ok-after-in-Case
after_statement-returns-in_ok-after-in-Case t c =
    let holds : c.in_ok-case_is_flagged-in-Case.field-0 ≡ true = search rules in
    case-followed c.args.targets.now c.args.flags.items c.in-Case.place c.in-Case.kind c.in-Case.value c.in-Case.items c.in_ok-case_is_flagged-in-Case.field-0 c.deref-in-Case.result.now
    c.deref-in-Case-2.result.now
    c.in_ok-met-in-Case.met.items _
    c.in_ok-case_is_flagged-in-Case.ensures c.deref-in-Case.ensures.value c.deref-in-Case-2.ensures.value holds
    (c.in_ok-met-in-Case.ensures ∙ ap₂ (λ is fs. unmatched_flags (has_default (case_items_of is)) fs) c.deref-in-Case-4.ensures.value c.deref-in-Case-3.ensures.value)
    (c.in_ok-after-in-Case.ensures ∙ ap₂ (λ fs is. items_flags_after c.args.targets.now fs c.in_ok-met-in-Case.met.items (case_items_of is)) c.deref-in-Case-5.ensures.value
    c.deref-in-Case-6.ensures.value)
    ∙ ap (λ (s : Stmt). flags_after c.args.targets.now c.args.flags.items (statement_of s)) (sym c.in-Case.is)

use Rattle.std.proofs.Common.{flat_map, refl, ap, sym, ◌∙◌}
use Rattle.v_tree.specs.declared.statement.Stmt.{Stmt}
use Rattle.v_comb.specs.Occurrences.{listed, names_read_of, names_read_of_item}
use Rattle.v_comb.proofs.Trees.{block-read, case-read, if-read-none, if-read-some}
use Rattle.v_comb.proofs.Turns.{one-more, two-more, three-more}
use Rattle.v_comb.proofs.occurrences.+push_reads.Goals as goal

pub push_reads-returns-in_ok-push_all_reads-in-Block : goal.push_reads-returns-in_ok-push_all_reads-in-Block
push_reads-returns-in_ok-push_all_reads-in-Block t c =
    one-more (listed c.args.names.now.items) (listed c.push_all_reads.new.names.items) c.in_ok-push_all_reads-in-Block.ensures
    (ap (flat_map names_read_of) c.deref.ensures.value ∙ sym (block-read c.in-Block.place c.in-Block.statements) ∙ ap (λ (s : Stmt). names_read_of s) (sym c.in-Block.is))

pub push_reads-returns-in_ok-push_items_reads-in-Case : goal.push_reads-returns-in_ok-push_items_reads-in-Case
push_reads-returns-in_ok-push_items_reads-in-Case t c =
    two-more (listed c.args.names.now.items) (listed c.push_names-in-Case.new.names.items) (listed c.push_items_reads.new.names.items)
    c.in_ok-push_names-in-Case.ensures c.in_ok-push_items_reads-in-Case.ensures refl (ap (flat_map names_read_of_item) c.deref-in-Case.ensures.value)
    (ap (λ (s : Stmt). names_read_of s) c.in-Case.is ∙ case-read c.in-Case.place c.in-Case.kind c.in-Case.value c.in-Case.items)

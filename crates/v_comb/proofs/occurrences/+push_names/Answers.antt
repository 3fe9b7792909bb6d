use Rattle.std.proofs.Common.{◌++◌, flat_map, ap, sym, ◌∙◌}
use Rattle.v_tree.specs.declared.expression.Expr.{Expr}
use Rattle.v_comb.specs.Occurrences.{listed, names_of_expr}
use Rattle.v_comb.proofs.Trees.{concat-names, repeat-names}
use Rattle.v_comb.proofs.Turns.{one-more, two-more}
use Rattle.v_comb.proofs.occurrences.+push_names.Goals as goal

pub push_names-returns-in_ok-push_part_names-in-Concat : goal.push_names-returns-in_ok-push_part_names-in-Concat
push_names-returns-in_ok-push_part_names-in-Concat t c =
    one-more (listed c.args.names.now.items) (listed c.push_part_names.new.names.items) c.in_ok-push_part_names-in-Concat.ensures
    (ap (flat_map names_of_expr) c.deref-in-Concat.ensures.value ∙ sym (concat-names c.in-Concat.place c.in-Concat.parts) ∙ ap (λ (e : Expr). names_of_expr e) (sym c.in-Concat.is))

pub push_names-returns-in_ok-push_part_names-in-Repeat : goal.push_names-returns-in_ok-push_part_names-in-Repeat
push_names-returns-in_ok-push_part_names-in-Repeat t c =
    two-more (listed c.args.names.now.items) (listed c.push_names-in-Repeat.new.names.items) (listed c.push_part_names-in-Repeat.new.names.items)
    c.in_ok-push_names-in-Repeat.ensures c.in_ok-push_part_names-in-Repeat.ensures
    (ap (λ (e : Expr). names_of_expr e) c.deref-in-Repeat.ensures) (ap (flat_map names_of_expr) c.deref-in-Repeat-2.ensures.value)
    (ap (λ (e : Expr). names_of_expr e) c.in-Repeat.is ∙ repeat-names c.in-Repeat.place c.in-Repeat.count c.in-Repeat.parts)

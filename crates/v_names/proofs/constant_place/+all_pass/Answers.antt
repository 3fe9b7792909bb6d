use Rattle.std.proofs.Common.{◌≡◌, true, List, ap, sym, rules, ◌∙◌}
use Rattle.v_tree.specs.declared.expression.Expr.{Expr}
use Rattle.v_tree.specs.Trees.{named_in, named_in_parts}
use Rattle.v_tree.specs.Views.{expression_of, expressions_of}
use Rattle.v_tree.specs.ViewLaws.{expression_of-Concat}
use Rattle.v_names.specs.Asked.{all_pass}
use Rattle.v_names.proofs.KnownLaws.{view-Repeat}
use Rattle.v_names.proofs.AskedLaws.{pass-rest}
use Rattle.v_names.proofs.constant_place.+all_pass.Goals as goal

pub all_pass-returns-in-Concat : goal.all_pass-returns-in-Concat
all_pass-returns-in-Concat t c =
    c.all_parts_pass.ensures ∙ ap (λ (l : List Expr). all_pass c.args.asked c.args.scope.now (named_in_parts (expressions_of l))) c.deref-in-Concat.ensures.value
    ∙ sym (ap (λ (e : Expr). all_pass c.args.asked c.args.scope.now (named_in (expression_of e))) c.in-Concat.is
    ∙ ap (λ e. all_pass c.args.asked c.args.scope.now (named_in e)) (expression_of-Concat c.in-Concat.place c.in-Concat.parts))

pub all_pass-returns-else-not-all_pass-5 : goal.all_pass-returns-else-not-all_pass-5
all_pass-returns-else-not-all_pass-5 t c =
    let holds : c.all_pass-in-Repeat.result ≡ true = search rules in
    let passed : all_pass c.args.asked c.args.scope.now (named_in (expression_of c.in-Repeat.count.value)) ≡ true =
    sym (ap (λ (e : Expr). all_pass c.args.asked c.args.scope.now (named_in (expression_of e))) c.deref-in-Repeat.ensures) ∙ sym c.all_pass-in-Repeat.ensures ∙ holds in
    c.all_parts_pass-in-Repeat.ensures ∙ ap (λ (l : List Expr). all_pass c.args.asked c.args.scope.now (named_in_parts (expressions_of l))) c.deref-in-Repeat-2.ensures.value
    ∙ pass-rest c.args.asked c.args.scope.now (named_in (expression_of c.in-Repeat.count.value)) (named_in_parts (expressions_of c.in-Repeat.parts.items)) passed
    ∙ sym (ap (λ (e : Expr). all_pass c.args.asked c.args.scope.now (named_in (expression_of e))) c.in-Repeat.is
    ∙ ap (λ e. all_pass c.args.asked c.args.scope.now (named_in e)) (view-Repeat c.in-Repeat.place c.in-Repeat.count c.in-Repeat.parts))

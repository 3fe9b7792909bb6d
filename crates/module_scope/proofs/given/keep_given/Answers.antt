use Rattle.std.proofs.Common.{ℕ, List, Some, cond, refl, ap, sym, ◌∙◌}
use Rattle.v_tree.specs.Trees.{same_name}
use Rattle.v_names.specs.declared.constant.Constant.{Constant}
use Rattle.module_scope.specs.Kept.{kept}
use Rattle.module_scope.specs.Givens.{given_parameter}
use Rattle.module_scope.proofs.Keeping.{given-there, given-put}
use Rattle.module_scope.proofs.given.keep_given.Goals as goal

pub returns-in-Some : goal.returns-in-Some
returns-in-Some c = given-there c.args.values.now (given_parameter c.args.given.now) c.in-Some.field-0 (sym (c.in-Some.ensures ∙ ap (kept c.args.values.now) c.as_bytes.ensures))

pub returns-in_ok-put-in-None : goal.returns-in_ok-put-in-None
returns-in_ok-put-in-None c =
    let value : Constant = record { value = c.args.given.now.value; signed = c.args.given.now.signed } in
    given-put c.args.values.now c.put.new.self (given_parameter c.args.given.now) value (sym (c.in-None.ensures ∙ ap (kept c.args.values.now) c.as_bytes.ensures)) refl
    (λ (other : List ℕ). c.in_ok-put-in-None.ensures other ∙ ap (λ (n : List ℕ). cond (same_name n other) (Some value) (kept c.args.values.now other)) c.as_bytes-in-None.ensures)

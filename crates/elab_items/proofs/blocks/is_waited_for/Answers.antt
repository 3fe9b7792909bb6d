use Rattle.std.proofs.Common.{◌≡◌, ℕ, true, false, ◌||◌, List, is_some, ap, sym, ◌∙◌}
use Rattle.v_tree.specs.Trees.{has_name}
use Rattle.v_elab.specs.Blocks.{parameter_names}
use Rattle.module_scope.specs.Kept.{kept}
use Rattle.elab_items.proofs.Names.{has-append}
use Rattle.elab_items.proofs.blocks.is_waited_for.Goals as goal

pub returns-then-is_some : goal.returns-then-is_some
returns-then-is_some c finds names known =
    let named : has_name names c.args.name.now ≡ true =
    sym (known c.args.name.now) ∙ ap (λ (n : List ℕ). is_some (kept c.args.waited.now n)) (sym c.as_bytes.ensures) ∙ ap is_some (sym c.get.ensures) ∙ sym c.is_some.ensures ∙ c.if-is_some.true in
    c.if-is_some.true ∙ sym (has-append names (parameter_names c.args.scope.now) c.args.name.now ∙ ap (λ b. b || has_name (parameter_names c.args.scope.now) c.args.name.now) named)

pub returns-else-is_some : goal.returns-else-is_some
returns-else-is_some c finds names known =
    let named : has_name names c.args.name.now ≡ false =
    sym (known c.args.name.now) ∙ ap (λ (n : List ℕ). is_some (kept c.args.waited.now n)) (sym c.as_bytes.ensures) ∙ ap is_some (sym c.get.ensures) ∙ sym c.is_some.ensures ∙ c.if-is_some.false in
    c.is_parameter.ensures finds ∙ sym (has-append names (parameter_names c.args.scope.now) c.args.name.now ∙ ap (λ b. b || has_name (parameter_names c.args.scope.now) c.args.name.now) named)

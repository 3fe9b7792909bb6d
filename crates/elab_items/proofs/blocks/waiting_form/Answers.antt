use Rattle.std.proofs.Common.{◌≡◌, ℕ, true, false, ◌++◌, List, refl, ap, sym, ◌∙◌}
use Rattle.std.specs.List.{list_all}
use Rattle.v_tree.specs.Trees.{has_name}
use Rattle.v_elab.specs.Blocks.{parameter_names}
use Rattle.elab_items.proofs.blocks.waiting_form.Goals as goal

pub returns-then-are_waited_for : goal.returns-then-are_waited_for
returns-then-are_waited_for c finds names known =
    let met : list_all (has_name (names ++ parameter_names c.args.scope.now)) c.in-Net.reads ≡ true =
    ap (λ (rs : List (List ℕ)). list_all (has_name (names ++ parameter_names c.args.scope.now)) rs) (sym c.as_slice.ensures) ∙ sym (c.are_waited_for.ensures finds names known)
    ∙ c.if-are_waited_for.true in
    rw (c.in-Net.is, met) refl

pub returns-else-are_waited_for : goal.returns-else-are_waited_for
returns-else-are_waited_for c finds names known =
    let met : list_all (has_name (names ++ parameter_names c.args.scope.now)) c.in-Net.reads ≡ false =
    ap (λ (rs : List (List ℕ)). list_all (has_name (names ++ parameter_names c.args.scope.now)) rs) (sym c.as_slice.ensures) ∙ sym (c.are_waited_for.ensures finds names known)
    ∙ c.if-are_waited_for.false in
    rw (c.in-Net.is, met) refl

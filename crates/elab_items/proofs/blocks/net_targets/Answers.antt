use Rattle.std.proofs.Common.{◌≡◌, ℕ, true, false, List, refl, ap, sym, ◌∙◌}
use Rattle.std.specs.List.{list_any}
use Rattle.v_names.specs.Scopes.{looked_up, is_memory}
use Rattle.elab_items.proofs.blocks.net_targets.Goals as goal

pub returns-then-has_memory : goal.returns-then-has_memory
returns-then-has_memory c =
    let any : list_any (λ (name : List ℕ). is_memory (looked_up c.args.scope.now name)) c.in-Net.targets ≡ true =
    ap (λ (ts : List (List ℕ)). list_any (λ (name : List ℕ). is_memory (looked_up c.args.scope.now name)) ts) (sym c.as_slice.ensures) ∙ sym c.has_memory.ensures ∙ c.if-has_memory.true in
    rw (c.in-Net.is, any) refl

pub returns : goal.returns
returns c =
    let any : list_any (λ (name : List ℕ). is_memory (looked_up c.args.scope.now name)) c.in-Net.targets ≡ false =
    ap (λ (ts : List (List ℕ)). list_any (λ (name : List ℕ). is_memory (looked_up c.args.scope.now name)) ts) (sym c.as_slice.ensures) ∙ sym c.has_memory.ensures ∙ c.if-has_memory.false in
    rw (c.in-Net.is, any) refl

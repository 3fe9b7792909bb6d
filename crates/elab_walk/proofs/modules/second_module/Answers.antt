use Rattle.std.proofs.Common.{◌≡◌, ◌<◌, List, length, get_or, is_some, subst, sym, ap, ◌∙◌}
use Rattle.v_tree.specs.Trees.{Identifier}
use Rattle.v_tree.specs.declared.item.Module.{Module}
use Rattle.module_scope.specs.Kept.{kept}
use Rattle.elab_walk.proofs.Named.{earlier-twice}
use Rattle.elab_walk.proofs.modules.second_module.Goals as goal

pub returns-then-is_some : goal.returns-then-is_some
returns-then-is_some c =
    earlier-twice c.args.unit.now.modules c.modules.module-index c.module-item.result c.modules.earlier _
    (subst (λ (ms : List Module). c.modules.module-index < length ms) c.as_slice-module-items.ensures c.modules-test.true)
    (subst (λ (ms : List Module). c.module-item.result ≡ get_or ms c.modules.module-index c.module-item.result) c.as_slice-module-items.ensures c.module-item.is)
    (ap (λ (n : Identifier). is_some (kept c.modules.earlier n)) (sym c.as_bytes.ensures) ∙ ap is_some (sym c.get.ensures) ∙ (sym c.is_some.ensures ∙ c.if-is_some.true)) c.modules.invariant

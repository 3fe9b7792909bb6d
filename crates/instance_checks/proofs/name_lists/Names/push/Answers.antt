use Rattle.std.proofs.Common.{ℕ, List, cond, Some, ap, ◌∙◌}
use Rattle.v_tree.specs.Trees.{same_name}
use Rattle.module_scope.specs.Kept.{kept}
use Rattle.instance_checks.specs.declared.name_lists.Names.{Names}
use Rattle.instance_checks.proofs.NameLaws.{names-push, kept-more}
use Rattle.instance_checks.proofs.name_lists.Names.push.Goals as goal

pub returns : goal.returns
returns c =
    let new : Names = record { order = c.push.new.self; places = c.put.new.self } in
    names-push c.args.name c.args.self.now new c.in_ok-push.ensures.items
    (λ (other : List ℕ). kept-more c.args.name.now other c.args.place (kept c.args.self.now.places other) (kept c.put.new.self other)
    (c.in_ok-put.ensures other ∙ ap (λ (n : List ℕ). cond (same_name n other) (Some c.args.place) (kept c.args.self.now.places other)) c.as_bytes.ensures))

use Rattle.std.proofs.Common.{ℕ, List, Some, cond, option_map, ap, sym, ◌∙◌}
use Rattle.v_tree.specs.Trees.{same_name}
use Rattle.module_scope.specs.Kept.{kept}
use Rattle.elab_parts.specs.PartViews.{joining_of}
use Rattle.elab_items.specs.Joins.{port_joined_of, joining_seen}
use Rattle.elab_items.proofs.Names.{joined-there, joined-new, seen-cond}
use Rattle.elab_items.proofs.joins.keep_first.Goals as goal

pub returns-in-Some : goal.returns-in-Some
returns-in-Some c =
    joined-there (λ (name : List ℕ). option_map joining_seen (kept c.args.joins.now name)) (port_joined_of c.args.joined.now) (joining_seen c.in-Some.field-0)
    (ap (option_map joining_seen) (sym (c.in-Some.ensures ∙ ap (kept c.args.joins.now) c.as_bytes.ensures)))

pub returns-in_ok-put-in-None : goal.returns-in_ok-put-in-None
returns-in_ok-put-in-None c =
    joined-new (λ (name : List ℕ). option_map joining_seen (kept c.args.joins.now name)) (λ (name : List ℕ). option_map joining_seen (kept c.put.new.self name)) (port_joined_of c.args.joined.now)
    (ap (option_map joining_seen) (sym (c.in-None.ensures ∙ ap (kept c.args.joins.now) c.as_bytes.ensures)))
    (λ (name : List ℕ). ap (option_map joining_seen) (c.in_ok-put-in-None.ensures name)
    ∙ seen-cond joining_seen (same_name _ name) _ (kept c.args.joins.now name)
    ∙ ap (λ (n : List ℕ). cond (same_name n name) (Some (joining_of c.args.joined.now.joining)) (option_map joining_seen (kept c.args.joins.now name))) c.as_bytes-in-None.ensures)

use Rattle.std.proofs.Common.{◌≡◌, ℕ, List, Some, cond, true, option_map, ap, sym, ◌∙◌, rules}
use Rattle.v_tree.specs.Trees.{same_name}
use Rattle.v_names.specs.Names.{is_plain}
use Rattle.module_scope.specs.Kept.{kept}
use Rattle.module_scope.specs.Declarations.{declaration_seen, declared_seen}
use Rattle.module_scope.proofs.Keeping.{plain-there, plain-put-seen}
use Rattle.module_scope.proofs.once.keep_plain.Goals as goal

pub returns-in-Some : goal.returns-in-Some
returns-in-Some c =
    plain-there (λ (name : List ℕ). option_map declaration_seen (kept c.args.plains.now name)) (declaration_seen c.args.declaration) (declaration_seen c.in-Some.field-0)
    (ap (option_map declaration_seen) (sym (c.in-Some.ensures ∙ ap (kept c.args.plains.now) c.as_bytes.ensures)))

pub returns-in_ok-put-in-None : goal.returns-in_ok-put-in-None
returns-in_ok-put-in-None c =
    let plain : is_plain (declared_seen c.args.declaration.declared) ≡ true = search rules in
    plain-put-seen declaration_seen (kept c.args.plains.now) (kept c.put.new.self) c.args.declaration (sym (c.in-None.ensures ∙ ap (kept c.args.plains.now) c.as_bytes.ensures)) plain
    (λ (other : List ℕ). c.in_ok-put-in-None.ensures other ∙ ap (λ (n : List ℕ). cond (same_name n other) (Some c.args.declaration) (kept c.args.plains.now other)) c.as_bytes-in-None.ensures)

use Rattle.std.proofs.Common.{ℕ, ◌+◌, List, Option, option_map, drop, ap, sym, ◌∙◌}
use Rattle.v_names.specs.Names as plain
use Rattle.v_names.specs.Names.{plain_of_name}
use Rattle.module_scope.specs.declared.declaration.Declaration.{Declaration}
use Rattle.module_scope.specs.Kept.{kept}
use Rattle.module_scope.specs.Declarations.{declaration_seen, declarations_seen, or_first}
use Rattle.module_scope.proofs.NamesOnce.{plain-turn}
use Rattle.name_checks.specs.Rows.{drop-step, drop-past}
use Rattle.module_scope.proofs.Keeping.{nothing-more}
use Rattle.module_scope.proofs.once.plain_declarations.Goals as goal

pub all-preserved : goal.all-preserved
all-preserved c = λ (name : List ℕ).
    ap (λ (o : Option plain.Declaration). or_first o (plain_of_name name (declarations_seen (drop (c.all.declaration-index + 1) c.args.all.now)))) (c.in_ok-keep_plain.ensures name)
    ∙ plain-turn (declaration_seen c.declaration-item.result) (declarations_seen (drop (c.all.declaration-index + 1) c.args.all.now)) name (option_map declaration_seen (kept c.all.plains name))
    ∙ ap (λ (ds : List Declaration). or_first (option_map declaration_seen (kept c.all.plains name)) (plain_of_name name (declarations_seen ds)))
    (sym (drop-step c.args.all.now c.all.declaration-index c.declaration-item.result c.all-test.true c.declaration-item.is))
    ∙ c.all.invariant name

pub returns : goal.returns
returns c = λ (name : List ℕ).
    nothing-more (option_map declaration_seen (kept c.all.plains name))
    ∙ ap (λ (ds : List Declaration). or_first (option_map declaration_seen (kept c.all.plains name)) (plain_of_name name (declarations_seen ds)))
    (sym (drop-past c.args.all.now c.all.declaration-index c.all-test.false))
    ∙ c.all.invariant name

use Rattle.std.proofs.Common.{List, [], ap, sym, subst, ◌∙◌}
use Rattle.v_names.specs.Names as plain
use Rattle.v_names.specs.Names.{first_declarations}
use Rattle.module_scope.specs.declared.declaration.Declaration.{Declaration}
use Rattle.module_scope.specs.Declarations.{declarations_seen}
use Rattle.module_scope.specs.Settled.{AreApart}
use Rattle.module_scope.proofs.Apart.{first-apart}
use Rattle.module_scope.proofs.by_name.declared_names.Goals as goal

pub returns-clause-declared : goal.returns-clause-declared
returns-clause-declared c =
    c.in_ok-list.ensures.once ∙ ap (λ (ds : List Declaration). first_declarations (declarations_seen ds) [] (declarations_seen ds)) c.deref.ensures.value
    ∙ ap (λ (ds : List plain.Declaration). first_declarations ds [] ds) c.in_ok-all.ensures.list

pub returns-clause-apart : goal.returns-clause-apart
returns-clause-apart c = subst AreApart (sym c.in_ok-list.ensures.once) (first-apart (declarations_seen c.deref.result.now) [] (declarations_seen c.deref.result.now))

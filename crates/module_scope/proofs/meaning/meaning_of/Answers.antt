use Rattle.std.proofs.Common.{option_map, ap₂, ◌∙◌}
use Rattle.v_names.specs.SizeViews.{signed_value}
use Rattle.module_scope.specs.Declarations.{declared_seen}
use Rattle.module_scope.specs.Meanings.{meaning_by, meaning-by}
use Rattle.module_scope.proofs.meaning.meaning_of.Goals as goal

pub returns-clause-meaning : goal.returns-clause-meaning
returns-clause-meaning c =
    c.in_ok-entry.ensures
    ∙ ap₂ (meaning_by c.args.scope.now (option_map signed_value c.args.given) (declared_seen c.args.declared)) c.in_ok-range.ensures.range.waits c.in_ok-range.ensures.range.range
    ∙ meaning-by c.args.scope.now (option_map signed_value c.args.given) (declared_seen c.args.declared)

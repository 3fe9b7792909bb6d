use Rattle.std.proofs.Common.{is_some, ap, sym, ◌∙◌}
use Rattle.module_scope.specs.Kept.{kept}
use Rattle.module_scope.proofs.Keeping.{seen-there}
use Rattle.module_scope.proofs.twice.note_head.Goals as goal

pub returns-in-Some-clause-earlier : goal.returns-in-Some-clause-earlier
returns-in-Some-clause-earlier c = seen-there (kept c.args.earlier.now) c.args.head.now.name (ap is_some (sym (c.in-Some.ensures ∙ ap (kept c.args.earlier.now) c.as_bytes.ensures)))

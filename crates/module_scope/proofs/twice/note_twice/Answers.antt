use Rattle.std.proofs.Common.{Bool, not, ℕ, List, cond, Option, Some, option_map, ap, ◌∙◌}
use Rattle.vf_base.specs.Base.{source_place}
use Rattle.v_tree.specs.Trees.{same_name}
use Rattle.v_names.specs.Faults.{DeclaredTwice, fault_if}
use Rattle.name_checks.specs.Noted.{noted}
use Rattle.module_scope.specs.declared.twice.Earlier.{Earlier}
use Rattle.module_scope.specs.Declarations.{declaration_seen}
use Rattle.module_scope.specs.Earlier.{earlier_seen, may_follow_earlier}
use Rattle.module_scope.specs.Kept.{kept}
use Rattle.module_scope.proofs.Grouping.{earlier-at, earlier-put}
use Rattle.module_scope.proofs.twice.note_twice.Goals as goal

pub may_follow-requires-clause-earlier : goal.may_follow-requires-clause-earlier
may_follow-requires-clause-earlier c =
    earlier-at c.args.groups.now (kept c.args.earlier.now) c.args.declaration.name.now c.get-before.result c.requires.earlier
    (c.get-before.ensures ∙ ap (kept c.args.earlier.now) c.as_bytes-name.ensures)

pub returns-clause-noted : goal.returns-clause-noted
returns-clause-noted c =
    c.note_unless.ensures ∙ ap (λ (b : Bool). noted c.args.first.now (fault_if (not b) (source_place c.args.declaration.place) DeclaredTwice))
    (c.in_ok-may.ensures.may ∙ ap (λ (o : Option Earlier). may_follow_earlier c.args.scope.now (option_map earlier_seen o) (declaration_seen c.args.declaration))
    (c.get-before.ensures ∙ ap (kept c.args.earlier.now) c.as_bytes-name.ensures))

pub returns-clause-grouped : goal.returns-clause-grouped
returns-clause-grouped c =
    earlier-put c.args.groups.now (kept c.args.earlier.now) (kept c.put.new.self) c.args.declaration.name.now c.with_one_more.result c.requires.earlier
    (c.with_one_more.ensures.grouped c.args.groups.now c.requires.grouped)
    (λ (other : List ℕ). c.in_ok-put.ensures other ∙ ap (λ (n : List ℕ). cond (same_name n other) (Some c.with_one_more.result) (kept c.args.earlier.now other)) c.as_bytes-name.ensures)

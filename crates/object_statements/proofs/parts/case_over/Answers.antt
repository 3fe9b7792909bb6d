use Rattle.std.proofs.Common.{ap, ◌∙◌}
use Rattle.vf_base.specs.Base.{source_place}
use Rattle.v_design.specs.Trees.{Case}
use Rattle.v_design.specs.Plain.{statement_of}
use Rattle.v_design.specs.PlainLemmas.{items_of, statement_of-Case}
use Rattle.object_statements.proofs.parts.case_over.Goals as goal

pub returns : goal.returns
returns c plain are =
    statement_of-Case c.args.place c.args.kind c.in_ok-value.value c.args.items c.args.default
    ∙ ap (λ x. Case (source_place c.args.place) c.args.kind x (items_of c.args.items.items) (statement_of c.args.default.value)) (c.in_ok-value.ensures plain are)

pub expr_at-requires : goal.expr_at-requires
expr_at-requires c = let r = c.requires in (r.0, r.1, r.2.1)

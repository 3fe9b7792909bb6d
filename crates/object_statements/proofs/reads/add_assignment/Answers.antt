use Rattle.std.proofs.Common.{◌++◌, List, map, flat_map, sym, ap, subst, ◌∙◌}
use Rattle.vf_base.specs.Lists.{AllHold}
use Rattle.vf_base.specs.Base.{object_number}
use Rattle.v_design.specs.Trees.{Target}
use Rattle.v_design.specs.Sized.{IsSizedTarget}
use Rattle.v_design.specs.Plain.{target_of}
use Rattle.v_design.specs.declared.tree.FlatTarget.{FlatTarget}
use Rattle.v_elab.specs.Statements.{index_objects_in_text}
use Rattle.object_statements.proofs.Rows.{then-more}
use Rattle.object_statements.proofs.reads.add_assignment.Goals as goal

pub returns : goal.returns
returns c plain are =
    then-more _ _ _ _ _
    (c.in_ok-add_indexes.ensures
    ∙ ap (λ (ts : List FlatTarget). map object_number c.args.objects.now.items ++ flat_map index_objects_in_text (map target_of ts)) c.deref.ensures.value
    ∙ ap (λ (ts : List Target). map object_number c.args.objects.now.items ++ flat_map index_objects_in_text ts) (c.in_ok-targets.ensures plain are))
    (c.in_ok-add_expr.ensures plain are)

pub add_indexes-requires : goal.add_indexes-requires
add_indexes-requires c =
    let r = c.requires in
    subst (AllHold IsSizedTarget) (sym (ap (λ (ts : List FlatTarget). map target_of ts) c.deref.ensures.value ∙ c.in_ok-targets.ensures r.0 r.1)) r.2.0.0

pub targets_over-requires : goal.targets_over-requires
targets_over-requires c = let r = c.requires in (r.0, r.1, r.2.0)

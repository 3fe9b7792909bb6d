use Rattle.std.proofs.Common.{◌≡◌, Bool, true, List, Some, ap, sym, ◌∙◌, rules}
use Rattle.v_tree.specs.Views.{expression_of, target_of}
use Rattle.v_comb.specs.CombinationalForm.{names_needed, whole_names}
use Rattle.v_comb.specs.Flags.{all_flagged, flag_names}
use Rattle.v_comb.proofs.Trees.{whole-listed, where-true}
use Rattle.v_comb.proofs.assigned.after_assignment.Goals as goal

pub returns : goal.returns
returns c =
    let holds : c.in_ok-assignment_is_flagged.field-0 ≡ true = search rules in
    ap (λ (fs : List Bool). Some fs) (c.flag_whole.ensures ∙ ap (flag_names c.args.targets.now c.args.flags.items) (whole-listed c.args.target.now c.selects.result.now c.selects.ensures))
    ∙ sym (where-true (all_flagged c.args.targets.now c.args.flags.items (names_needed (target_of c.args.target.now) (expression_of c.args.value.now)))
    (Some (flag_names c.args.targets.now c.args.flags.items (whole_names (target_of c.args.target.now))))
    (sym (c.in_ok-assignment_is_flagged.ensures ∙ ap (λ fs. all_flagged c.args.targets.now fs (names_needed (target_of c.args.target.now) (expression_of c.args.value.now))) c.deref.ensures.value)
    ∙ holds))

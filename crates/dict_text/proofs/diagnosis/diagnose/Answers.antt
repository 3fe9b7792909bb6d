-- The faults of a dictionary are found by walking side by side.
use Rattle.std.proofs.Common.{sym, subst}
use Rattle.v_design.specs.PlainDesigns.{design_of, plan_of}
use Rattle.v_design.specs.RulesHold.{plan_rules_hold}
use Rattle.kept_samples.specs.Kept.{samples_kept}
use Rattle.dict_text.specs.Merged.{AllMerge}
use Rattle.dict_text.proofs.Merging.{dictionary-merges}
use Rattle.dict_text.proofs.diagnosis.diagnose.Goals as goal

pub find_all-requires : goal.find_all-requires
find_all-requires c =
    subst (λ entries. AllMerge (samples_kept c.as_slice-good.result.now) entries) (sym c.as_slice.ensures)
    (subst (λ good. AllMerge (samples_kept good) c.args.dictionary.now.faults) (sym c.as_slice-good.ensures)
    (dictionary-merges (design_of c.args.design.now) (plan_of c.args.plan.now) c.args.dictionary.now (plan_rules_hold (plan_of c.args.plan.now) c.args.plan.now.rules) c.requires))

-- The texts of grades that exist.
use Rattle.std.proofs.Common.{ℕ, List, refl}
use Rattle.std.specs.Prelude.{is_some}
use Rattle.v_design.specs.Designs.{FlatDesign, TestPlan}
use Rattle.kept_samples.specs.Kept.{good_stop, good_samples}
use Rattle.dict_text.specs.Texts.{dict_text, diagnose_text}
use Rattle.pick_laws.specs.Hard.{hard_lists}
use Rattle.vf_pick.specs.Texts.{pick_text}
use Rattle.cert_laws.specs.Written.{certificate}
use Rattle.plan_report.specs.Reports.{wanted_text}
use Rattle.dict_report.specs.Outputs.{entries_of, Output, DictText, Diagnosis, PickText, IsText}
use Rattle.grades_exist.specs.Existing.{NeverLoops, GradesExist, GradeListsExist, FullGradeListsExist}
use Rattle.outputs_exist.specs.Existing.{ReportsExist, DictionaryOutputsExist, CertificatesExist}

pub reports-exist : GradeListsExist → ReportsExist
reports-exist lists = λ extent design text plan spelled never.
    let graded = lists design plan never in (
      wanted_text extent design plan.faults graded.0,
      record { plan = plan; spelled = spelled; lines = graded.0; grades = graded.1; no_loop = never; report_is = refl },
    )

over-dictionary : FullGradeListsExist → (output : Output) (design : FlatDesign) (plan : TestPlan) → NeverLoops design plan → (text : List ℕ) × IsText output design plan text
over-dictionary lists DictText design plan never =
    let graded = lists design plan never in (
      dict_text design plan.faults (good_samples design plan) (entries_of design plan graded.0),
      record { grades = graded.0; full = graded.1; no_loop = never; text_is = refl },
    )
over-dictionary lists (Diagnosis response) design plan never =
    let graded = lists design plan never in (
      diagnose_text design plan.faults (is_some (good_stop design plan)) response (good_samples design plan) (entries_of design plan graded.0),
      record { grades = graded.0; full = graded.1; no_loop = never; text_is = refl },
    )
over-dictionary lists PickText design plan never = (pick_text design plan.faults plan.strobes (hard_lists design plan), record { no_loop = never; text_is = refl })

pub dictionary-outputs-exist : FullGradeListsExist → DictionaryOutputsExist
dictionary-outputs-exist lists = over-dictionary lists

pub certificates-exist : GradesExist → CertificatesExist
certificates-exist grades = λ design plan place fault there never.
    let graded = grades design plan fault never in (
      certificate design plan fault graded.0,
      record { fault = fault; is_listed = there; no_loop = never; line = graded.0; graded = graded.1; text_is = refl },
    )

-- Where outputs exist (slots by IEEE 1364-2001, clause 5).
use Rattle.std.specs.Prelude.{◌≡◌, ℕ, List, Some}
use Rattle.v_design.specs.Designs.{FlatDesign, StuckAt, TestPlan}
use Rattle.plan_read.specs.Spelled.{Spells}
use Rattle.plan_report.specs.declared.extent.Extent.{Extent}
use Rattle.plan_report.specs.Reports.{IsReport}
use Rattle.dict_report.specs.Outputs.{Output, IsText}
use Rattle.cert_report.specs.Certificates.{listed, IsCertificateText}
use Rattle.design_report.specs.Texts.{IsFaultsText}
use Rattle.grades_exist.specs.Existing.{NeverLoops}

-- where the good machine never loops a text that spells the plan has its report, whole or in totals
abbrev pub ReportsExist : Type 0
ReportsExist =
    (extent : Extent) (design : FlatDesign) (text : List ℕ) (plan : TestPlan) → Spells design text plan → NeverLoops design plan → (report : List ℕ) × IsReport extent design text report

-- where the good machine never loops each output over the dictionary is there
abbrev pub DictionaryOutputsExist : Type 0
DictionaryOutputsExist = (output : Output) (design : FlatDesign) (plan : TestPlan) → NeverLoops design plan → (text : List ℕ) × IsText output design plan text

-- where the good machine never loops each listed fault has its certificate
abbrev pub CertificatesExist : Type 0
CertificatesExist =
    (design : FlatDesign) (plan : TestPlan) (place : ℕ) (fault : StuckAt) → listed plan place ≡ Some fault → NeverLoops design plan → (text : List ℕ) × IsCertificateText design plan place text

-- no design is without the list of its faults: each fault is one of its own class, so that there can't be none that is the first of it
abbrev pub FaultsTextsExist : Type 0
FaultsTextsExist = (design : FlatDesign) → ((text : List ℕ) → IsFaultsText design text → ⊥) → ⊥

-- What the code's forms stand for (nothing of the language).
use Rattle.vf_words.specs.declared.words.Source.{Source}
use Rattle.vf_words.specs.declared.words.Form.{Form}
use Rattle.vf_words.specs.declared.words.Form.TheVariants.{Grade as GradeWords, Check as CheckWords, Faults as FaultsWords, Soak as SoakWords, Dict as DictWords, Diagnose as DiagnoseWords}
use Rattle.vf_words.specs.declared.words.Form.TheVariants.{Certify as CertifyWords, Audit as AuditWords, Pick as PickWords}
use Rattle.vf_words.specs.Words as plain

-- a design
abbrev pub plain_source : Source → plain.Source
plain_source source = record { design = source.design.now; top = source.top.now; mode = source.mode }

-- a form
abbrev pub plain_form : Form → plain.Form
plain_form (GradeWords source plan workers) = plain.Grade (plain_source source) plan.now workers
plain_form (CheckWords source) = plain.Check (plain_source source)
plain_form (FaultsWords source) = plain.Faults (plain_source source)
plain_form (SoakWords number size workers) = plain.Soak number size workers
plain_form (DictWords source plan) = plain.Dict (plain_source source) plan.now
plain_form (DiagnoseWords source plan response) = plain.Diagnose (plain_source source) plan.now response.now
plain_form (CertifyWords source plan fault) = plain.Certify (plain_source source) plan.now fault
plain_form (AuditWords source plan cert) = plain.Audit (plain_source source) plan.now cert.now
plain_form (PickWords source plan) = plain.Pick (plain_source source) plan.now

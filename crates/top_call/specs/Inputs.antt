-- What a form needs of its files to have an output (slots by IEEE 1364-2001, clause 5; the rest is this program's own).
use Rattle.std.specs.Prelude.{◌≡◌, ℕ, List, codes, Some, None}
use Rattle.vf_base.specs.Shelf.{Files}
use Rattle.v_design.specs.Designs.{FlatDesign, TestPlan, StuckAt}
use Rattle.v_design.specs.Grades.{Sample}
use Rattle.v_elab.specs.declared.Mode.TheVariants.{Usual}
use Rattle.vf_status.specs.elaborate.Meanings as texts
use Rattle.plan_read.specs.Spelled as plans
use Rattle.soak_text.specs.Soak as soaks
use Rattle.outputs_exist.specs.grades_exist.Existing.{NeverLoops}
use Rattle.dict_text.specs.Dictionaries.{too_large}
use Rattle.outputs_exist.specs.cert_report.Certificates.{listed}
use Rattle.vf_words.specs.Words.{Source, Form, Grade, Check, Faults, Soak, Dict, Diagnose, Certify, Audit, Pick, Fits}
use Rattle.vf_status.specs.declared.status.Which.TheVariants as whiches
use Rattle.top_call.specs.Answers.{Outputs, IsFile, HoldResponse, IsAnswer}

-- a text that says the design
pub record SaysDesign (files : Files) (source : Source) (design : FlatDesign) : Type 0 where
  pub bytes : List ℕ
  pub file : IsFile files source.design whiches.Design bytes
  pub says : texts.IsDesignOf bytes source.top source.mode design

-- a text that spells the plan over the design
pub record SpellsPlan (files : Files) (name : List ℕ) (design : FlatDesign) (test : TestPlan) : Type 0 where
  pub bytes : List ℕ
  pub file : IsFile files name whiches.Plan bytes
  pub spells : plans.Spells design bytes test

-- texts that say a design and spell a plan over it, and what else is needed of these two
pub record HasTest (files : Files) (source : Source) (plan : List ℕ) (needs : FlatDesign → TestPlan → Type 0) : Type 0 where
  pub design : FlatDesign
  pub says : SaysDesign files source design
  pub test : TestPlan
  pub spells : SpellsPlan files plan design test
  pub has : needs design test

-- the dictionary isn't too large, and the good machine never loops before a race of its own
abbrev pub NeedsDictionary : FlatDesign → TestPlan → Type 0
NeedsDictionary design test = (too_large test ≡ None) × NeverLoops design test

-- so it is for a dictionary, and there is a text that spells a response to the plan
abbrev pub NeedsResponse : Files → List ℕ → FlatDesign → TestPlan → Type 0
NeedsResponse files response design test = NeedsDictionary design test × ((observed : List Sample) × HoldResponse files response test observed)

-- a fault is listed at the place, and the good machine never loops before a race of its own
abbrev pub NeedsFault : ℕ → FlatDesign → TestPlan → Type 0
NeedsFault place design test = ((fault : StuckAt) × (listed test place ≡ Some fault)) × NeverLoops design test

-- a certificate's file; whatever it holds is audited
abbrev pub NeedsCert : Files → List ℕ → FlatDesign → TestPlan → Type 0
NeedsCert files cert design test = (bytes : List ℕ) × IsFile files cert whiches.Cert bytes

-- the good machine of the generated design never loops before a race of its own
abbrev pub NeedsSoak : ℕ → ℕ → Type 0
NeedsSoak number size =
    (design : FlatDesign) (test : TestPlan) → texts.IsDesignOf (soaks.design_text number size) (codes "top") Usual design → plans.Spells design (soaks.plan_text size) test → NeverLoops design test

-- the files hold what the form needs: of a design its text; of a plan its text, and that the good machine doesn't loop where it runs; nothing of files for `soak`
abbrev pub HasInput : Form → Files → Type 0
HasInput (Grade source plan workers) files = HasTest files source plan NeverLoops
HasInput (Check source) files = (design : FlatDesign) × SaysDesign files source design
HasInput (Faults source) files = (design : FlatDesign) × SaysDesign files source design
HasInput (Soak number size workers) files = NeedsSoak number size
HasInput (Dict source plan) files = HasTest files source plan NeedsDictionary
HasInput (Diagnose source plan response) files = HasTest files source plan (NeedsResponse files response)
HasInput (Certify source plan fault) files = HasTest files source plan (NeedsFault fault)
HasInput (Audit source plan cert) files = HasTest files source plan (NeedsCert files cert)
HasInput (Pick source plan) files = HasTest files source plan NeedsDictionary

-- no form that has what it needs is without an output
abbrev pub AnswersExist : Type 0
AnswersExist = (form : Form) (files : Files) → Fits form → HasInput form files → ((text : List ℕ) → IsAnswer form files (Outputs text) → ⊥) → ⊥

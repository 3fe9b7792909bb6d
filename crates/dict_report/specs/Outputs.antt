-- What a design and a plan mean: the text of their dictionary, the diagnosis of a response, the text of the picked strobes; or the loop for which there is none
-- (first runs by IEEE 1364-2001, clause 5; the formats are this program's own).
use Rattle.std.specs.Prelude.{◌≡◌, ℕ, List, map, Some, Result, Ok, Err, is_some}
use Rattle.std.specs.List.{AllZip}
use Rattle.v_design.specs.Designs.{FlatDesign, TestPlan}
use Rattle.v_design.specs.Grades.{Sample, FullGrade, full_grade}
use Rattle.vf_dict.specs.fault_grade.Results.{LoopsAt}
use Rattle.kept_samples.specs.Kept.{good_seen, good_stop, good_samples}
use Rattle.dict_text.specs.Texts.{Entry, entry_of, dict_text, diagnose_text}
use Rattle.pick_laws.specs.Hard.{hard_lists}
use Rattle.vf_pick.specs.Texts.{pick_text}
use Rattle.dict_report.specs.declared.fault.OutputFault.{OutputFault}
use Rattle.dict_report.specs.declared.fault.OutputFault.TheVariants.{GoodLoop, NoMemory}

-- Texts

-- the good machine's first run isn't hyperactive up to the plan's end before a race of its own
abbrev pub NeverLoops : FlatDesign → TestPlan → Type 0
NeverLoops design plan = (time : ℕ) → LoopsAt design plan time → ⊥

-- the listed faults have these full grades, in list order
abbrev pub AreFullGrades : FlatDesign → TestPlan → List FullGrade → Type 0
AreFullGrades design plan grades = AllZip (λ fault full. full_grade design plan fault ≡ Some full) plan.faults grades

-- what is told of each fault: how its grading ended, or its samples that differ from the good machine's
abbrev pub entries_of : FlatDesign → TestPlan → List FullGrade → List Entry
entries_of design plan grades = map (entry_of (good_seen design plan)) grades

-- the text of the dictionary: the good samples, and each listed fault with its full grade; the good machine doesn't loop up to the plan's end before a race of its own
pub record IsDictText (design : FlatDesign) (plan : TestPlan) (text : List ℕ) : Type 0 where
  pub grades : List FullGrade
  pub full : AreFullGrades design plan grades
  pub no_loop : NeverLoops design plan
  pub text_is : text ≡ dict_text design plan.faults (good_samples design plan) (entries_of design plan grades)

-- the diagnosis of a response: how the good machine, where it has no race, and each listed fault by its full grade fit it
pub record IsDiagnosis (design : FlatDesign) (plan : TestPlan) (response : List Sample) (text : List ℕ) : Type 0 where
  pub grades : List FullGrade
  pub full : AreFullGrades design plan grades
  pub no_loop : NeverLoops design plan
  pub text_is : text ≡ diagnose_text design plan.faults (is_some (good_stop design plan)) response (good_samples design plan) (entries_of design plan grades)

-- the text of the strobes that are picked by the hard strobes of all listed faults
pub record IsPickText (design : FlatDesign) (plan : TestPlan) (text : List ℕ) : Type 0 where
  pub no_loop : NeverLoops design plan
  pub text_is : text ≡ pick_text design plan.faults plan.strobes (hard_lists design plan)

-- Meanings

-- which output of a design and a plan
pub data Output : Type 0 where
  DictText : Output
  Diagnosis : (response : List Sample) → Output
  PickText : Output

-- the output's text
abbrev pub IsText : Output → FlatDesign → TestPlan → List ℕ → Type 0
IsText DictText design plan text = IsDictText design plan text
IsText (Diagnosis response) design plan text = IsDiagnosis design plan response text
IsText PickText design plan text = IsPickText design plan text

-- the reason why there is no output; want of memory is none
abbrev pub IsFaultOf : FlatDesign → TestPlan → OutputFault → Type 0
IsFaultOf design plan (GoodLoop time) = LoopsAt design plan time
IsFaultOf design plan NoMemory = ⊥

-- what the design and the plan mean
abbrev pub Means : Output → FlatDesign → TestPlan → Result (List ℕ) OutputFault → Type 0
Means output design plan (Ok text) = IsText output design plan text
Means output design plan (Err fault) = IsFaultOf design plan fault

-- this is what the design and the plan mean, and they mean nothing else
pub record IsTheMeaning (output : Output) (design : FlatDesign) (plan : TestPlan) (meaning : Result (List ℕ) OutputFault) : Type 0 where
  pub means : Means output design plan meaning
  pub only : (other : Result (List ℕ) OutputFault) → Means output design plan other → other ≡ meaning

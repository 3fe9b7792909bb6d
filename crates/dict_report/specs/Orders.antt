-- What the lines of the outputs say of every legal order of events (IEEE 1364-2001, clause 5).
use Rattle.std.specs.Prelude.{◌≡◌, ◌↔◌, ℕ, List, ◌∷◌, ◌++◌, map, Some, None, IsSome, MatchOption, is_some, slice_get}
use Rattle.std.specs.List.{AllZip}
use Rattle.v_design.specs.Designs.{FlatDesign, Machine, StuckAt, TestPlan, good_machine, faulty_machine}
use Rattle.v_design.specs.States.{State}
use Rattle.v_design.specs.Runs.{Move, IsLegal}
use Rattle.v_design.specs.Grades.{Sample, Detected, FaultGrade, Judged, Raced, Looped, grade, FullGrade, full_grade}
use Rattle.v_design.specs.WellFormed.{KeepsRules, IsPlan}
use Rattle.v_design.specs.Laws.{EveryOrderGives, NamesConflict, machine_of, IsHyperAt}
use Rattle.order_laws.specs.Reports.{HasOrder}
use Rattle.kept_samples.specs.Kept.{good_stop}
use Rattle.dict_laws.specs.Responses.{Fit, fit}
use Rattle.dict_laws.specs.Known.{seen_in, AreItsSamples}
use Rattle.dict_text.specs.Texts.{Entry, patched, Found, Flagged, Fits, found_of, dict_text, diagnose_text}
use Rattle.pick_laws.specs.Hard.{hard_lists, with_strobes}
use Rattle.pick_laws.specs.Detections.{IsDetected, kept_of}
use Rattle.vf_pick.specs.Texts.{fault_needing, pick_text}
use Rattle.dict_report.specs.Outputs.{Output, DictText, Diagnosis, PickText, IsText}

-- Dictionaries

-- what ends a full grade is no verdict: a race names two conflicting accesses of one legal order of its side, and a loop is one of the faulty machine's first run
abbrev pub EndHolds : FlatDesign → StuckAt → FaultGrade → Type 0
EndHolds design fault (Judged verdict) = ⊥
EndHolds design fault (Raced side pair) = NamesConflict (machine_of side design fault) pair
EndHolds design fault (Looped time) = IsHyperAt (faulty_machine design fault) time

-- What is told of a fault: where it has no end, each legal run of its faulty machine to the plan's end has the good samples with those of the fault that differ in their stead,
-- and there is such a run; else its end.
abbrev pub EntryHolds : FlatDesign → TestPlan → List Sample → StuckAt → Entry → Type 0
EntryHolds design plan good fault entry = MatchOption entry.end (AreItsSamples (faulty_machine design fault) plan (patched good entry.differs)) (EndHolds design fault)

-- the text of a dictionary; where the good machine's first run has no race up to the plan's end, its samples are those of each of its legal runs
pub record DictHolds (design : FlatDesign) (plan : TestPlan) (text : List ℕ) : Type 0 where
  pub good : List Sample
  pub entries : List Entry
  pub text_is : text ≡ dict_text design plan.faults good entries
  pub good_holds : good_stop design plan ≡ None → AreItsSamples (good_machine design) plan good
  pub faults_hold : AllZip (EntryHolds design plan good) plan.faults entries

-- Diagnoses

-- each legal run of a machine to the plan's end has samples that fit a response so, and there is such a run
pub record FitsInEachOrder (machine : Machine) (plan : TestPlan) (response : List Sample) (how : Fit) : Type 0 where
  pub each : (moves : List Move) (final : State) → IsLegal machine plan.end moves final → fit response (seen_in machine plan moves) ≡ how
  pub some : HasOrder machine plan.end

-- the full grade of a fault has no end
pub record HasNoEnd (design : FlatDesign) (plan : TestPlan) (fault : StuckAt) : Type 0 where
  pub full : FullGrade
  pub is_full : full_grade design plan fault ≡ Some full
  pub endless : full.end ≡ None

-- the full grade of a fault has an end
pub record HasEnd (design : FlatDesign) (plan : TestPlan) (fault : StuckAt) : Type 0 where
  pub full : FullGrade
  pub is_full : full_grade design plan fault ≡ Some full
  pub ended : IsSome full.end

-- What a diagnosis says of a fault: it fits exactly where it has no end and each legal run of its faulty machine fits so; possibly, and contradicted, in the same way; and it is
-- flagged exactly where it has an end.
pub record FoundHolds (design : FlatDesign) (plan : TestPlan) (response : List Sample) (fault : StuckAt) (found : Found) : Type 0 where
  pub fits : (how : Fit) → (found ≡ Fits how) ↔ (HasNoEnd design plan fault × FitsInEachOrder (faulty_machine design fault) plan response how)
  pub flagged : (found ≡ Flagged) ↔ HasEnd design plan fault

-- the text of a diagnosis; where the good machine's first run has no race, how it fits is how each of its legal runs does
pub record DiagnosisHolds (design : FlatDesign) (plan : TestPlan) (response : List Sample) (text : List ℕ) : Type 0 where
  pub good : List Sample
  pub entries : List Entry
  pub text_is : text ≡ diagnose_text design plan.faults (is_some (good_stop design plan)) response good entries
  pub good_holds : good_stop design plan ≡ None → (how : Fit) → (fit response good ≡ how) ↔ FitsInEachOrder (good_machine design) plan response how
  pub faults_hold : AllZip (FoundHolds design plan response) plan.faults (map (found_of response good) entries)

-- Picked strobes

-- a fault is detected under a plan: each pair of legal orders of the good and the faulty machine, run apart to one time, gives the detection, and there are such orders
pub record IsDetectedInEachOrder (design : FlatDesign) (plan : TestPlan) (fault : StuckAt) : Type 0 where
  pub time : ℕ
  pub grade_is : grade design plan fault ≡ Some (Judged (Detected time))
  pub each : EveryOrderGives design plan fault time (Detected time)
  pub good_order : HasOrder (good_machine design) time
  pub faulty_order : HasOrder (faulty_machine design fault) time

-- with a kept strobe a listed fault is printed that the other kept ones don't detect
pub record IsNeeded (design : FlatDesign) (plan : TestPlan) (before : List ℕ) (strobe : ℕ) (after : List ℕ) : Type 0 where
  pub fault : StuckAt
  pub printed : fault_needing (kept_of design plan) strobe plan.faults (hard_lists design plan) ≡ Some fault
  pub place : ℕ
  pub listed : slice_get plan.faults place ≡ Some fault
  pub lost : IsDetected design (with_strobes plan (before ++ after)) fault → ⊥

-- the text of the picked strobes: each listed fault that the plan detects is detected by the kept ones alone, in each pair of legal orders, and none of them can go
pub record PickHolds (design : FlatDesign) (plan : TestPlan) (text : List ℕ) : Type 0 where
  pub text_is : text ≡ pick_text design plan.faults plan.strobes (hard_lists design plan)
  pub detect : (place : ℕ) (fault : StuckAt) → slice_get plan.faults place ≡ Some fault → IsDetected design plan fault → IsDetectedInEachOrder design (with_strobes plan (kept_of design plan)) fault
  pub none_can_go : (before : List ℕ) (strobe : ℕ) (after : List ℕ) → kept_of design plan ≡ before ++ strobe ∷ after → IsNeeded design plan before strobe after

-- Outputs

-- what the lines of an output say holds in every legal order
abbrev pub HoldsInEveryOrder : Output → FlatDesign → TestPlan → List ℕ → Type 0
HoldsInEveryOrder DictText design plan text = DictHolds design plan text
HoldsInEveryOrder (Diagnosis response) design plan text = DiagnosisHolds design plan response text
HoldsInEveryOrder PickText design plan text = PickHolds design plan text

-- what an output is by its definition holds so
abbrev pub OutputsHold : Type 0
OutputsHold = (output : Output) (design : FlatDesign) (plan : TestPlan) (text : List ℕ) → KeepsRules design → IsPlan plan → IsText output design plan text → HoldsInEveryOrder output design plan text

-- What a grader keeps of the samples that it was shown (bits by IEEE 1364-2001, clause 3.1).
use Rattle.std.specs.Prelude.{◌≡◌, ℕ, ◌<◌, Bool, true, false, List, [], ◌∷◌, ◌++◌, length, Option, Some, None, refl, find, cond}
use Rattle.std.proofs.Common.{ap, sym, subst, ◌∙◌}
use Rattle.four_value.specs.Values.{LogicValue}
use Rattle.four_value.specs.declared.logic.Bit.{Bit}
use Rattle.vf_base.specs.Base.{WatchedBit}
use Rattle.strobe_detect.specs.Firsts.{first_time}
use Rattle.v_design.specs.Grades.{Samples, is_hard, is_possible, some_sample, first_strobe, verdict, verdict_by}

-- the watched bits, and the times of the first strobe with a hard detection and of the first with a possible one
pub record GraderState : Type 0 where
  pub watched : List WatchedBit
  pub hard : Option ℕ
  pub possible : Option ℕ

-- values have the object of a watched bit
abbrev pub IsWatched : List LogicValue → WatchedBit → Type 0
IsWatched values bit = bit.object < length values

-- the grader after a strobe with these samples
abbrev pub shown_at : ℕ → List Bit → List Bit → GraderState → GraderState
shown_at time good faulty grader =
    record grader {
      hard = first_time grader.hard (some_sample is_hard good faulty) time;
      possible = first_time grader.possible (some_sample is_possible good faulty) time;
    }

-- a grader was shown the samples of some strobes, in order
pub record IsShown (good faulty : Samples) (strobes : List ℕ) (grader : GraderState) : Type 0 where
  pub hard_is : grader.hard ≡ first_strobe is_hard good faulty strobes
  pub possible_is : grader.possible ≡ first_strobe is_possible good faulty strobes

-- the first strobe that passes a test, where one more comes last
find-push : (test : ℕ → Bool) (strobes : List ℕ) (time : ℕ) → find test (strobes ++ time ∷ []) ≡ first_time (find test strobes) (test time) time
find-push test [] time = last (test time)
  where
    last : (b : Bool) → cond b (Some time) None ≡ first_time None b time
    last true = refl
    last false = refl
find-push test (strobe ∷ strobes) time = earlier (test strobe) (find-push test strobes time)
  where
    earlier : (b : Bool) → find test (strobes ++ time ∷ []) ≡ first_time (find test strobes) (test time) time
        → cond b (Some strobe) (find test (strobes ++ time ∷ [])) ≡ first_time (cond b (Some strobe) (find test strobes)) (test time) time
    earlier true rest = refl
    earlier false rest = rest

-- a grader that was shown no strobe
pub shown-none : (good faulty : Samples) (watched : List WatchedBit) → IsShown good faulty [] (record { watched = watched; hard = None; possible = None })
shown-none good faulty watched = record { hard_is = refl; possible_is = refl }

-- a grader that is shown one strobe more
pub shown-more : (good faulty : Samples) (strobes : List ℕ) (time : ℕ) (grader : GraderState) → IsShown good faulty strobes grader
    → IsShown good faulty (strobes ++ time ∷ []) (shown_at time (good time) (faulty time) grader)
shown-more good faulty strobes time grader shown = record {
  hard_is =
      ap (λ first. first_time first (some_sample is_hard (good time) (faulty time)) time) shown.hard_is
      ∙ sym (find-push (λ strobe. some_sample is_hard (good strobe) (faulty strobe)) strobes time);
  possible_is =
      ap (λ first. first_time first (some_sample is_possible (good time) (faulty time)) time) shown.possible_is
      ∙ sym (find-push (λ strobe. some_sample is_possible (good strobe) (faulty strobe)) strobes time);
}

-- the same, where the samples of both machines are these
pub shown-next : (good faulty : Samples) (strobes : List ℕ) (time : ℕ) (g f : List Bit) (old new : GraderState) → new ≡ shown_at time g f old → IsShown good faulty strobes old
    → g ≡ good time → f ≡ faulty time → IsShown good faulty (strobes ++ time ∷ []) new
shown-next good faulty strobes time g f old new is shown same_good same_faulty =
    let Next : GraderState → Type 0 = IsShown good faulty (strobes ++ time ∷ []) in
    subst Next (sym (is ∙ (ap (λ bits. shown_at time bits f old) same_good ∙ ap (λ bits. shown_at time (good time) bits old) same_faulty))) (shown-more good faulty strobes time old shown)

-- its verdict is that of the samples
pub shown-verdict : (good faulty : Samples) (strobes : List ℕ) (grader : GraderState) → IsShown good faulty strobes grader
    → verdict_by grader.hard grader.possible ≡ verdict good faulty strobes
shown-verdict good faulty strobes grader shown =
    ap (λ hard. verdict_by hard grader.possible) shown.hard_is ∙ ap (verdict_by (first_strobe is_hard good faulty strobes)) shown.possible_is

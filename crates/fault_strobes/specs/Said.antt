-- What strobes said of a fault so far that is judged by them, or of one whose samples are kept (strobes by the plan; bits by IEEE 1364-2001, clause 3.1).
use Rattle.std.specs.Prelude.{◌≡◌, ℕ, ◌++◌, ◌∷◌, Bool, true, false, List, [], Option, None}
use Rattle.four_value.specs.declared.logic.Bit.{Bit}
use Rattle.v_design.specs.Designs.{TestPlan}
use Rattle.v_design.specs.Grades.{Samples, Sample, samples_at, is_hard, is_possible, some_sample, first_strobe, Verdict, Undetected, verdict_by}
use Rattle.kept_samples.specs.Plain.{differing}
use Rattle.strobe_detect.specs.Firsts.{first_time}

pub data Said : Type 0 where
  -- the fault is judged: the first strobe with a possible detection, if there was one
  Judging : (possible : Option ℕ) → Said
  -- its samples are kept: those that differ from the good machine's
  Keeping : (differs : List Sample) → Said

-- whether the samples of a fault are kept
abbrev pub keeps : Said → Bool
keeps (Judging possible) = false
keeps (Keeping differs) = true

-- the strobes that may end the grading of a fault: none does where its samples are kept; and the plan with these alone
abbrev pub ending_strobes : Bool → List ℕ → List ℕ
ending_strobes false strobes = strobes
ending_strobes true strobes = []

abbrev pub plan_by : Bool → TestPlan → TestPlan
plan_by kept plan = record plan { strobes = ending_strobes kept plan.strobes }

-- before the first strobe nothing was said
abbrev pub SaysNothing : Said → Type 0
SaysNothing (Judging possible) = possible ≡ None
SaysNothing (Keeping differs) = differs ≡ []

-- what a further strobe says, at which the machines show these bits
abbrev pub said_at : ℕ → List Bit → List Bit → Said → Said
said_at time good faulty (Judging possible) = Judging (first_time possible (some_sample is_possible good faulty) time)
said_at time good faulty (Keeping differs) = Keeping (differs ++ differing (λ at. good) (record { time = time; bits = faulty } ∷ []))

-- whether it ends the grading
abbrev pub ends_there : List Bit → List Bit → Said → Bool
ends_there good faulty (Judging possible) = some_sample is_hard good faulty
ends_there good faulty (Keeping differs) = false

-- some strobes, none of which ended the grading, said this
abbrev pub IsSaid : Samples → Samples → List ℕ → Said → Type 0
IsSaid good faulty strobes (Judging possible) = (first_strobe is_hard good faulty strobes ≡ None) × (possible ≡ first_strobe is_possible good faulty strobes)
IsSaid good faulty strobes (Keeping differs) = differs ≡ differing good (samples_at faulty strobes)

-- the verdict of strobes that ended no grading
abbrev pub verdict_said : Said → Verdict
verdict_said (Judging possible) = verdict_by None possible
verdict_said (Keeping differs) = Undetected

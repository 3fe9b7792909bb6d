-- The verdict of the samples of both machines (bits by IEEE 1364-2001, clause 3.1).
use Rattle.std.specs.Prelude.{ℕ, Bool, List, [], ◌∷◌, Option, Some, None, cond}
use Rattle.four_value.specs.declared.logic.Bit.{Bit}
use Rattle.v_design.specs.Grades.{is_hard, is_possible, some_sample, Sample, Verdict, verdict_by}
use Rattle.vf_audit.specs.declared.strobes.Test.{Test}
use Rattle.vf_audit.specs.declared.strobes.Test.TheVariants as tests

-- the test of the good and the faulty bit
abbrev pub test_of : Test → Bit → Bit → Bool
test_of tests.Hard = is_hard
test_of tests.Possible = is_possible

-- the time of the first strobe at which some watched bit passes a test, by the samples of both machines at the same strobes
abbrev pub first_sample : (Bit → Bit → Bool) → List Sample → List Sample → Option ℕ
first_sample test [] faulty = None
first_sample test (seen ∷ good) [] = None
first_sample test (seen ∷ good) (own ∷ faulty) = cond (some_sample test seen.bits own.bits) (Some seen.time) (first_sample test good faulty)

-- the first strobe with a hard detection, else the first with a possible one
abbrev pub verdict_in : List Sample → List Sample → Verdict
verdict_in good faulty = verdict_by (first_sample is_hard good faulty) (first_sample is_possible good faulty)

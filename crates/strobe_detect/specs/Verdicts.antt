-- A grade as plain data (nothing of the language).
use Rattle.v_design.specs.Grades as plain
use Rattle.strobe_detect.specs.declared.grader.Grade.{Grade}
use Rattle.strobe_detect.specs.declared.grader.Grade.TheVariants.{Detected, Possible, Undetected}

-- the verdict that a grade stands for
abbrev pub verdict_view : Grade → plain.Verdict
verdict_view (Detected time) = plain.Detected time
verdict_view (Possible time) = plain.Possible time
verdict_view Undetected = plain.Undetected

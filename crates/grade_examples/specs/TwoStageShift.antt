-- Two clocked registers with nonblocking updates: the kept strobes, the certificate of q1 held at 1, and that certificate with the steps of two processes exchanged in the good slot of time 5.
use Rattle.std.specs.Prelude.{◌≡◌, refl, true, List, [], ◌∷◌, Some, None}
use Rattle.v_design.specs.Designs.{StuckAt}
use Rattle.v_design.specs.Grades.{Detected}
use Rattle.run_examples.specs.Build.{variable_fault}
use Rattle.run_examples.specs.Clocked as shift
use Rattle.cert_laws.specs.Claims.{Says}
use Rattle.cert_laws.specs.Replays.{SlotAt, PhaseNumber, StepsOf, UpdatesOf}
use Rattle.cert_laws.specs.Valid.{CertLine, GoodBegins, FaultyBegins, Runs, Closes, Before, failing_from}
use Rattle.cert_laws.specs.Written.{lines_by}
use Rattle.pick_laws.specs.Kept.{kept_strobes}
use Rattle.pick_laws.specs.Hard.{hard_lists}

abbrev pub stuck : StuckAt
stuck = variable_fault 2 0 true

abbrev pub certificate_lines : List CertLine
certificate_lines =
    GoodBegins ∷ Runs (SlotAt 0) ∷ Runs (StepsOf 0 1) ∷ Runs (StepsOf 1 1) ∷ Runs (StepsOf 2 1) ∷ Runs (SlotAt 5) ∷ Runs (StepsOf 0 4) ∷ Runs (StepsOf 1 4) ∷ Runs (StepsOf 2 4) ∷
    Runs (PhaseNumber 2) ∷ Runs (UpdatesOf 1 1) ∷ Runs (UpdatesOf 2 1) ∷ Runs (SlotAt 10) ∷ Runs (StepsOf 0 4) ∷ FaultyBegins ∷ Runs (SlotAt 0) ∷ Runs (StepsOf 0 1) ∷ Runs (StepsOf 1 1) ∷
    Runs (StepsOf 2 1) ∷ Runs (SlotAt 5) ∷ Runs (StepsOf 0 4) ∷ Runs (StepsOf 1 4) ∷ Runs (StepsOf 2 4) ∷ Runs (PhaseNumber 2) ∷ Runs (UpdatesOf 1 1) ∷ Runs (UpdatesOf 2 1) ∷ Runs (SlotAt 10) ∷
    Runs (StepsOf 0 4) ∷ Closes ∷ []

abbrev pub exchanged_lines : List CertLine
exchanged_lines =
    GoodBegins ∷ Runs (SlotAt 0) ∷ Runs (StepsOf 0 1) ∷ Runs (StepsOf 1 1) ∷ Runs (StepsOf 2 1) ∷ Runs (SlotAt 5) ∷ Runs (StepsOf 0 4) ∷ Runs (StepsOf 2 4) ∷ Runs (StepsOf 1 4) ∷
    Runs (PhaseNumber 2) ∷ Runs (UpdatesOf 1 1) ∷ Runs (UpdatesOf 2 1) ∷ Runs (SlotAt 10) ∷ Runs (StepsOf 0 4) ∷ FaultyBegins ∷ Runs (SlotAt 0) ∷ Runs (StepsOf 0 1) ∷ Runs (StepsOf 1 1) ∷
    Runs (StepsOf 2 1) ∷ Runs (SlotAt 5) ∷ Runs (StepsOf 0 4) ∷ Runs (StepsOf 1 4) ∷ Runs (StepsOf 2 4) ∷ Runs (PhaseNumber 2) ∷ Runs (UpdatesOf 1 1) ∷ Runs (UpdatesOf 2 1) ∷ Runs (SlotAt 10) ∷
    Runs (StepsOf 0 4) ∷ Closes ∷ []

pub record Holds : Type 0 where
  pub kept : kept_strobes (hard_lists shift.design shift.test_plan) shift.test_plan.strobes ≡ 13 ∷ 23 ∷ []
  pub written : lines_by shift.design shift.test_plan stuck (Some (Says (Detected 13))) ≡ certificate_lines
  pub valid : failing_from shift.design shift.test_plan stuck (Says (Detected 13)) 3 Before certificate_lines ≡ None
  pub exchanged : failing_from shift.design shift.test_plan stuck (Says (Detected 13)) 3 Before exchanged_lines ≡ None

pub holds : Holds
holds = record {
  kept = refl;
  written = refl;
  valid = refl;
  exchanged = refl;
}

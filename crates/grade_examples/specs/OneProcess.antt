-- reg q; initial begin q = 0; #10 q = 1; end -- its certificate, spoiled ones, its full grades and its kept strobes
use Rattle.std.specs.Prelude.{◌≡◌, ℕ, refl, true, false, List, [], ◌∷◌, Option, Some, None, codes}
use Rattle.four_value.specs.declared.logic.Bit.TheVariants.{Zero, One, X}
use Rattle.v_design.specs.Trees.{Delay}
use Rattle.v_design.specs.Designs.{FlatDesign, TestPlan, StuckAt}
use Rattle.v_design.specs.Grades.{full_grade, Detected, Undetected}
use Rattle.run_examples.specs.Build.{at, reg_bit, process, block, set_bit, number, plan, variable_fault}
use Rattle.cert_laws.specs.Claims.{Claim, Says, claim_of}
use Rattle.cert_laws.specs.Replays.{RunLine, SlotAt, StepsOf, UpdatesOf}
use Rattle.cert_laws.specs.Valid.{CertLine, GoodBegins, FaultyBegins, Runs, Closes, Before, failing_from, Fails, outcome}
use Rattle.cert_laws.specs.Written.{lines_by}
use Rattle.pick_laws.specs.Kept.{kept_strobes}
use Rattle.pick_laws.specs.Hard.{hard_lists}

abbrev pub design : FlatDesign
design = record {
  objects = (record (reg_bit X) { name = codes "q"; ranged = false }) ∷ [];
  joined = [];
  nodes = [];
  processes = process false 3 (block (set_bit 3 0 (number 1 0) ∷ Delay (at 3) 10 (set_bit 3 0 (number 1 1)) ∷ [])) ∷ [];
}

abbrev pub stuck_low : StuckAt
stuck_low = variable_fault 0 0 false

abbrev pub stuck_high : StuckAt
stuck_high = variable_fault 0 0 true

abbrev pub test_plan : TestPlan
test_plan = plan 20 (0 ∷ []) (5 ∷ 15 ∷ []) (stuck_low ∷ stuck_high ∷ [])

-- the certificate's lines behind the second
abbrev pub certificate_lines : List CertLine
certificate_lines =
    GoodBegins ∷ Runs (SlotAt 0) ∷ Runs (StepsOf 0 2) ∷ Runs (SlotAt 10) ∷ Runs (StepsOf 0 2) ∷ FaultyBegins ∷ Runs (SlotAt 0) ∷ Runs (StepsOf 0 2) ∷ Runs (SlotAt 10) ∷ Runs (StepsOf 0 2) ∷ Closes ∷
    []

-- the number of the first line that fails, where the line 5 and the claim are these (the numbers of a text don't compute, so lines are data here)
abbrev pub failing : Claim → RunLine → Option ℕ
failing claim first_steps =
    failing_from design test_plan stuck_low claim 3 Before
    (GoodBegins ∷ Runs (SlotAt 0) ∷ Runs first_steps ∷ Runs (SlotAt 10) ∷ Runs (StepsOf 0 2) ∷ FaultyBegins ∷ Runs (SlotAt 0) ∷ Runs (StepsOf 0 2) ∷ Runs (SlotAt 10) ∷ Runs (StepsOf 0 2) ∷ Closes ∷
    [])

pub record Holds : Type 0 where
  -- the full grades: no end, and the samples of the faulty machines
  pub low_full : full_grade design test_plan stuck_low ≡ Some (record { end = None; samples = record { time = 5; bits = Zero ∷ [] } ∷ record { time = 15; bits = Zero ∷ [] } ∷ [] })
  pub high_full : full_grade design test_plan stuck_high ≡ Some (record { end = None; samples = record { time = 5; bits = One ∷ [] } ∷ record { time = 15; bits = One ∷ [] } ∷ [] })
  -- both strobes are kept
  pub hard : hard_lists design test_plan ≡ (15 ∷ []) ∷ (5 ∷ []) ∷ []
  pub kept : kept_strobes (hard_lists design test_plan) test_plan.strobes ≡ 5 ∷ 15 ∷ []
  pub written : lines_by design test_plan stuck_low (Some (Says (Detected 15))) ≡ certificate_lines
  pub valid : failing (Says (Detected 15)) (StepsOf 0 2) ≡ None
  pub one_step : failing (Says (Detected 15)) (StepsOf 0 1) ≡ Some 6
  pub three_steps : failing (Says (Detected 15)) (StepsOf 0 3) ≡ Some 5
  pub earlier : failing (Says (Detected 14)) (StepsOf 0 2) ≡ Some 13
  pub at_five : failing (Says (Detected 5)) (StepsOf 0 2) ≡ Some 6
  pub other_process : failing (Says (Detected 15)) (StepsOf 1 1) ≡ Some 5
  pub no_update : failing (Says (Detected 15)) (UpdatesOf 0 1) ≡ Some 5
  -- behind the end each line fails, and where it is missing the line after the last
  pub behind : failing_from design test_plan stuck_low (Says (Detected 15)) 3 Before (GoodBegins ∷ Runs (SlotAt 0) ∷ Runs (StepsOf 0 2) ∷ Runs (SlotAt 10) ∷ Runs (StepsOf 0 2) ∷ FaultyBegins ∷
      Runs (SlotAt 0) ∷ Runs (StepsOf 0 2) ∷ Runs (SlotAt 10) ∷ Runs (StepsOf 0 2) ∷ Closes ∷ Closes ∷ []) ≡ Some 14
  pub missing : failing_from design test_plan stuck_low (Says (Detected 15)) 3 Before (GoodBegins ∷ Runs (SlotAt 0) ∷ Runs (StepsOf 0 2) ∷ []) ≡ Some 6
  -- a loop is no claim, and a site must be spelled under its own name
  pub a_loop : outcome design test_plan (codes "vfault cert 1" ∷ codes "q sa0 hyper 0" ∷ codes "end" ∷ []) ≡ Fails 2
  pub undetected_claim : claim_of design (codes "q sa1 undetected") ≡ Some (stuck_high, Says Undetected)
  pub no_site : claim_of design (codes "r sa1 undetected") ≡ None
  pub no_end : outcome design test_plan (codes "vfault cert 1" ∷ codes "q sa1 undetected" ∷ []) ≡ Fails 3
  pub no_head : outcome design test_plan (codes "vfault cert 2" ∷ []) ≡ Fails 1

pub holds : Holds
holds = record {
  low_full = refl;
  high_full = refl;
  hard = refl;
  kept = refl;
  written = refl;
  valid = refl;
  one_step = refl;
  three_steps = refl;
  earlier = refl;
  at_five = refl;
  other_process = refl;
  no_update = refl;
  behind = refl;
  missing = refl;
  a_loop = refl;
  undetected_claim = refl;
  no_site = refl;
  no_end = refl;
  no_head = refl;
}

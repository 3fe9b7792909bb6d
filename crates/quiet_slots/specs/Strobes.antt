-- What the strobes see of a faulty machine that is the good one with differences (strobes and slots by IEEE 1364-2001, clause 5).
use Rattle.std.specs.Prelude.{◌≡◌, ℕ, List, map, None}
use Rattle.four_value.specs.Values.{bit_at}
use Rattle.four_value.specs.declared.logic.Bit.{Bit}
use Rattle.vf_base.specs.Base.{WatchedBit}
use Rattle.vf_base.specs.Lists.{AllHold}
use Rattle.v_design.specs.Designs.{FlatDesign, StuckAt, TestPlan, good_machine}
use Rattle.v_design.specs.Assignments.{value_at}
use Rattle.v_design.specs.States.{State, found_or}
use Rattle.v_design.specs.WellFormed.{KeepsRules}
use Rattle.copy_laws.specs.Differences.{Differences, own_of}
use Rattle.copy_laws.specs.Windows.{IsCopyAt, state_at}
use Rattle.grade_laws.specs.Grading.{good_seen, faulty_seen}

-- the watched bits of a good state with own values
abbrev pub own_samples : List WatchedBit → State → Differences → List Bit
own_samples watched good d = map (λ (w : WatchedBit). bit_at (found_or (value_at good.values w.object) (own_of d.values w.object)) w.bit) watched

-- where the copy is the faulty machine's state at a strobe
pub record StrobesSee (design : FlatDesign) (plan : TestPlan) (fault : StuckAt) (d : Differences) (strobe : ℕ) : Type 0 where
  -- the strobe sees the good values with the own ones
  pub own : faulty_seen design plan fault strobe ≡ own_samples plan.watched (state_at (good_machine design) plan.end strobe) d
  -- and just what it sees of the good machine where no watched object differs
  pub same : AllHold (λ (w : WatchedBit). own_of d.values w.object ≡ None) plan.watched → faulty_seen design plan fault strobe ≡ good_seen design plan strobe

abbrev pub StrobesSeeCopies : Type 0
StrobesSeeCopies =
    (design : FlatDesign) (plan : TestPlan) (fault : StuckAt) (d : Differences) (strobe : ℕ) → KeepsRules design → IsCopyAt design plan fault strobe d → StrobesSee design plan fault d strobe

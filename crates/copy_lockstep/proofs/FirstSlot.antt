-- A fault behind the first slot (strobes by the plan; slots by IEEE 1364-2001, clause 5).
use Rattle.std.proofs.Common.{ℕ, List, arith}
use Rattle.std.specs.Prelude.{None}
use Rattle.v_design.specs.Designs.{FlatDesign, StuckAt, TestPlan}
use Rattle.fault_strobes.specs.Said.{Said, SaysNothing}
use Rattle.fault_strobes.specs.Strobes.{StrobedGradingsGoOn}
use Rattle.lockstep_due.specs.slot_strobes.Strobes.{ComeBefore, IsGradingBehind}

-- no strobe comes before time 0
pub none-before : (strobes : List ℕ) → ComeBefore strobes 0 0
none-before strobes = record { within = omega arith; before = λ place strobe low here. absurd (omega (arith, low)); since = λ place strobe low here. omega arith }

-- the grading begins
pub grading-begins : StrobedGradingsGoOn → (design : FlatDesign) (plan : TestPlan) (fault : StuckAt) (said : Said) → SaysNothing said → IsGradingBehind design plan fault 0 said
grading-begins law design plan fault said nothing = record { now = None; goes = law.begins design plan fault said nothing }

-- The slots of a faulty machine between two times, where it is known which slots are ahead (slots by IEEE 1364-2001, clause 5).
use Rattle.std.specs.Prelude.{◌≡◌, ℕ, ◌<◌, ◌≤◌, List, [], ◌∷◌, Option, Some}
use Rattle.v_design.specs.Designs.{FlatDesign, StuckAt, TestPlan, faulty_machine}
use Rattle.v_design.specs.States.{State}
use Rattle.copy_laws.specs.Windows.{slots_between}
use Rattle.machine_laws.specs.SlotLoop.{slot_from}
use Rattle.own_counts.specs.Joins.{fault_end}
use Rattle.graded_steps.specs.Ahead.{SlotsAhead}

pub record SlotsLieBetween : Type 0 where
  -- up to the time of the slot that is next comes this one alone, if the fault's grading hasn't ended before it
  pub next : (design : FlatDesign) (plan : TestPlan) (fault : StuckAt) (now : Option ℕ) (begins : State) → SlotsAhead (faulty_machine design fault) plan.end now (Some begins) →
      begins.time ≤ fault_end design plan fault → slots_between design plan fault now (Some begins.time) ≡ slot_from (faulty_machine design fault) begins ∷ []
  -- up to an earlier time comes none
  pub none : (design : FlatDesign) (plan : TestPlan) (fault : StuckAt) (now : Option ℕ) (next : Option State) (until : ℕ) → SlotsAhead (faulty_machine design fault) plan.end now next →
      ((begins : State) → next ≡ Some begins → until < begins.time) → slots_between design plan fault now (Some until) ≡ []

-- The laws on which those of this crate stand, and slots of the good first run next to each other (slots by IEEE 1364-2001, clause 5).
use Rattle.std.proofs.Common.{◌≡◌, ℕ, suc, ◌<◌, ◌≤◌, List, length, refl, sym, subst, ◌∙◌, arith, inl, inr}
use Rattle.std.specs.Prelude.{Option, Some, None, slice_get}
use Rattle.std.proofs.lemmas.Option.{slice_get_cases}
use Rattle.v_design.specs.Designs.{FlatDesign, TestPlan, good_machine}
use Rattle.v_design.specs.Grades.{Fine, Stop, slot_outcome}
use Rattle.v_design.specs.Runs.{FirstSlot}
use Rattle.v_design.specs.WellFormed.{KeepsRules}
use Rattle.between_slots.specs.Updates.{SlotsTakeNoTime, StatesRest}
use Rattle.copy_laws.specs.OwnRuns.{EventsTakeNoTime}
use Rattle.copy_laws.specs.Windows.{good_slots, time_at}
use Rattle.grade_laws.specs.Ahead.{StopsAfter}
use Rattle.grade_laws.specs.Grading.{good_stop}
use Rattle.beside_laws.specs.GoodRuns.{GoodRunGoesOn, IsOpenAt}
use Rattle.fault_strobes.specs.Strobes.{StrobedFaultsGoOn, StrobedGradingsEnd, StrobedGradingsGoOn}
use Rattle.beside_laws.specs.Shards.{FaultsGoOn}
use Rattle.beside_laws.specs.Stands.{RunsGoOn, RunsStand}
use Rattle.quiet_index.specs.PassOver.{CopiesPassOver}
use Rattle.quiet_slots.specs.Strobes.{StrobesSeeCopies}
use Rattle.copy_pass.specs.run_stands.Standing.{StatesStandBetween}
use Rattle.lockstep_copies.specs.Copies.{CopiesGoInLockstep}
use Rattle.copy_pass.specs.window_strobes.Neighbours.{time-between}

pub record ShardLaws : Type 0 where
  pub copies : CopiesGoInLockstep
  pub grading : StrobedGradingsGoOn
  pub ends : StrobedGradingsEnd
  pub faults : StrobedFaultsGoOn
  pub stay : FaultsGoOn
  pub good : GoodRunGoesOn
  pub goes : RunsGoOn
  pub runs : RunsStand
  pub see : StrobesSeeCopies
  pub over : CopiesPassOver
  pub stand : StatesStandBetween
  pub rest : StatesRest
  pub times : SlotsTakeNoTime
  pub event_times : EventsTakeNoTime

pub some-is : {A : Type 0} (one other : A) → Some one ≡ Some other → one ≡ other
some-is one other e = cc

pub stops-earlier : (low time : ℕ) (stop : Option Stop) → low ≤ time → StopsAfter time stop → StopsAfter low stop
stops-earlier low time None h a = tt
stops-earlier low time (Some stop) h a = omega (arith, h, a)

-- a slot below their count is there
pub slot-there : (slots : List FirstSlot) (number : ℕ) → number < length slots → (slot : FirstSlot) × (slice_get slots number ≡ Some slot)
slot-there slots number low = elim (slice_get_cases slots number).1 [ inl found ↦ (found.0, found.2) | inr past ↦ absurd (omega (arith, low, past.0)) ]

-- a slot of the good first run and the next one
module _ (law : GoodRunGoesOn) (design : FlatDesign) (plan : TestPlan) (rules : KeepsRules design) (number : ℕ) (more : suc number < length (good_slots design plan)) where
  pub last : FirstSlot
  last = (slot-there (good_slots design plan) number (omega (arith, more))).0

  pub last-there : slice_get (good_slots design plan) number ≡ Some last
  unfolding last
  last-there = (slot-there (good_slots design plan) number (omega (arith, more))).1

  pub next : FirstSlot
  next = (slot-there (good_slots design plan) (suc number) more).0

  pub next-there : slice_get (good_slots design plan) (suc number) ≡ Some next
  unfolding next
  next-there = (slot-there (good_slots design plan) (suc number) more).1

  -- the first one's time is the one to which they lead
  pub time-there : time_at design plan (suc number) ≡ Some last.begins.time
  time-there = time-between design plan (suc number) (record { number = number; last = last; next = next; at_is = refl; here = last-there; there = next-there })

  pub fine-there : slot_outcome (good_machine design) last ≡ Fine
  fine-there = (law.fine design plan number last next rules last-there next-there).0

  pub stops-later : StopsAfter last.begins.time (good_stop design plan)
  stops-later = (law.fine design plan number last next rules last-there next-there).2

  pub next-later : (other : FirstSlot) → slice_get (good_slots design plan) (suc number) ≡ Some other → last.begins.time < other.begins.time
  next-later other there = (law.fine design plan number last other rules last-there there).1

  pub open-there : IsOpenAt design plan (suc number) last.begins.time
  open-there = record {
    time_is = time-there;
    early = (let after : last.begins.time < next.begins.time = next-later next next-there in
        let by : next.begins.time ≤ plan.end = law.within design plan (suc number) next rules next-there in
        omega (arith, after, by));
    more = more;
    goes_on = stops-later;
    state_is = law.stands design plan number last.begins.time last rules last-there fine-there (omega arith) next-later;
  }

  -- whatever time that is called
  pub open-at : (time : ℕ) → time_at design plan (suc number) ≡ Some time → IsOpenAt design plan (suc number) time
  open-at time is = subst (IsOpenAt design plan (suc number)) (some-is last.begins.time time (sym time-there ∙ is)) open-there

  pub time-is : (time : ℕ) → time_at design plan (suc number) ≡ Some time → time ≡ last.begins.time
  time-is time is = some-is time last.begins.time (sym is ∙ time-there)

-- The own steps of a fault from slot to slot, as numbers (steps by IEEE 1364-2001, clause 9; slots by clause 5).
use Rattle.std.proofs.Common.{◌≡◌, ℕ, ◌+◌, ◌≤◌, List, [], ◌∷◌, arith}
use Rattle.std.specs.Prelude.{Some, slice_get}
use Rattle.std.specs.List.{AllZip}
use Rattle.std.proofs.lemmas.List.Sums.{sum_by-cons}
use Rattle.vf_base.specs.Lists.{AllHold}
use Rattle.v_design.specs.Designs.{FlatDesign, StuckAt, TestPlan}
use Rattle.v_design.specs.WellFormed.{KeepsRules}
use Rattle.copy_laws.specs.Windows.{RiseAtMostOwn}
use Rattle.fault_strobes.specs.Said.{plan_by}
use Rattle.own_gradings.specs.Laws.{OwnStepsRise}
use Rattle.own_gradings.specs.Numbers.{OwnStepsOf}
use Rattle.copy_lockstep.specs.copy_window.ShardFaults.{IsShardFault, SameFault, kept_by}
use Rattle.copy_lockstep.specs.copy_window.declared.fault.ShardFault.{ShardFault}
use Rattle.copy_lockstep.specs.window_faults.Steps.{StaysFault, steps_of_fault, steps_of_faults}

module _ {design : FlatDesign} {plan : TestPlan} (tally : OwnStepsOf design plan) where
  -- they are of the fault, however far it has come
  pub same-steps : (gone : ℕ) (old new : ShardFault) → SameFault old new → steps_of_fault tally gone new ≡ steps_of_fault tally gone old
  same-steps gone old new place = λ i. tally.steps (place.number i) (place.kind i) gone

  pub same-all : (gone : ℕ) (olds news : List ShardFault) → AllZip StaysFault olds news → steps_of_faults tally gone news ≡ steps_of_faults tally gone olds
  same-all gone [] [] zip = λ i. steps_of_faults tally gone []
  same-all gone [] (new ∷ news) zip = absurd zip
  same-all gone (old ∷ olds) [] zip = absurd zip
  same-all gone (old ∷ olds) (new ∷ news) zip =
      let one = same-steps gone old new zip.0.place in
      let rest = same-all gone olds news zip.1 in
      let a : steps_of_faults tally gone (old ∷ olds) ≡ steps_of_fault tally gone old + steps_of_faults tally gone olds = sum_by-cons (steps_of_fault tally gone) old olds in
      let b : steps_of_faults tally gone (new ∷ news) ≡ steps_of_fault tally gone new + steps_of_faults tally gone news = sum_by-cons (steps_of_fault tally gone) new news in
      omega (arith, one, rest, a, b)

module _ (law : OwnStepsRise) (design : FlatDesign) (plan : TestPlan) (rules : KeepsRules design) (tally : OwnStepsOf design plan) (from until : ℕ) (low : from ≤ until) where
  -- behind more slots no fewer
  pub steps-rise : (gone passed : ℕ) (own : ShardFault) → IsShardFault design plan gone passed own → steps_of_fault tally from own ≤ steps_of_fault tally until own
  steps-rise gone passed own stands = law.rises design plan tally own.copy.fault stands.fault (kept_by own) from until stands.listed rules low

  pub all-rise : (gone passed : ℕ) (faults : List ShardFault) → AllHold (IsShardFault design plan gone passed) faults → steps_of_faults tally from faults ≤ steps_of_faults tally until faults
  all-rise gone passed [] all = omega arith
  all-rise gone passed (own ∷ faults) all =
      let one = steps-rise gone passed own all.0 in
      let rest = all-rise gone passed faults all.1 in
      let a : steps_of_faults tally from (own ∷ faults) ≡ steps_of_fault tally from own + steps_of_faults tally from faults = sum_by-cons (steps_of_fault tally from) own faults in
      let b : steps_of_faults tally until (own ∷ faults) ≡ steps_of_fault tally until own + steps_of_faults tally until faults = sum_by-cons (steps_of_fault tally until) own faults in
      omega (arith, one, rest, a, b)

  -- a counter that rose by no more than the own steps in between
  pub counter-rises : (old new : ShardFault) (fault : StuckAt) (before after : ℕ) → slice_get plan.faults old.copy.fault ≡ Some fault → SameFault old new →
      RiseAtMostOwn design (plan_by (kept_by old) plan) from until (fault ∷ []) before after → after + steps_of_fault tally from old ≤ before + steps_of_fault tally until new
  counter-rises old new fault before after listed place rises =
      let most = law.stretch design plan tally old.copy.fault fault (kept_by old) from until before after listed rules low rises in
      let same = same-steps tally until old new place in
      omega (arith, most, same)

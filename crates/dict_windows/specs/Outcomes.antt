-- What all windows of the good first run give (slots and orders by IEEE 1364-2001, clause 5).
use Rattle.std.specs.Prelude.{◌≡◌, ℕ, ◌+◌, ◌≤◌, true, List, is_some, sum}
use Rattle.std.specs.List.{AllZip}
use Rattle.v_design.specs.Designs.{FlatDesign, TestPlan}
use Rattle.v_design.specs.OwnSteps.{good_steps}
use Rattle.own_gradings.specs.Numbers.{TakesOwn}
use Rattle.kept_samples.specs.Kept.{good_samples, good_stop, samples_kept}
use Rattle.kept_shard.specs.Keeping.{numbers_of}
use Rattle.dict_windows.specs.Faults.{AreWhole}
use Rattle.dict_windows.specs.Windows.{LoopsAt}
use Rattle.dict_windows.specs.declared.outcome.Gathered.{Gathered}
use Rattle.dict_windows.specs.declared.outcome.Outcome.{Outcome}
use Rattle.dict_windows.specs.declared.outcome.Outcome.TheVariants.{Made, GoodLoop}

-- the good machine's samples before its first stop, which is a race if it is there, and what is kept of the full grades of the faults of these numbers, in order
pub record IsGathered (design : FlatDesign) (plan : TestPlan) (numbers : List ℕ) (gathered : Gathered) : Type 0 where
  pub good : samples_kept gathered.good.items ≡ good_samples design plan
  pub raced : gathered.raced ≡ is_some (good_stop design plan)
  pub no_loop : (time : ℕ) → LoopsAt design plan time → ⊥
  pub faults : numbers_of gathered.faults.items ≡ numbers
  pub whole : AreWhole design plan gathered.faults.items

-- so it is, or the good machine loops at this time
abbrev pub IsOutcome : FlatDesign → TestPlan → List ℕ → Outcome → Type 0
IsOutcome design plan numbers (Made gathered) = IsGathered design plan numbers gathered
IsOutcome design plan numbers (GoodLoop time) = LoopsAt design plan time

-- a counter rose by no more than the process steps of the good first run and all own steps of the faults of these numbers, each through the end of its full grade, or to the plan's end
pub record RoseByOwn (design : FlatDesign) (plan : TestPlan) (numbers : List ℕ) (before after : ℕ) : Type 0 where
  pub within : (steps : List ℕ) → AllZip (TakesOwn design plan true) numbers steps → after ≤ before + (good_steps design plan + sum steps)

-- so it rose where all was kept
abbrev pub OutcomeTicks : FlatDesign → TestPlan → List ℕ → ℕ → ℕ → Outcome → Type 0
OutcomeTicks design plan numbers before after (Made gathered) = RoseByOwn design plan numbers before after
OutcomeTicks design plan numbers before after (GoodLoop time) = Unit {0}

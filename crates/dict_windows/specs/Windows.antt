-- How the windows of the good first run follow each other (slots by IEEE 1364-2001, clause 5).
use Rattle.std.specs.Prelude.{◌≡◌, ℕ, ◌+◌, ◌<◌, ◌≤◌, true, List, length, Option, None, Some}
use Rattle.v_design.specs.Designs.{FlatDesign, TestPlan}
use Rattle.v_design.specs.Grades.{Hyper}
use Rattle.copy_laws.specs.Windows.{good_slots}
use Rattle.grade_laws.specs.Grading.{good_stop}
use Rattle.good_windows.specs.Next.{RunKept, steps_of_slots}
use Rattle.own_gradings.specs.Numbers.{RisesOwn}
use Rattle.kept_shard.specs.Keeping.{KeepingShard}
use Rattle.dict_windows.specs.Good.{IsSeenBehind}
use Rattle.dict_windows.specs.Faults.{HaveGone, all_steps}
use Rattle.dict_windows.specs.declared.windows.Beside.{Beside}
use Rattle.dict_windows.specs.declared.windows.Next.{Next}
use Rattle.dict_windows.specs.declared.windows.Next.TheVariants.{Window, Over, Loops}

-- the good machine's first slot that isn't fine is hyperactive, at this time
abbrev pub LoopsAt : FlatDesign → TestPlan → ℕ → Type 0
LoopsAt design plan time = good_stop design plan ≡ Some (record { time = time; outcome = Hyper })

-- a counter rose by no more than the process steps of the good machine's slots in between and the own steps of the shards' faults
abbrev pub RisesBeside : FlatDesign → TestPlan → ℕ → List KeepingShard → ℕ → ℕ → List KeepingShard → ℕ → Type 0
RisesBeside design plan ran shards before later moved after =
    RisesOwn design plan (λ tally. steps_of_slots design plan ran + all_steps tally shards) (λ tally. steps_of_slots design plan later + all_steps tally moved) before after

module _ {N : Type 0} where
  -- the strobes have seen the good machine behind so many slots, through which the shards have gone
  pub record StandsBeside (design : FlatDesign) (plan : TestPlan) (gone : ℕ) (beside : Beside N) : Type 0 where
    pub good : IsSeenBehind design plan gone beside.good
    pub shards : HaveGone gone beside.shards.items

  -- no slot is left, and the good machine doesn't loop before a race of its own
  pub record IsOver (design : FlatDesign) (plan : TestPlan) (beside : Beside N) : Type 0 where
    pub stands : StandsBeside design plan (length (good_slots design plan)) beside
    pub no_loop : (time : ℕ) → LoopsAt design plan time → ⊥

  -- all went on from so many slots, to where the run stands
  pub record HasGoneOn (design : FlatDesign) (plan : TestPlan) (gone : ℕ) (run : RunKept) (beside : Beside N) : Type 0 where
    pub further : gone < run.gone
    pub within : run.gone ≤ length (good_slots design plan)
    pub usable : run.usable ≡ true
    pub stands : StandsBeside design plan run.gone beside

  -- what came next, where all stood behind so many slots
  abbrev pub GoesOn : FlatDesign → TestPlan → ℕ → RunKept → Beside N → Next → Type 0
  GoesOn design plan gone run beside Window = HasGoneOn design plan gone run beside
  GoesOn design plan gone run beside Over = IsOver design plan beside
  GoesOn design plan gone run beside (Loops time) = LoopsAt design plan time

  -- behind all windows
  abbrev pub AreThrough : FlatDesign → TestPlan → Beside N → Option ℕ → Type 0
  AreThrough design plan beside None = IsOver design plan beside
  AreThrough design plan beside (Some time) = LoopsAt design plan time

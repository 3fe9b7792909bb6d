-- The faults of some shards beside the good first run (slots by IEEE 1364-2001, clause 5).
use Rattle.std.specs.Prelude.{◌≡◌, ℕ, List, sum_by}
use Rattle.std.specs.List.{All, flat_map}
use Rattle.vf_base.specs.Lists.{AllHold}
use Rattle.v_design.specs.Designs.{FlatDesign, TestPlan}
use Rattle.own_gradings.specs.Numbers.{OwnStepsOf}
use Rattle.kept_samples.specs.declared.kept.Kept.{Kept}
use Rattle.kept_shard.specs.Keeping.{KeepingShard, KeptWhole, kept_steps_of, numbers_of}

-- the places in the plan of their faults, in order
abbrev pub faults_in : List KeepingShard → List ℕ
faults_in shards = flat_map (λ (shard : KeepingShard). numbers_of shard.kept) shards

-- all have gone through so many slots
abbrev pub HaveGone : ℕ → List KeepingShard → Type 0
HaveGone gone shards = All (λ (shard : KeepingShard). shard.gone ≡ gone) shards

-- the own steps that their faults have taken
abbrev pub all_steps : {design : FlatDesign} {plan : TestPlan} → OwnStepsOf design plan → List KeepingShard → ℕ
all_steps tally shards = sum_by (kept_steps_of tally) shards

-- of each of some faults the whole full grade is kept
abbrev pub AreWhole : FlatDesign → TestPlan → List Kept → Type 0
AreWhole design plan kept = AllHold (KeptWhole design plan) kept

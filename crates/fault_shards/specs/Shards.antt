-- What the code's shards are (nothing of the language).
use Rattle.std.specs.Prelude.{◌≡◌, ℕ, List, length, map}
use Rattle.vf_base.specs.Base.{fault_number}
use Rattle.v_design.specs.Designs.{FlatDesign, StuckAt}
use Rattle.fault_list.specs.Classes.{AreClasses}
use Rattle.fault_shards.specs.Representatives.{AreRepresentatives}
use Rattle.fault_shards.specs.declared.shards.Shards.{Shards}

-- the numbers of the faults that stand for their classes
abbrev pub representatives_of : Shards → List ℕ
representatives_of shards = map fault_number shards.representatives.items

-- for each listed fault the number of the one that stands for it
abbrev pub standing_of : Shards → List ℕ
standing_of shards = map fault_number shards.standing.items

-- how many faults are listed
abbrev pub fault_count : Shards → ℕ
fault_count shards = length (standing_of shards)

-- these are the shards of a list of faults
pub record AreShardsOf (design : FlatDesign) (faults : List StuckAt) (shards : Shards) : Type 0 where
  pub representatives : AreRepresentatives design faults (representatives_of shards)
  pub classes : AreClasses design faults (standing_of shards)
  pub counted : fault_count shards ≡ length faults

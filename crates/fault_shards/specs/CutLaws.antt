-- What the faults of a shard keep (nothing of the language).
use Rattle.std.proofs.Common.{◌≡◌, ℕ, ◌<◌, List, length, All, Contains}
use Rattle.std.proofs.lemmas.List.Elements.{All-contains_itself, All-same, All-weaker}
use Rattle.std.proofs.lemmas.Option.{slice_get_within}
use Rattle.v_design.specs.Designs.{FlatDesign, StuckAt}
use Rattle.fault_shards.specs.Cuts.{ShardsCover, shard}
use Rattle.fault_shards.specs.Representatives.{AreRepresentatives}

-- a representative is listed
representative-below : (design : FlatDesign) (faults : List StuckAt) (representatives : List ℕ) (fault : ℕ) → AreRepresentatives design faults representatives → Contains representatives fault →
    fault < length faults
representative-below design faults representatives fault are h = let r = (are.each fault).0 h in slice_get_within faults fault r.fault r.listed

-- so each fault of a shard is
pub shard-listed : (design : FlatDesign) (faults : List StuckAt) (representatives : List ℕ) (number : ℕ) (numbers : List ℕ) → ShardsCover → AreRepresentatives design faults representatives →
    numbers ≡ shard number representatives → All (λ n. n < length faults) numbers
shard-listed design faults representatives number numbers cover are same =
    All-same (λ n. n < length faults) numbers (shard number representatives) same
    (All-weaker (Contains (shard number representatives)) (λ n. n < length faults)
    (λ n c. representative-below design faults representatives n are (cover.within representatives number n c)) (shard number representatives) (All-contains_itself (shard number representatives)))

-- A shard before the first slot (slots by IEEE 1364-2001, clause 5).
use Rattle.std.proofs.Common.{◌≡◌, ℕ, ◌<◌, false, List, [], ◌∷◌, length, map, refl, sym, ap, ◌∙◌}
use Rattle.std.specs.List.{All}
use Rattle.std.proofs.lemmas.List.Elements.{All-head, All-tail}
use Rattle.vf_base.specs.Base.{fault_number}
use Rattle.vf_base.specs.Lists.{AllHold}
use Rattle.vf_base.specs.declared.ids.FaultId.{FaultId}
use Rattle.v_design.specs.Designs.{FlatDesign, TestPlan}
use Rattle.v_design.specs.WellFormed.{KeepsRules}
use Rattle.beside_laws.specs.Shards.{FaultsGoOn}
use Rattle.shard_windows.specs.copy_window.ShardFaults.{IsShardFault, kept_by}
use Rattle.shard_windows.specs.copy_window.declared.fault.ShardFault.{ShardFault}
use Rattle.shard_windows.proofs.Beginning.{AreFresh, fresh-stands, none-reached, reached_at_start}
use Rattle.copy_shard.specs.Kept.{IsShard, fault_kept}
use Rattle.copy_shard.specs.Shards.{FaultKept, ShardKept, fresh_fault, fresh_shard, places_of}

-- what contracts see of them
pub fresh-kept : (numbers : List FaultId) (faults : List ShardFault) → AreFresh false numbers faults → map fault_kept faults ≡ map fresh_fault (map fault_number numbers)
fresh-kept [] [] zip = refl
fresh-kept [] (own ∷ faults) zip = absurd zip
fresh-kept (number ∷ numbers) [] zip = absurd zip
fresh-kept (number ∷ numbers) (own ∷ faults) zip =
    let rest = fresh-kept numbers faults zip.1 in
    λ i. record { copy = zip.0.copy i; end = zip.0.end i } ∷ rest i

fresh-places : (numbers : List FaultId) → places_of (map fresh_fault (map fault_number numbers)) ≡ map fault_number numbers
fresh-places [] = refl
fresh-places (number ∷ numbers) = ap (λ (l : List ℕ). fault_number number ∷ l) (fresh-places numbers)

all-judged : (numbers : List FaultId) (faults : List ShardFault) → AreFresh false numbers faults → AllHold (λ (own : ShardFault). kept_by own ≡ false) faults
all-judged [] [] zip = tt
all-judged [] (own ∷ faults) zip = absurd zip
all-judged (number ∷ numbers) [] zip = absurd zip
all-judged (number ∷ numbers) (own ∷ faults) zip = (zip.0.kind, all-judged numbers faults zip.1)

module _ (law : FaultsGoOn) (design : FlatDesign) (plan : TestPlan) (rules : KeepsRules design) where
  fresh-all : (numbers : List FaultId) (faults : List ShardFault) → All (λ number. number < length plan.faults) (map fault_number numbers) → AreFresh false numbers faults →
      AllHold (IsShardFault design plan 0 0) faults
  fresh-all [] [] all zip = tt
  fresh-all [] (own ∷ faults) all zip = absurd zip
  fresh-all (number ∷ numbers) [] all zip = absurd zip
  fresh-all (number ∷ numbers) (own ∷ faults) all zip = (
    fresh-stands law design plan rules false (fault_number number) own zip.0 (All-head (λ n. n < length plan.faults) (fault_number number) (map fault_number numbers) all),
    fresh-all numbers faults (All-tail (λ n. n < length plan.faults) (fault_number number) (map fault_number numbers) all) zip.1,
  )

  pub is-shard : (numbers : List FaultId) (faults : List ShardFault) → All (λ number. number < length plan.faults) (map fault_number numbers) → AreFresh false numbers faults →
      IsShard design plan 0 reached_at_start numbers faults
  is-shard numbers faults all zip = record {
    numbers_are = sym (ap places_of (fresh-kept numbers faults zip) ∙ fresh-places numbers);
    judged = all-judged numbers faults zip;
    reaches = λ some. none-reached design plan;
    each = fresh-all numbers faults all zip;
  }

abbrev shard-of : List FaultKept → ShardKept
shard-of faults = record { gone = 0; faults = faults }

-- what contracts see of it
pub shard-seen : (numbers : List FaultId) (faults : List ShardFault) → AreFresh false numbers faults → shard-of (map fault_kept faults) ≡ fresh_shard (map fault_number numbers)
shard-seen numbers faults zip = ap shard-of (fresh-kept numbers faults zip)

-- A shard through a window (slots by IEEE 1364-2001, clause 5).
use Rattle.std.proofs.Common.{◌≡◌, ℕ, false, List, [], ◌∷◌, map, refl, sym, ap, subst, ◌∙◌}
use Rattle.std.specs.List.{AllZip}
use Rattle.vf_base.specs.Lists.{AllHold}
use Rattle.vf_base.specs.declared.ids.FaultId.{FaultId}
use Rattle.v_design.specs.Designs.{FlatDesign, TestPlan}
use Rattle.shard_windows.specs.copy_window.ShardFaults.{IsShardFault, kept_by}
use Rattle.shard_windows.specs.copy_window.declared.fault.ShardFault.{ShardFault}
use Rattle.shard_windows.specs.window_faults.Within.{ComesThrough}
use Rattle.shard_windows.specs.Reached.{HasReachedIfOpen}
use Rattle.shard_windows.specs.declared.reached.Reached.{Reached}
use Rattle.shard_windows.proofs.Lists.{zip-holds, zip-map}
use Rattle.copy_shard.specs.Kept.{IsShard, fault_kept}
use Rattle.copy_shard.specs.Shards.{FaultKept, StaysEnded, places_of}

module _ (design : FlatDesign) (plan : TestPlan) (through : ℕ) where
  pub same-places : (behind : ℕ) (old new : List ShardFault) → AllZip (ComesThrough design plan through behind) old new → places_of (map fault_kept new) ≡ places_of (map fault_kept old)
  same-places behind [] [] zip = refl
  same-places behind [] (y ∷ new) zip = absurd zip
  same-places behind (x ∷ old) [] zip = absurd zip
  same-places behind (x ∷ old) (y ∷ new) zip =
      let rest = same-places behind old new zip.1 in
      λ i. zip.0.place.number i ∷ rest i

  pub stay-ended : (behind : ℕ) (old new : List ShardFault) → AllZip (ComesThrough design plan through behind) old new → AllZip StaysEnded (map fault_kept old) (map fault_kept new)
  stay-ended behind = zip-map (ComesThrough design plan through behind) StaysEnded fault_kept (λ x y comes some. ap fault_kept (comes.ended some))

  -- judged faults stay so
  pub still-judged : (behind : ℕ) (old new : List ShardFault) → AllHold (λ (own : ShardFault). kept_by own ≡ false) old → AllZip (ComesThrough design plan through behind) old new →
      AllHold (λ (own : ShardFault). kept_by own ≡ false) new
  still-judged behind [] [] judged zip = tt
  still-judged behind [] (y ∷ new) judged zip = absurd zip
  still-judged behind (x ∷ old) [] judged zip = absurd zip
  still-judged behind (x ∷ old) (y ∷ new) judged zip = (zip.0.place.kind ∙ judged.0, still-judged behind old new judged.1 zip.1)

  goes-on : (gone : ℕ) (reached behind : Reached) (numbers : List FaultId) (old new : List ShardFault) → IsShard design plan gone reached numbers old →
      AllZip (ComesThrough design plan through behind.passed) old new → HasReachedIfOpen design plan through behind new → IsShard design plan through behind numbers new
  goes-on gone reached behind numbers old new shard zip reaches = record {
    numbers_are = shard.numbers_are ∙ sym (same-places behind.passed old new zip);
    judged = still-judged behind.passed old new shard.judged zip;
    reaches = reaches;
    each = zip-holds (ComesThrough design plan through behind.passed) (IsShardFault design plan through behind.passed) (λ x y comes. comes.stands) old new zip;
  }

-- the shard behind a window through which its faults were taken
module _ (design : FlatDesign) (plan : TestPlan) (gone through at : ℕ) (reached behind : Reached) (numbers taken : List FaultId) (old moved new : List ShardFault)
    (shard : IsShard design plan gone reached numbers old) (at_is : at ≡ through) (taken_is : taken ≡ numbers) (moved_is : moved ≡ old)
    (zip : AllZip (ComesThrough design plan through behind.passed) moved new) (reaches : HasReachedIfOpen design plan through behind new) where
  pub went-on : IsShard design plan at behind taken new
  went-on =
      subst (λ n. IsShard design plan n behind taken new) (sym at_is)
      (subst (λ (l : List FaultId). IsShard design plan through behind l new) (sym taken_is)
      (goes-on design plan through gone reached behind numbers old new shard (subst (λ (l : List ShardFault). AllZip (ComesThrough design plan through behind.passed) l new) moved_is zip) reaches))

  -- what contracts see of it, where this was the shard
  module _ (kept : List FaultKept) (seen : map fault_kept old ≡ kept) where
    old_is : map fault_kept moved ≡ kept
    old_is = ap (map fault_kept) moved_is ∙ seen

    pub places-stay : places_of (map fault_kept new) ≡ places_of kept
    places-stay = same-places design plan through behind.passed moved new zip ∙ ap places_of old_is

    pub ended-stay : AllZip StaysEnded kept (map fault_kept new)
    ended-stay = subst (λ (l : List FaultKept). AllZip StaysEnded l (map fault_kept new)) old_is (stay-ended design plan through behind.passed moved new zip)

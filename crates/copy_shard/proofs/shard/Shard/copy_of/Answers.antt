-- The copy of the fault at the place.
use Rattle.std.proofs.Common.{◌≡◌, List, map, ap, subst}
use Rattle.std.specs.Prelude.{Contains, Some, slice_get}
use Rattle.vf_base.specs.Base.{fault_number}
use Rattle.shard_windows.specs.copy_window.declared.fault.ShardFault.{ShardFault}
use Rattle.copy_shard.specs.Kept.{fault_kept}
use Rattle.copy_shard.specs.Shards.{FaultKept, ShardKept, places_of}
use Rattle.copy_shard.proofs.Places.{place-copy}
use Rattle.copy_shard.proofs.shard.Shard.copy_of.Goals as goal

pub returns-in-Some-clause-copy : goal.returns-in-Some-clause-copy
returns-in-Some-clause-copy g c =
    let seen : map fault_kept c.self.inside.faults.items ≡ c.args.self.now.faults = ap (λ (kept : ShardKept). kept.faults) c.self.view_is in
    subst (λ (l : List FaultKept). (c.index.result.now.copy.fault ≡ fault_number c.args.fault) × Contains (map (λ (kept : FaultKept). kept.copy) l) c.index.result.now.copy) seen
    (place-copy c.self.inside.faults.items c.in-Some.place (fault_number c.args.fault) c.index.result.now
    (subst (λ (l : List ShardFault). slice_get (places_of (map fault_kept l)) c.in-Some.place ≡ Some (fault_number c.args.fault)) c.deref.ensures.value c.in-Some.ensures.found)
    c.index.ensures)

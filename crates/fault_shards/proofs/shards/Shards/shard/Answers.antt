-- The part of the list that is the shard.
use Rattle.std.proofs.Common.{◌≡◌, ℕ, ◌+◌, ◌-◌, ◌*◌, ◌<◌, List, length, map, take, drop, min, ap, sym, subst, ◌∙◌}
use Rattle.std.proofs.lemmas.List.{length-map}
use Rattle.vf_base.specs.Base.{fault_number}
use Rattle.vf_base.specs.declared.ids.FaultId.{FaultId}
use Rattle.fault_shards.specs.Cuts.{shard, shard_count}
use Rattle.fault_shards.proofs.Covering.{part-shard}
use Rattle.fault_shards.proofs.shards.Shards.shard.Goals as goal

pub returns : goal.returns
returns c =
    let items = c.args.self.now.representatives.items in
    let faults = c.as_slice-faults.result.now in
    let end : c.min-end.result ≡ min (length c.as_slice-faults.result.now) (32 * c.args.number + 32) = c.min-end.ensures in
    let below : c.args.number < shard_count (length c.as_slice-faults.result.now) =
    subst (λ n. c.args.number < shard_count n) (length-map c.args.self.now.representatives.items fault_number ∙ sym (ap length c.as_slice-faults.ensures.value)) c.requires in
    ap (λ (n : ℕ). map fault_number (take (n - 32 * c.args.number) (drop (32 * c.args.number) c.as_slice-faults.result.now))) end
    ∙ part-shard fault_number c.as_slice-faults.result.now c.args.number below ∙ ap (λ (l : List FaultId). shard c.args.number (map fault_number l)) c.as_slice-faults.ensures.value

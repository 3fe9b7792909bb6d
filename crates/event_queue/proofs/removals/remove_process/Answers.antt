-- The process is taken out at the place that was found.
use Rattle.std.proofs.Common.{◌≡◌, ◌∙◌, nat_lt, map, sym, ap, subst, List, rules, true, false}
use Rattle.std.specs.List.Sorted.{IsPartitionPoint}
use Rattle.std.proofs.lemmas.List.Sorted.{IsPartitionPoint-from_clause}
use Rattle.vf_base.specs.declared.ids.ProcId.{ProcId}
use Rattle.vf_base.specs.Base.{process_number}
use Rattle.event_queue.specs.Arranged.{Ascends, without_process}
use Rattle.event_queue.proofs.Places.{partitioned}
use Rattle.event_queue.proofs.removals.remove_process.Goals as goal

pub remove_process_at-requires-clause-ascends : goal.remove_process_at-requires-clause-ascends
remove_process_at-requires-clause-ascends c =
    subst (λ (ps : List ProcId). Ascends (map process_number ps)) (sym (c.into_vec-processes.ensures ∙ c.replace.ensures.value)) c.requires

pub remove_process_at-requires-clause-place : goal.remove_process_at-requires-clause-place
remove_process_at-requires-clause-place c =
    let same : c.as_slice.result.now ≡ c.args.list.now = c.as_slice.ensures in
    let below = λ (y : ProcId). nat_lt y.0 c.args.process.0 in
    let at = IsPartitionPoint-from_clause below c.as_slice.result.now c.partition_point-place.result c.partition_point-place.ensures.partitioned
    (rw same (partitioned process_number c.args.process.0 c.args.list.now c.requires)) (λ a r q k. search rules) in
    let Point : List ProcId → Type 0 = λ xs. IsPartitionPoint (λ y. below y ≡ true) (λ y. below y ≡ false) xs c.partition_point-place.result in
    subst Point (sym (c.into_vec-processes.ensures ∙ c.replace.ensures.value)) (subst Point same at)

pub returns : goal.returns
returns c = c.from_vec-2.ensures ∙ c.remove_process_at.ensures ∙ ap (without_process c.args.process) (c.into_vec-processes.ensures ∙ c.replace.ensures.value)

-- The list with the process put in at the place that was found is the list with it.
use Rattle.std.proofs.Common.{◌≡◌, ◌≤◌, nat_lt, length, ◌∙◌, subst, List, rules, true, false}
use Rattle.std.specs.List.Sorted.{IsPartitionPoint}
use Rattle.std.proofs.lemmas.List.Sorted.{IsPartitionPoint-from_clause}
use Rattle.std.proofs.lemmas.Result.{IfOk-weaker}
use Rattle.vf_base.specs.declared.ids.ProcId.{ProcId}
use Rattle.vf_base.specs.Base.{process_number}
use Rattle.event_queue.proofs.Places.{partitioned, with_process-insert}
use Rattle.event_queue.proofs.calendar.put_process.Goals as goal

pub returns-clause-ok : goal.returns-clause-ok
returns-clause-ok c =
    let same : c.as_slice.result.now ≡ c.args.list.now = c.as_slice.ensures in
    let below = λ (y : ProcId). nat_lt y.0 c.args.process.0 in
    let at = IsPartitionPoint-from_clause below c.as_slice.result.now c.partition_point-place.result c.partition_point-place.ensures.partitioned
    (rw same (partitioned process_number c.args.process.0 c.args.list.now c.requires)) (λ a r q k. search rules) in
    let within : c.partition_point-place.result ≤ length c.args.list.now = rw same at c.partition_point-place.ensures.bound in
    let Point : List ProcId → Type 0 = λ xs. IsPartitionPoint (λ y. below y ≡ true) (λ y. below y ≡ false) xs c.partition_point-place.result in
    let put = with_process-insert c.args.process c.args.list.now c.partition_point-place.result within (subst Point same at) in
    IfOk-weaker c.insert_at.result _ _ (λ x h. h ∙ put) c.insert_at.ensures.ok

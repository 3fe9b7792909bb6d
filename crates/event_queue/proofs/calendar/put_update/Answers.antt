-- The lanes with the update put in at the place that was found are the lanes with it.
use Rattle.std.proofs.Common.{◌≡◌, ◌≤◌, nat_lt, length, ap, ◌∙◌, subst, List, rules, true, false}
use Rattle.std.specs.List.Sorted.{IsPartitionPoint}
use Rattle.std.proofs.lemmas.List.Sorted.{IsPartitionPoint-from_clause}
use Rattle.std.proofs.lemmas.Result.{IfOk-weaker}
use Rattle.vf_base.specs.declared.ids.ProcId.{ProcId}
use Rattle.v_design.specs.declared.plan.Update.{Update}
use Rattle.event_queue.specs.Arranged.{lane_number, update_at}
use Rattle.event_queue.proofs.Places.{partitioned, with_update-at}
use Rattle.event_queue.proofs.calendar.put_update.Goals as goal

pub returns-clause-ok : goal.returns-clause-ok
returns-clause-ok c =
    let same : c.as_slice.result.now ≡ c.args.lanes.now = c.as_slice.ensures in
    let below = λ (y : ProcId × List Update). nat_lt y.0.0 c.args.process.0 in
    let at = IsPartitionPoint-from_clause below c.as_slice.result.now c.partition_point-place.result c.partition_point-place.ensures.partitioned
    (rw same (partitioned lane_number c.args.process.0 c.args.lanes.now c.requires)) (λ a r q k. search rules) in
    let within : c.partition_point-place.result ≤ length c.args.lanes.now = rw same at c.partition_point-place.ensures.bound in
    let Point : List (ProcId × List Update) → Type 0 = λ xs. IsPartitionPoint (λ y. below y ≡ true) (λ y. below y ≡ false) xs c.partition_point-place.result in
    let put = with_update-at c.args.process c.args.update c.args.lanes.now c.partition_point-place.result within (subst Point same at) in
    IfOk-weaker c.put_update_at-put.result _ _
    (λ x h. c.from_vec-2.ensures ∙ (h ∙ (ap (λ xs. update_at c.partition_point-place.result c.args.process c.args.update xs) (c.into_vec-list.ensures ∙ c.replace.ensures.value) ∙ put)))
    c.put_update_at-put.ensures.ok

-- The lane is taken out at the place that was found.
use Rattle.std.proofs.Common.{◌≡◌, ◌∙◌, nat_lt, map, sym, ap, subst, List, rules, true, false}
use Rattle.std.specs.List.Sorted.{IsPartitionPoint}
use Rattle.std.proofs.lemmas.List.Sorted.{IsPartitionPoint-from_clause}
use Rattle.vf_base.specs.declared.ids.ProcId.{ProcId}
use Rattle.v_design.specs.declared.plan.Update.{Update}
use Rattle.event_queue.specs.Arranged.{Ascends, lane_number, without_lane}
use Rattle.event_queue.proofs.Places.{partitioned}
use Rattle.event_queue.proofs.removals.remove_lane.Goals as goal

pub remove_lane_of-requires-clause-ascends : goal.remove_lane_of-requires-clause-ascends
remove_lane_of-requires-clause-ascends c =
    subst (λ (ls : List (ProcId × List Update)). Ascends (map lane_number ls)) (sym (c.into_vec-list.ensures ∙ c.replace.ensures.value)) c.requires

pub remove_lane_of-requires-clause-place : goal.remove_lane_of-requires-clause-place
remove_lane_of-requires-clause-place c =
    let same : c.as_slice.result.now ≡ c.args.lanes.now = c.as_slice.ensures in
    let below = λ (y : ProcId × List Update). nat_lt y.0.0 c.args.process.0 in
    let at = IsPartitionPoint-from_clause below c.as_slice.result.now c.partition_point-place.result c.partition_point-place.ensures.partitioned
    (rw same (partitioned lane_number c.args.process.0 c.args.lanes.now c.requires)) (λ a r q k. search rules) in
    let Point : List (ProcId × List Update) → Type 0 = λ xs. IsPartitionPoint (λ y. below y ≡ true) (λ y. below y ≡ false) xs c.partition_point-place.result in
    subst Point (sym (c.into_vec-list.ensures ∙ c.replace.ensures.value)) (subst Point same at)

pub returns : goal.returns
returns c = c.from_vec-2.ensures ∙ c.remove_lane_of.ensures ∙ ap (without_lane c.args.process) (c.into_vec-list.ensures ∙ c.replace.ensures.value)

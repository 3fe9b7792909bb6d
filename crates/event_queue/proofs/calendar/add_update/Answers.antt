-- A time that had no lanes has the first one.
use Rattle.std.proofs.Common.{nat_cmp, ◌≡◌, ◌∙◌, ap, cond, nat_eq, Some, Option, List}
use Rattle.std.specs.BTreeMap.{BTreeMap, get}
use Rattle.vf_base.specs.declared.ids.ProcId.{ProcId}
use Rattle.v_design.specs.declared.plan.Update.{Update}
use Rattle.event_queue.specs.Arranged.{with_update, list_or_none}
use Rattle.event_queue.proofs.Views.{is_at-nat_eq}
use Rattle.event_queue.proofs.calendar.add_update.Goals as goal

pub returns-in_ok-insert-in-None-clause-ok : goal.returns-in_ok-insert-in-None-clause-ok
returns-in_ok-insert-in-None-clause-ok c = λ t.
    let now = c.args.lanes.now in
    let there : List (ProcId × List Update) = c.in_ok-lane-in-None.lane in
    let first : there ≡ with_update c.args.process c.args.update.now (list_or_none (get nat_cmp now c.args.time)) =
    c.in_ok-lane-in-None.ensures ∙ ap (λ (o : Option (List (ProcId × List Update))). with_update c.args.process c.args.update.now (list_or_none o)) c.in-None.ensures.value in
    c.in_ok-insert-in-None.ensures.updates.0 t
    ∙ (ap (λ b. cond b (Some there) (get nat_cmp c.get_mut.follows.lender-at-none t)) (is_at-nat_eq c.args.time t)
    ∙ (ap (λ (m : BTreeMap _ (List (ProcId × List Update))). cond (nat_eq c.args.time t) (Some there) (get nat_cmp m t)) c.get_mut.follows.holds-at-none
    ∙ ap (λ (l : List (ProcId × List Update)). cond (nat_eq c.args.time t) (Some l) (get nat_cmp now t)) first))

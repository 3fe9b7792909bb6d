-- A time that has no lanes stays so.
use Rattle.std.proofs.Common.{◌∙◌, sym, ap, List, nat_cmp}
use Rattle.std.specs.BTreeMap.{BTreeMap, get}
use Rattle.vf_base.specs.declared.ids.ProcId.{ProcId}
use Rattle.v_design.specs.declared.plan.Update.{Update}
use Rattle.event_queue.specs.Arranged.{without_lane}
use Rattle.event_queue.proofs.Removed.{none-changed}
use Rattle.event_queue.proofs.removals.shorten_lanes.Goals as goal

pub returns-in_default : goal.returns-in_default
returns-in_default c = λ t.
    ap (λ (m : BTreeMap _ (List (ProcId × List Update))). get nat_cmp m t) c.get_mut.follows.holds-at-none
    ∙ none-changed c.args.time (without_lane c.args.process) c.args.lanes.now (sym c.in_default.ensures.value) t

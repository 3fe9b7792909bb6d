-- The lanes are gone at one time more, until all are.
use Rattle.std.proofs.Common.{map, take, subst, List, refl}
use Rattle.std.proofs.lemmas.List.{take_all}
use Rattle.v_design.specs.Plain.{due_of}
use Rattle.v_design.specs.States.{LaterUpdate}
use Rattle.v_design.specs.declared.plan.Due.{Due}
use Rattle.event_queue.specs.Arranged.{RemovesLanes}
use Rattle.event_queue.proofs.Updates.{taken-more}
use Rattle.event_queue.proofs.Removed.{removes-more, removes-Ascends}
use Rattle.event_queue.proofs.removals.remove_lanes.Goals as goal

pub updates-init : goal.updates-init
updates-init c = λ t. refl

pub remove_lane_at-requires : goal.remove_lane_at-requires
remove_lane_at-requires c =
    let time = c.due-item.result.time in
    removes-Ascends c.args.process c.args.lanes.now c.updates.lanes (map due_of (take c.updates.due-index c.args.updates.now)) c.updates.invariant time (c.requires time)

pub updates-preserved : goal.updates-preserved
updates-preserved c =
    let i = c.updates.due-index in
    let due : Due = c.due-item.result in
    subst (λ (later : List LaterUpdate). RemovesLanes c.args.process later c.args.lanes.now c.remove_lane_at.new.lanes) (taken-more c.args.updates.now i due c.updates-test.true c.due-item.is)
    (removes-more c.args.process c.args.lanes.now c.updates.lanes (map due_of (take i c.args.updates.now)) c.updates.invariant (due_of due) c.remove_lane_at.new.lanes c.remove_lane_at.ensures)

pub returns : goal.returns
returns c =
    subst (λ (us : List Due). RemovesLanes c.args.process (map due_of us) c.args.lanes.now c.updates.lanes) (take_all c.updates.due-index c.args.updates.now c.updates-test.false) c.updates.invariant

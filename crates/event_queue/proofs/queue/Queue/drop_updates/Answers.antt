-- The process's lanes and its updates are let go of together.
use Rattle.std.proofs.Common.{◌∙◌, length, sym, subst, ap, arith, List, []}
use Rattle.vf_base.specs.Lists.{change_at}
use Rattle.v_design.specs.States.{LaterUpdate}
use Rattle.event_queue.specs.declared.held.Held.{Held}
use Rattle.event_queue.specs.Queues.{HeldProcess, held_at, with_updates}
use Rattle.event_queue.specs.Arranged.{held_by_process, IsArranged, RemovesLanes}
use Rattle.event_queue.proofs.Arrangements.{lanes-Ascends}
use Rattle.event_queue.proofs.Removed.{arranged-cleared}
use Rattle.event_queue.proofs.Views.{held-after_slice, length-held_by_process}
use Rattle.event_queue.proofs.queue.Queue.drop_updates.Goals as goal

pub updates_of-updates-requires : goal.updates_of-updates-requires
updates_of-updates-requires c =
    omega (arith, c.requires, ap length c.self.view_is, length-held_by_process c.self.inside.processes.items, ap length c.deref.ensures.value)

pub remove_lanes-requires : goal.remove_lanes-requires
remove_lanes-requires c = λ time.
    lanes-Ascends (held_by_process c.self.inside.processes.items) c.self.inside.postponed c.self.inside.sleepers c.self.inside.lanes c.self.invariant time

pub invariant_of-self : goal.invariant_of-self
invariant_of-self c =
    let q = c.self.inside in
    let held : List HeldProcess = held_by_process q.processes.items in
    let p = c.args.process in
    let removes : RemovesLanes p (held_at held p.0).later q.lanes c.remove_lanes.new.lanes =
    subst (λ (later : List LaterUpdate). RemovesLanes p later q.lanes c.remove_lanes.new.lanes)
    (c.updates_of-updates.ensures ∙ ap (λ (processes : List Held). (held_at (held_by_process processes) p.0).later) c.deref.ensures.value) c.remove_lanes.ensures in
    let Arranged : List HeldProcess → Type 0 = λ h. IsArranged h q.postponed q.sleepers c.remove_lanes.new.lanes in
    subst Arranged
    (sym (held-after_slice q.processes.len c.clear_updates.new.processes c.deref_mut.result.now q.processes.items (λ h. change_at h p.0 (with_updates []))
    c.clear_updates.auto.processes c.deref_mut.ensures.len c.deref_mut.ensures.value c.clear_updates.ensures))
    (arranged-cleared held q.postponed q.sleepers q.lanes p c.self.invariant c.remove_lanes.new.lanes removes)

-- The time's lanes and the process's updates change together.
use Rattle.std.proofs.Common.{◌<◌, ◌∙◌, length, sym, subst, ap, List}
use Rattle.vf_base.specs.Lists.{change_at}
use Rattle.v_design.specs.Plain.{update_of}
use Rattle.event_queue.specs.Queues.{HeldProcess, with_later}
use Rattle.event_queue.specs.Arranged.{held_by_process, IsArranged}
use Rattle.event_queue.proofs.Arrangements.{lanes-Ascends}
use Rattle.event_queue.proofs.Updates.{arranged-later}
use Rattle.event_queue.proofs.Views.{held-after_slice}
use Rattle.event_queue.proofs.queue.Queue.schedule_update.Goals as goal

pub add_update-requires : goal.add_update-requires
add_update-requires c = lanes-Ascends (held_by_process c.self.inside.processes.items) c.self.inside.postponed c.self.inside.sleepers c.self.inside.lanes c.self.invariant c.args.time

pub invariant_of-self-2 : goal.invariant_of-self-2
invariant_of-self-2 c =
    let q = c.self.inside in
    let held : List HeldProcess = held_by_process q.processes.items in
    let p = c.args.process in
    let less : p.0 < length held = rw c.self.view_is c.requires in
    let change = λ (h : List HeldProcess). change_at h p.0 (with_later (record { time = c.args.time; update = update_of c.args.update })) in
    let roomy = held-after_slice q.processes.len c.reserve_update.new.processes c.deref_mut.result.now q.processes.items (λ h. h)
    c.reserve_update.auto.processes c.deref_mut.ensures.len c.deref_mut.ensures.value c.reserve_update.ensures.same in
    let after = held-after_slice q.processes.len c.push_update.new.processes c.deref_mut-2.result.now _ change
    c.push_update.auto.processes c.deref_mut-2.ensures.len c.deref_mut-2.ensures.value c.push_update.ensures in
    let Arranged : List HeldProcess → Type 0 = λ h. IsArranged h q.postponed q.sleepers c.add_update.new.lanes in
    subst Arranged (sym (after ∙ ap change roomy))
    (arranged-later held q.postponed q.sleepers q.lanes p less c.self.invariant c.args.time c.args.update c.add_update.new.lanes c.in_ok-add_update.ensures.ok)

-- The list of the postponed and the process's state change together.
use Rattle.std.proofs.Common.{◌≡◌, ◌<◌, length, sym, subst, List}
use Rattle.vf_base.specs.Lists.{change_at}
use Rattle.vf_base.specs.declared.ids.ProcId.{ProcId}
use Rattle.event_queue.specs.declared.held.Holding.TheVariants.{Postponed, Free}
use Rattle.event_queue.specs.Queues.{HeldProcess, held_at, with_holding}
use Rattle.event_queue.specs.Arranged.{held_by_process, IsArranged}
use Rattle.event_queue.proofs.Arrangements.{postponed-Ascends, arranged-postponed}
use Rattle.event_queue.proofs.Views.{held-after_slice}
use Rattle.event_queue.proofs.queue.Queue.postpone.Goals as goal

pub put_process-requires : goal.put_process-requires
put_process-requires c = postponed-Ascends (held_by_process c.self.inside.processes.items) c.self.inside.postponed c.self.inside.sleepers c.self.inside.lanes c.self.invariant

pub invariant_of-self-2 : goal.invariant_of-self-2
invariant_of-self-2 c =
    let q = c.self.inside in
    let held : List HeldProcess = held_by_process q.processes.items in
    let p = c.args.process.0 in
    let less : p < length held = rw c.self.view_is c.requires.number in
    let free : (held_at held p).holding ≡ Free = rw c.self.view_is c.requires.free in
    let Arranged : List HeldProcess → List ProcId → Type 0 = λ h ps. IsArranged h ps q.sleepers q.lanes in
    let after = held-after_slice q.processes.len c.hold.new.processes c.deref_mut.result.now q.processes.items (λ h. change_at h p (with_holding Postponed))
    c.hold.auto.processes c.deref_mut.ensures.len c.deref_mut.ensures.value c.hold.ensures in
    let Left : List HeldProcess → Type 0 = λ h. Arranged h c.put_process.new.list in
    let Right : List ProcId → Type 0 = Arranged (change_at held p (with_holding Postponed)) in
    subst Left (sym after) (subst Right (sym c.in_ok-put_process.ensures.ok) (arranged-postponed held q.postponed q.sleepers q.lanes p less free c.self.invariant))

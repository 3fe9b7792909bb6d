-- The list of the postponed and the process's state change together.
use Rattle.std.proofs.Common.{◌≡◌, sym, subst, List}
use Rattle.vf_base.specs.Lists.{change_at}
use Rattle.vf_base.specs.declared.ids.ProcId.{ProcId}
use Rattle.event_queue.specs.declared.held.Holding.TheVariants.{Postponed, Free}
use Rattle.event_queue.specs.Queues.{HeldProcess, held_at, with_holding}
use Rattle.event_queue.specs.Arranged.{held_by_process, IsArranged}
use Rattle.event_queue.proofs.Arrangements.{postponed-Ascends}
use Rattle.event_queue.proofs.Removed.{arranged-resumed}
use Rattle.event_queue.proofs.Views.{held-after_slice}
use Rattle.event_queue.proofs.queue.Queue.release_postponed.Goals as goal

pub remove_process-requires : goal.remove_process-requires
remove_process-requires c = postponed-Ascends (held_by_process c.self.inside.processes.items) c.self.inside.postponed c.self.inside.sleepers c.self.inside.lanes c.self.invariant

pub invariant_of-self : goal.invariant_of-self
invariant_of-self c =
    let q = c.self.inside in
    let held : List HeldProcess = held_by_process q.processes.items in
    let p = c.args.process in
    let is : (held_at held p.0).holding ≡ Postponed = rw c.self.view_is c.requires.postponed in
    let after = held-after_slice q.processes.len c.hold.new.processes c.deref_mut.result.now q.processes.items (λ h. change_at h p.0 (with_holding Free))
    c.hold.auto.processes c.deref_mut.ensures.len c.deref_mut.ensures.value c.hold.ensures in
    let Left : List HeldProcess → Type 0 = λ h. IsArranged h c.remove_process.new.list q.sleepers q.lanes in
    let Right : List ProcId → Type 0 = λ ps. IsArranged (change_at held p.0 (with_holding Free)) ps q.sleepers q.lanes in
    subst Left (sym after) (subst Right (sym c.remove_process.ensures) (arranged-resumed held q.postponed q.sleepers q.lanes p c.self.invariant is))

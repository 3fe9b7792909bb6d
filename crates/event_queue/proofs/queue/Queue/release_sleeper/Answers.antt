-- The time's list and the process's state change together.
use Rattle.std.proofs.Common.{◌≡◌, sym, subst, List}
use Rattle.vf_base.specs.Lists.{change_at}
use Rattle.event_queue.specs.declared.held.Holding.TheVariants.{Asleep, Free}
use Rattle.event_queue.specs.Queues.{HeldProcess, held_at, with_holding}
use Rattle.event_queue.specs.Arranged.{held_by_process, IsArranged}
use Rattle.event_queue.proofs.Arrangements.{sleepers-Ascends}
use Rattle.event_queue.proofs.Removed.{arranged-roused}
use Rattle.event_queue.proofs.Views.{held-after_slice}
use Rattle.event_queue.proofs.queue.Queue.release_sleeper.Goals as goal

pub remove_sleeper-requires : goal.remove_sleeper-requires
remove_sleeper-requires c = sleepers-Ascends (held_by_process c.self.inside.processes.items) c.self.inside.postponed c.self.inside.sleepers c.self.inside.lanes c.self.invariant c.args.time

pub invariant_of-self : goal.invariant_of-self
invariant_of-self c =
    let q = c.self.inside in
    let held : List HeldProcess = held_by_process q.processes.items in
    let p = c.args.process in
    let asleep : (held_at held p.0).holding ≡ Asleep c.args.time = rw c.self.view_is c.requires.asleep in
    let Arranged : List HeldProcess → Type 0 = λ h. IsArranged h q.postponed c.remove_sleeper.new.sleepers q.lanes in
    subst Arranged
    (sym (held-after_slice q.processes.len c.hold.new.processes c.deref_mut.result.now q.processes.items (λ h. change_at h p.0 (with_holding Free))
    c.hold.auto.processes c.deref_mut.ensures.len c.deref_mut.ensures.value c.hold.ensures))
    (arranged-roused held q.postponed q.sleepers q.lanes p c.self.invariant c.args.time c.remove_sleeper.new.sleepers asleep c.remove_sleeper.ensures)

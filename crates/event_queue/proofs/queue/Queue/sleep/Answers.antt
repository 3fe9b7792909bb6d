-- The time's list and the process's state change together.
use Rattle.std.proofs.Common.{◌≡◌, ◌<◌, length, sym, subst, List}
use Rattle.vf_base.specs.Lists.{change_at}
use Rattle.event_queue.specs.declared.held.Holding.TheVariants.{Asleep, Free}
use Rattle.event_queue.specs.Queues.{HeldProcess, held_at, with_holding}
use Rattle.event_queue.specs.Arranged.{held_by_process, IsArranged}
use Rattle.event_queue.proofs.Arrangements.{sleepers-Ascends, arranged-asleep}
use Rattle.event_queue.proofs.Views.{held-after_slice}
use Rattle.event_queue.proofs.queue.Queue.sleep.Goals as goal

pub add_sleeper-requires : goal.add_sleeper-requires
add_sleeper-requires c = sleepers-Ascends (held_by_process c.self.inside.processes.items) c.self.inside.postponed c.self.inside.sleepers c.self.inside.lanes c.self.invariant c.args.time

pub invariant_of-self-2 : goal.invariant_of-self-2
invariant_of-self-2 c =
    let q = c.self.inside in
    let held : List HeldProcess = held_by_process q.processes.items in
    let p = c.args.process.0 in
    let less : p < length held = rw c.self.view_is c.requires.number in
    let free : (held_at held p).holding ≡ Free = rw c.self.view_is c.requires.free in
    let Arranged : List HeldProcess → Type 0 = λ h. IsArranged h q.postponed c.add_sleeper.new.sleepers q.lanes in
    subst Arranged
    (sym (held-after_slice q.processes.len c.hold.new.processes c.deref_mut.result.now q.processes.items (λ h. change_at h p (with_holding (Asleep c.args.time)))
    c.hold.auto.processes c.deref_mut.ensures.len c.deref_mut.ensures.value c.hold.ensures))
    (arranged-asleep held q.postponed q.sleepers q.lanes p less free c.self.invariant c.args.time c.add_sleeper.new.sleepers c.in_ok-add_sleeper.ensures.ok)

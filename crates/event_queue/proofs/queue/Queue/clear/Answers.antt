-- Nothing is held by process, and nothing by time.
use Rattle.std.proofs.Common.{◌∙◌, ℕ, length, sym, subst, ap, List}
use Rattle.vf_base.specs.declared.ids.ProcId.{ProcId}
use Rattle.event_queue.specs.Queues.{HeldProcess, nothing_held, repeated}
use Rattle.event_queue.specs.Arranged.{held_by_process, IsArranged}
use Rattle.event_queue.proofs.NothingHeld.{arranged-nothing}
use Rattle.event_queue.proofs.Views.{held-after_slice, length-held_by_process}
use Rattle.event_queue.proofs.queue.Queue.clear.Goals as goal

pub invariant_of-self : goal.invariant_of-self
invariant_of-self c =
    let q = c.self.inside in
    let n : ℕ = length (held_by_process q.processes.items) in
    let after = held-after_slice q.processes.len c.clear_all.new.processes c.deref_mut.result.now q.processes.items (λ (h : List HeldProcess). repeated nothing_held (length h))
    c.clear_all.auto.processes c.deref_mut.ensures.len c.deref_mut.ensures.value
    (c.clear_all.ensures ∙ ap (repeated nothing_held) (sym (length-held_by_process c.deref_mut.result.now))) in
    let Left : List HeldProcess → Type 0 = λ h. IsArranged h c.from_vec.result c.new-2.result c.new-3.result in
    let Posts : List ProcId → Type 0 = λ ps. IsArranged (repeated nothing_held n) ps c.new-2.result c.new-3.result in
    subst Left (sym after)
    (subst Posts (sym (c.from_vec.ensures ∙ c.new.ensures.items)) (arranged-nothing n c.new-2.result c.new-3.result c.new-2.ensures.empty c.new-3.ensures.empty))

pub returns : goal.returns
returns c =
    let q = c.self.inside in
    held-after_slice q.processes.len c.clear_all.new.processes c.deref_mut.result.now q.processes.items (λ (h : List HeldProcess). repeated nothing_held (length h))
    c.clear_all.auto.processes c.deref_mut.ensures.len c.deref_mut.ensures.value
    (c.clear_all.ensures ∙ ap (repeated nothing_held) (sym (length-held_by_process c.deref_mut.result.now)))
    ∙ ap (λ (h : List HeldProcess). repeated nothing_held (length h)) c.self.view_is

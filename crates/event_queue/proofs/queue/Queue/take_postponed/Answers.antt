-- What is postponed is taken whole.
use Rattle.std.proofs.Common.{◌≡◌, ◌<◌, ◌∙◌, ◌++◌, take, drop, true, false, length, map, sym, subst, ap, List, refl, ℕ, []}
use Rattle.vf_base.specs.Lists.{AllHold}
use Rattle.v_design.specs.States.{is_any}
use Rattle.vf_base.specs.declared.ids.ProcId.{ProcId}
use Rattle.vf_base.specs.Base.{process_number}
use Rattle.event_queue.specs.declared.held.Holding.TheVariants.{Free}
use Rattle.event_queue.specs.Queues.{HeldProcess, is_postponed, with_holding, released}
use Rattle.event_queue.specs.Arranged.{held_by_process, IsArranged, processes_where}
use Rattle.event_queue.proofs.Arrangements.{processes_where-below}
use Rattle.event_queue.proofs.Releases.{arranged-released, changed_each-released, is_any-empty, is_any-full, processes_where-is_any}
use Rattle.event_queue.proofs.Views.{held-after_each, length-held_by_process}
use Rattle.event_queue.proofs.queue.Queue.take_postponed.Goals as goal

pub returns-then-is_empty : goal.returns-then-is_empty
returns-then-is_empty c =
    let none : is_any c.self.inside.postponed ≡ false = ap is_any (sym c.as_slice.ensures) ∙ is_any-empty c.as_slice.result.now c.if-is_empty.ensures in
    (rw (← c.self.view_is) (sym (processes_where-is_any is_postponed (held_by_process c.self.inside.processes.items)) ∙ (ap is_any (sym c.self.invariant.postponed_are) ∙ none)), refl)

pub free_each-requires : goal.free_each-requires
free_each-requires c =
    let held : List HeldProcess = held_by_process c.self.inside.processes.items in
    let list : c.as_slice-2.result.now ≡ processes_where is_postponed held = c.as_slice-2.ensures ∙ (c.replace-processes.ensures.value ∙ c.self.invariant.postponed_are) in
    let long : length held ≡ length c.deref_mut.result.now = length-held_by_process c.self.inside.processes.items ∙ ap length (sym c.deref_mut.ensures.value) in
    let Below : ℕ → Type 0 = λ m. AllHold (λ n. n < m) (map process_number c.as_slice-2.result.now) in
    let Those : List ProcId → Type 0 = λ ps. AllHold (λ n. n < length held) (map process_number ps) in
    subst Below long (subst Those (sym list) (processes_where-below is_postponed held))

-- what is held after it
after : (c : goal.After-self-1) → held_by_process (take c.self.inside.processes.len (c.free_each.new.processes ++ drop (length c.free_each.new.processes) c.self.inside.processes.items))
    ≡ released is_postponed (held_by_process c.self.inside.processes.items)
after c =
    let q = c.self.inside in
    let held : List HeldProcess = held_by_process q.processes.items in
    let list : c.as_slice-2.result.now ≡ processes_where is_postponed held = c.as_slice-2.ensures ∙ (c.replace-processes.ensures.value ∙ c.self.invariant.postponed_are) in
    held-after_each q.processes.len c.free_each.new.processes c.deref_mut.result.now q.processes.items (with_holding Free) _ (map process_number (processes_where is_postponed held)) _
    c.free_each.auto.processes c.deref_mut.ensures.len c.deref_mut.ensures.value c.free_each.ensures (ap (map process_number) list) (changed_each-released is_postponed held)

pub invariant_of-self : goal.invariant_of-self
invariant_of-self c =
    let q = c.self.inside in
    let held : List HeldProcess = held_by_process q.processes.items in
    let none : c.replace-processes.new.dest ≡ [] = c.replace-processes.ensures.after ∙ (c.from_vec.ensures ∙ c.new.ensures.items) in
    let Left : List HeldProcess → Type 0 = λ h. IsArranged h c.replace-processes.new.dest q.sleepers q.lanes in
    let Right : List ProcId → Type 0 = λ ps. IsArranged (released is_postponed held) ps q.sleepers q.lanes in
    subst Left (sym (after c)) (subst Right (sym none) (arranged-released held q.postponed q.sleepers q.lanes c.self.invariant))

pub returns : goal.returns
returns c =
    let q = c.self.inside in
    let held : List HeldProcess = held_by_process q.processes.items in
    let some : is_any q.postponed ≡ true = ap is_any (sym c.as_slice.ensures) ∙ is_any-full c.as_slice.result.now c.if-is_empty.ensures in
    rw (← c.self.view_is) (
      sym (processes_where-is_any is_postponed held) ∙ (ap is_any (sym c.self.invariant.postponed_are) ∙ some),
      c.replace-processes.ensures.value ∙ c.self.invariant.postponed_are,
      after c,
    )

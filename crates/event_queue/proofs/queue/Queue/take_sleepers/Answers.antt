-- The sleepers of the time are taken whole.
use Rattle.std.proofs.Common.{◌≡◌, ◌<◌, ◌∙◌, ◌++◌, take, drop, length, map, sym, subst, ap, List, ℕ, [], None, cond, nat_cmp, nat_eq}
use Rattle.std.specs.BTreeMap.{get}
use Rattle.vf_base.specs.Lists.{AllHold}
use Rattle.v_design.specs.States.{is_any}
use Rattle.vf_base.specs.declared.ids.ProcId.{ProcId}
use Rattle.vf_base.specs.Base.{process_number}
use Rattle.event_queue.specs.declared.held.Holding.TheVariants.{Free}
use Rattle.event_queue.specs.Queues.{HeldProcess, with_holding, released}
use Rattle.event_queue.specs.Arranged.{held_by_process, IsArranged, processes_where, wakes_at}
use Rattle.event_queue.proofs.Arrangements.{processes_where-below}
use Rattle.event_queue.proofs.Releases.{arranged-woken, changed_each-released, listed_in-Some, listed_in-None, released-none, processes_where-is_any}
use Rattle.event_queue.proofs.Views.{held-after_each, length-held_by_process, is_at-nat_eq}
use Rattle.event_queue.proofs.queue.Queue.take_sleepers.Goals as goal

pub returns-in_default-clause-left : goal.returns-in_default-clause-left
returns-in_default-clause-left c =
    let held : List HeldProcess = held_by_process c.self.inside.processes.items in
    let none : processes_where (wakes_at c.args.time) held ≡ [] = listed_in-None _ (c.in_default.ensures.value ∙ c.self.invariant.sleepers_are c.args.time) in
    rw (← c.self.view_is)
    (sym (released-none (wakes_at c.args.time) held (sym (processes_where-is_any (wakes_at c.args.time) held) ∙ ap is_any none)))

pub free_each-requires : goal.free_each-requires
free_each-requires c =
    let held : List HeldProcess = held_by_process c.self.inside.processes.items in
    let list : c.as_slice.result.now ≡ processes_where (wakes_at c.args.time) held =
    c.as_slice.ensures ∙ (listed_in-Some _ _ (c.in-Some.ensures.value ∙ c.self.invariant.sleepers_are c.args.time)).0 in
    let long : length held ≡ length c.deref_mut.result.now = length-held_by_process c.self.inside.processes.items ∙ ap length (sym c.deref_mut.ensures.value) in
    let Below : ℕ → Type 0 = λ m. AllHold (λ n. n < m) (map process_number c.as_slice.result.now) in
    let Those : List ProcId → Type 0 = λ ps. AllHold (λ n. n < length held) (map process_number ps) in
    subst Below long (subst Those (sym list) (processes_where-below (wakes_at c.args.time) held))

-- what is held after it
after : (c : goal.After-self-1) → held_by_process (take c.self.inside.processes.len (c.free_each.new.processes ++ drop (length c.free_each.new.processes) c.self.inside.processes.items))
    ≡ released (wakes_at c.args.time) (held_by_process c.self.inside.processes.items)
after c =
    let q = c.self.inside in
    let held : List HeldProcess = held_by_process q.processes.items in
    let list : c.as_slice.result.now ≡ processes_where (wakes_at c.args.time) held =
    c.as_slice.ensures ∙ (listed_in-Some _ _ (c.in-Some.ensures.value ∙ c.self.invariant.sleepers_are c.args.time)).0 in
    held-after_each q.processes.len c.free_each.new.processes c.deref_mut.result.now q.processes.items (with_holding Free) _ (map process_number (processes_where (wakes_at c.args.time) held)) _
    c.free_each.auto.processes c.deref_mut.ensures.len c.deref_mut.ensures.value c.free_each.ensures (ap (map process_number) list) (changed_each-released (wakes_at c.args.time) held)

pub invariant_of-self-2 : goal.invariant_of-self-2
invariant_of-self-2 c =
    let q = c.self.inside in
    let held : List HeldProcess = held_by_process q.processes.items in
    let Left : List HeldProcess → Type 0 = λ h. IsArranged h q.postponed c.remove.new.self q.lanes in
    let gone : (t : ℕ) → get nat_cmp c.remove.new.self t ≡ cond (nat_eq c.args.time t) None (get nat_cmp q.sleepers t) = λ t.
    c.remove.ensures.updates.0 t ∙ ap (λ b. cond b None (get nat_cmp q.sleepers t)) (is_at-nat_eq c.args.time t) in
    subst Left (sym (after c)) (arranged-woken held q.postponed q.sleepers q.lanes c.self.invariant c.args.time c.remove.new.self gone)

pub returns-clause-left : goal.returns-clause-left
returns-clause-left c = rw (← c.self.view_is) (after c)

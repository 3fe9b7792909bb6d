-- The lanes of the time are taken whole.
use Rattle.std.proofs.Common.{◌≡◌, ◌<◌, ◌+◌, arith, ◌∙◌, ◌++◌, take, drop, length, map, sym, subst, ap, List, refl, ℕ, [], Option, None, cond, nat_cmp, nat_eq}
use Rattle.std.specs.Option.{option_map}
use Rattle.std.specs.BTreeMap.{get}
use Rattle.vf_base.specs.Lists.{AllHold}
use Rattle.v_design.specs.States.{is_any}
use Rattle.vf_base.specs.declared.ids.ProcId.{ProcId}
use Rattle.v_design.specs.declared.plan.Update.{Update}
use Rattle.event_queue.specs.Queues.{HeldProcess, lanes_from, numbers_where}
use Rattle.event_queue.specs.Arranged.{held_by_process, IsArranged, lane_of, lane_number, list_or_none, updates_at, without_at}
use Rattle.event_queue.proofs.Arrangements.{lanes-numbers}
use Rattle.event_queue.proofs.Numbers.{numbers_where-below, AllHold-weaker}
use Rattle.event_queue.proofs.Releases.{arranged-without, changed_each-without, listed_in-Some, listed_in-None, lanes_from-is_any}
use Rattle.event_queue.proofs.Views.{held-after_each, length-held_by_process, is_at-nat_eq}
use Rattle.event_queue.proofs.queue.Queue.take_lanes.Goals as goal

pub returns-in_err-lanes : goal.returns-in_err-lanes
returns-in_err-lanes c =
    let held : List HeldProcess = held_by_process c.self.inside.processes.items in
    let t = c.args.time in
    let none : lanes_from (updates_at t) 0 held ≡ [] = listed_in-None _ (ap (option_map (map lane_of)) c.in_err-lanes.ensures.value ∙ c.self.invariant.lanes_are t) in
    rw c.from_residual.ensures (rw (← c.self.view_is) (sym (lanes_from-is_any t 0 held) ∙ ap is_any none, refl))

-- the lanes are those of the time
found : (c : goal.After-as_slice) → map lane_of c.in_ok-lanes.lanes ≡ lanes_from (updates_at c.args.time) 0 (held_by_process c.self.inside.processes.items)
found c = (listed_in-Some _ _ (ap (option_map (map lane_of)) c.in_ok-lanes.ensures.value ∙ c.self.invariant.lanes_are c.args.time)).0

-- and their numbers those of the processes that have updates then
numbers : (c : goal.After-as_slice) → map lane_number c.as_slice.result.now ≡ numbers_where (λ h. is_any (updates_at c.args.time h)) 0 (held_by_process c.self.inside.processes.items)
numbers c =
    let q = c.self.inside in
    let list : c.as_slice.result.now ≡ list_or_none (get nat_cmp q.lanes c.args.time) = c.as_slice.ensures
    ∙ ap (λ (o : Option (List (ProcId × List Update))). list_or_none o) c.in_ok-lanes.ensures.value in
    ap (map lane_number) list ∙ lanes-numbers (held_by_process q.processes.items) q.postponed q.sleepers q.lanes c.self.invariant c.args.time

pub drop_each-requires : goal.drop_each-requires
drop_each-requires c =
    let held : List HeldProcess = held_by_process c.self.inside.processes.items in
    let long : length held ≡ length c.deref_mut.result.now = length-held_by_process c.self.inside.processes.items ∙ ap length (sym c.deref_mut.ensures.value) in
    let Below : ℕ → Type 0 = λ m. AllHold (λ n. n < m) (map lane_number c.as_slice.result.now) in
    let Those : List ℕ → Type 0 = λ ns. AllHold (λ n. n < length held) ns in
    subst Below long (subst Those (sym (numbers c))
    (AllHold-weaker (λ y. y < 0 + length held) (λ y. y < length held) _ (λ y h. omega arith) (numbers_where-below (λ h. is_any (updates_at c.args.time h)) 0 held)))

-- what is held after it
after : (c : goal.After-self-1) → held_by_process (take c.self.inside.processes.len (c.drop_each.new.processes ++ drop (length c.drop_each.new.processes) c.self.inside.processes.items))
    ≡ map (without_at c.args.time) (held_by_process c.self.inside.processes.items)
after c =
    let q = c.self.inside in
    let held : List HeldProcess = held_by_process q.processes.items in
    let list : c.as_slice.result.now ≡ list_or_none (get nat_cmp q.lanes c.args.time) = c.as_slice.ensures
    ∙ ap (λ (o : Option (List (ProcId × List Update))). list_or_none o) c.in_ok-lanes.ensures.value in
    held-after_each q.processes.len c.drop_each.new.processes c.deref_mut.result.now q.processes.items (without_at c.args.time) _ (numbers_where (λ h. is_any (updates_at c.args.time h)) 0 held) _
    c.drop_each.auto.processes c.deref_mut.ensures.len c.deref_mut.ensures.value c.drop_each.ensures
    (ap (map lane_number) list ∙ lanes-numbers held q.postponed q.sleepers q.lanes c.self.invariant c.args.time) (changed_each-without c.args.time held)

pub invariant_of-self-2 : goal.invariant_of-self-2
invariant_of-self-2 c =
    let q = c.self.inside in
    let held : List HeldProcess = held_by_process q.processes.items in
    let Left : List HeldProcess → Type 0 = λ h. IsArranged h q.postponed q.sleepers c.remove.new.self in
    let gone : (t : ℕ) → get nat_cmp c.remove.new.self t ≡ cond (nat_eq c.args.time t) None (get nat_cmp q.lanes t) = λ t.
    c.remove.ensures.updates.0 t ∙ ap (λ b. cond b None (get nat_cmp q.lanes t)) (is_at-nat_eq c.args.time t) in
    subst Left (sym (after c)) (arranged-without held q.postponed q.sleepers q.lanes c.self.invariant c.args.time c.remove.new.self gone)

pub returns : goal.returns
returns c =
    let held : List HeldProcess = held_by_process c.self.inside.processes.items in
    let t = c.args.time in
    let there = listed_in-Some (lanes_from (updates_at t) 0 held) _ (ap (option_map (map lane_of)) c.in_ok-lanes.ensures.value ∙ c.self.invariant.lanes_are t) in
    rw (← c.self.view_is) (sym (lanes_from-is_any t 0 held) ∙ there.1, there.0, after c)

-- The object isn't there, was seen, or is new.
use Rattle.std.proofs.Common.{rules, ◌≡◌, ℕ, ◌+◌, ◌<◌, ◌≤◌, ◌∙◌, ◌++◌, ◌∷◌, [], List, sym, subst, length, map, set, arith}
use Rattle.std.specs.Prelude.{Vec}
use Rattle.std.specs.declared.alloc.Global.{Global}
use Rattle.vf_base.specs.declared.ids.ProcId.{ProcId}
use Rattle.std.proofs.lemmas.List.{get_or_read, length-map}
use Rattle.vf_base.specs.Base.{object_number, process_number}
use Rattle.wait_index.specs.Index.{process_lists}
use Rattle.wait_index.specs.Tables.{WaitersAdded, WaitersAdded-outside, WaitersAdded-again, WaitersAdded-new, process_lists-push}
use Rattle.wait_index.proofs.index.add_waiter.Goals as goal

pub returns-then-at-len-clause-added : goal.returns-then-at-len-clause-added
returns-then-at-len-clause-added c = λ taken before had.
    WaitersAdded-outside (process_number c.args.process) taken before c.args.seen.now.items (process_lists c.args.waiters.now.items) (object_number c.args.object) had
    (omega (arith, length-map c.args.waiters.now.items (λ (list : Vec ProcId Global). map process_number list.items), c.if-at-len.true))

pub returns-then-index-stamp-clause-added : goal.returns-then-index-stamp-clause-added
returns-then-index-stamp-clause-added c = λ taken before had.
    let within : object_number c.args.object < length c.args.seen.now.items = search rules in
    WaitersAdded-again (process_number c.args.process) taken before c.args.seen.now.items (process_lists c.args.waiters.now.items) (object_number c.args.object) had within
    (sym (get_or_read c.args.seen.now.items (object_number c.args.object) c.index.result.now within c.index.ensures 0) ∙ c.if-index-stamp.true)

pub returns-clause-added : goal.returns-clause-added
returns-clause-added c = λ taken before had.
    let within : object_number c.args.object < length c.args.seen.now.items = search rules in
    let in_lists : object_number c.args.object < length c.args.waiters.now.items = search rules in
    let low : object_number c.args.object < length (process_lists c.args.waiters.now.items) =
    omega (arith, length-map c.args.waiters.now.items (λ (list : Vec ProcId Global). map process_number list.items)) in
    subst (WaitersAdded (process_number c.args.process) (taken ++ object_number c.args.object ∷ []) before
    (set c.args.seen.now.items (object_number c.args.object) (process_number c.args.process + 1)))
    (sym (process_lists-push c.args.waiters.now.items (object_number c.args.object) c.index_mut.result.now c.push.new.self c.args.process in_lists c.index_mut.ensures.value
    c.in_ok-push.ensures.items))
    (WaitersAdded-new (process_number c.args.process) taken before c.args.seen.now.items (process_lists c.args.waiters.now.items) (object_number c.args.object) had low
    (λ e. c.if-index-stamp.false (get_or_read c.args.seen.now.items (object_number c.args.object) c.index.result.now within c.index.ensures 0 ∙ e)))

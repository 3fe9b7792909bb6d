-- One more process of which nothing is held, until there are all.
use Rattle.std.proofs.Common.{◌≡◌, ◌∙◌, ◌++◌, ◌∷◌, [], List, ap, sym, subst, map, arith}
use Rattle.vf_base.specs.declared.ids.ProcId.{ProcId}
use Rattle.event_queue.specs.declared.held.Held.{Held}
use Rattle.event_queue.specs.declared.held.Holding.TheVariants.{Free}
use Rattle.v_design.specs.States.{LaterUpdate}
use Rattle.v_design.specs.Plain.{due_of}
use Rattle.event_queue.specs.Queues.{HeldProcess, nothing_held, repeated}
use Rattle.event_queue.specs.Arranged.{held_process, held_by_process, IsArranged}
use Rattle.event_queue.proofs.Updates.{map-push}
use Rattle.event_queue.proofs.NothingHeld.{repeated-push, arranged-nothing}
use Rattle.event_queue.proofs.queue.Queue.new.Goals as goal

pub loop-preserved : goal.loop-preserved
loop-preserved c =
    let pushed : Held = record { holding = Free; later = c.new.result } in
    let with : List LaterUpdate → List HeldProcess = λ later. held_by_process c.loop.held.items ++ record { holding = Free; later = later } ∷ [] in
    let One : List HeldProcess → List HeldProcess = λ h. h ++ nothing_held ∷ [] in
    ap held_by_process c.in_ok-push.ensures.items
    ∙ (map-push held_process c.loop.held.items pushed
    ∙ (ap with (ap (map due_of) c.new.ensures.items)
    ∙ (ap One c.loop.invariant ∙ repeated-push nothing_held c.loop.counter)))

pub invariant_of-result : goal.invariant_of-result
invariant_of-result c =
    let Held' : List HeldProcess → Type 0 = λ h. IsArranged h [] c.new-3.result c.new-4.result in
    let Posts : List ProcId → Type 0 = λ ps. IsArranged (held_by_process c.loop.held.items) ps c.new-3.result c.new-4.result in
    subst Posts (sym (c.from_vec.ensures ∙ c.new-2.ensures.items))
    (subst Held' (sym c.loop.invariant) (arranged-nothing c.loop.counter c.new-3.result c.new-4.result c.new-3.ensures.empty c.new-4.ensures.empty))

pub returns : goal.returns
returns c = let t = c.loop-test.false in let b = c.loop.auto in let all : c.loop.counter ≡ c.args.processes = omega arith in c.loop.invariant ∙ ap (repeated nothing_held) all

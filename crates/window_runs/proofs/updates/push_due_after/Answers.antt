use Rattle.std.proofs.Common.{◌≡◌, ℕ, ◌+◌, ◌<◌, List, [], ◌∷◌, ◌++◌, map, take, get_or, length, sym, ap, ◌∙◌, append-nil, append_assoc}
use Rattle.std.proofs.lemmas.List.{take_all, take_more, map_push}
use Rattle.v_design.specs.Plain.{due_of}
use Rattle.v_design.specs.States.{LaterUpdate}
use Rattle.v_design.specs.declared.plan.Due.{Due}
use Rattle.between_slots.specs.Updates.{due_after}
use Rattle.between_slots.specs.UpdateLaws.{due-append}
use Rattle.window_runs.proofs.updates.push_due_after.Goals as goal

-- one update more
due-more : (first updates now : List LaterUpdate) (more : List Due) (i : ℕ) (due : Due) (time : ℕ) → i < length more → due ≡ get_or more i due →
    updates ≡ first ++ due_after time (map due_of (take i more)) → now ≡ updates ++ due_after time (due_of due ∷ []) → now ≡ first ++ due_after time (map due_of (take (i + 1) more))
due-more first updates now more i due time low read had is =
    is ∙ ap (λ l. l ++ due_after time (due_of due ∷ [])) had
    ∙ append_assoc first (due_after time (map due_of (take i more))) (due_after time (due_of due ∷ []))
    ∙ ap (λ l. first ++ l)
    (sym (due-append time (map due_of (take i more)) (due_of due ∷ []))
    ∙ ap (due_after time) (sym (ap (map due_of) (take_more more i due low ∙ ap (λ d. take i more ++ d ∷ []) (sym read)) ∙ map_push due_of (take i more) due)))

pub updates-init : goal.updates-init
updates-init c = sym (append-nil (map due_of c.args.updates.now.items))

pub updates-preserved : goal.updates-preserved
updates-preserved c =
    due-more (map due_of c.args.updates.now.items) (map due_of c.updates.updates.items) (map due_of c.push_late.new.updates.items) c.args.more.now c.updates.due-index c.due-item.result c.args.time
    c.updates-test.true c.due-item.is c.updates.invariant c.in_ok-push_late.ensures

pub returns : goal.returns
returns c =
    c.updates.invariant ∙ ap (λ l. map due_of c.args.updates.now.items ++ due_after c.args.time (map due_of l)) (take_all c.updates.due-index c.args.more.now c.updates-test.false)

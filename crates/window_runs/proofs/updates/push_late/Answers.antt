use Rattle.std.proofs.Common.{◌≡◌, ℕ, ◌<◌, ◌≤◌, not, cond, List, [], ◌∷◌, ◌++◌, map, sym, ap, ◌∙◌, append-nil}
use Rattle.std.proofs.lemmas.Bool.{le-leb, lt-leb}
use Rattle.std.proofs.lemmas.List.{map_push}
use Rattle.v_design.specs.Plain.{due_of}
use Rattle.v_design.specs.States.{LaterUpdate}
use Rattle.v_design.specs.declared.plan.Due.{Due}
use Rattle.between_slots.specs.Updates.{due_after}
use Rattle.window_runs.proofs.updates.push_late.Goals as goal

kept : (due : Due) (time : ℕ) → time < due.time → due_after time (due_of due ∷ []) ≡ due_of due ∷ []
kept due time late = ap (λ b. cond (not b) (due_of due ∷ []) []) (lt-leb due.time time late)

left-out : (due : Due) (time : ℕ) → due.time ≤ time → due_after time (due_of due ∷ []) ≡ []
left-out due time early = ap (λ b. cond (not b) (due_of due ∷ []) []) (le-leb due.time time early)

pub returns-then-due-time : goal.returns-then-due-time
returns-then-due-time c =
    sym (append-nil (map due_of c.args.updates.now.items))
    ∙ ap (λ (l : List LaterUpdate). map due_of c.args.updates.now.items ++ l) (sym (left-out c.args.due c.args.time c.if-due-time.true))

pub returns : goal.returns
returns c =
    ap (map due_of) c.in_ok-push.ensures.items
    ∙ map_push due_of c.args.updates.now.items c.args.due
    ∙ ap (λ (l : List LaterUpdate). map due_of c.args.updates.now.items ++ l) (sym (kept c.args.due c.args.time c.if-due-time.false))

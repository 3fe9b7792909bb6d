use Rattle.std.proofs.Common.{◌++◌, List, map, sym, ap, ◌∙◌, append-nil}
use Rattle.std.specs.Option.{option_map, option_to_list}
use Rattle.v_design.specs.Plain.{due_of}
use Rattle.v_design.specs.States.{LaterUpdate}
use Rattle.between_slots.specs.Updates.{due_after}
use Rattle.window_runs.specs.Through.{appended_of}
use Rattle.window_runs.proofs.updates.push_run.Goals as goal

pub returns-in-None : goal.returns-in-None
returns-in-None c =
    sym (append-nil (map due_of c.args.updates.now.items))
    ∙ ap (λ o. map due_of c.args.updates.now.items ++ due_after c.args.time (appended_of (option_to_list (option_map (λ run. run.now) o)))) (sym c.in-None.is)

pub returns-in_ok-push_due_after-in-Some : goal.returns-in_ok-push_due_after-in-Some
returns-in_ok-push_due_after-in-Some c =
    c.in_ok-push_due_after-in-Some.ensures
    ∙ ap (λ (l : List LaterUpdate). map due_of c.args.updates.now.items ++ due_after c.args.time l)
    (ap (map due_of) c.as_slice.ensures ∙ sym (append-nil (map due_of c.in-Some.run'.now.later))
    ∙ ap (λ o. appended_of (option_to_list (option_map (λ run. run.now) o))) (sym c.in-Some.is))

use Rattle.std.proofs.Common.{◌++◌, map, sym, ap, ◌∙◌}
use Rattle.vf_base.specs.Base.{process_number}
use Rattle.v_design.specs.Plain.{due_of}
use Rattle.between_slots.specs.Updates.{due_after}
use Rattle.between_slots.specs.UpdateLaws.{due-append}
use Rattle.window_runs.specs.Through.{appended_through}
use Rattle.window_runs.proofs.index.RunIndex.pending_through.Goals as goal

pub returns : goal.returns
returns c =
    let more = appended_through (process_number c.args.process) c.args.phase c.args.runs.now in
    c.in_ok-push_appended.ensures
    ∙ ap (λ l. l ++ due_after c.args.time more) (c.in_ok-push_due_after.ensures ∙ ap (λ l. map due_of l ++ due_after c.args.time (map due_of c.args.first.now)) c.new-pending.ensures.items)
    ∙ sym (due-append c.args.time (map due_of c.args.first.now) more)

-- The step is noted in the process's present run, and the run with those that ended.
use Rattle.std.proofs.Common.{◌∙◌, ◌++◌, ◌∷◌, [], ap}
use Rattle.vf_base.specs.Base.{process_number}
use Rattle.run_record.specs.RunRecords.{runs_so_far}
use Rattle.run_record.proofs.Calls.{end-called}
use Rattle.run_record.proofs.record.RunRecord.end.Goals as goal

pub returns : goal.returns
returns c =
    end-called (record { steps = c.own_runs.ensures.steps; runs = c.own_runs.ensures.runs; ready = c.own_runs.ensures.ready; time = c.own_runs.ensures.time; leads = c.present_runs_lead.ensures }) c.args.phase
    (process_number c.args.process) c.args.step c.args.state
    (runs_so_far c.args.self.now) _ _ c.args.self.now.ended.items _ c.in_ok-run.run' c.requires c.in_ok-go_on_at.ensures c.in_ok-run.ensures.next c.in_ok-run.ensures.run
    (c.in_ok-push.ensures.items ∙ ap (λ ends. ends ++ c.in_ok-run.run' ∷ []) c.in_ok-make_room.ensures)

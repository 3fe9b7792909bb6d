-- The step is noted in the process's present run.
use Rattle.vf_base.specs.Base.{process_number}
use Rattle.run_record.specs.RunRecords.{runs_so_far}
use Rattle.run_record.proofs.Calls.{step-called}
use Rattle.run_record.proofs.record.RunRecord.go_on.Goals as goal

pub returns : goal.returns
returns c =
    step-called (record { steps = c.own_runs.ensures.steps; runs = c.own_runs.ensures.runs; ready = c.own_runs.ensures.ready; time = c.own_runs.ensures.time; leads = c.present_runs_lead.ensures }) (process_number c.args.process) c.args.step
    (runs_so_far c.args.self.now) _
    c.args.self.now.ended.items c.requires c.in_ok-go_on_at.ensures

-- The run at the process's place changes.
use Rattle.vf_base.specs.Base.{process_number}
use Rattle.run_record.specs.Notes.{with_step}
use Rattle.run_record.proofs.Calls.{run-set}
use Rattle.run_record.proofs.record.go_on_at.Goals as goal

pub returns : goal.returns
returns c =
    run-set c.args.runs.now.items (process_number c.args.process) c.index_mut.result.now c.go_on.new.self (with_step c.args.step) c.requires c.index_mut.ensures.value c.in_ok-go_on.ensures

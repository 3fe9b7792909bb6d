-- The run at the process's place ends.
use Rattle.std.proofs.Common.{subst}
use Rattle.vf_base.specs.Base.{process_number}
use Rattle.run_record.specs.Notes.{SoFar, nothing_so_far}
use Rattle.run_record.specs.RunRecords.{IsEndOf}
use Rattle.run_record.proofs.Calls.{run-at, run-set}
use Rattle.run_record.proofs.record.end_at.Goals as goal

pub returns-clause-run : goal.returns-clause-run
returns-clause-run c =
    subst (λ (told : SoFar). IsEndOf c.args.phase (process_number c.args.process) c.args.state told c.in_ok-run.run')
    (run-at c.args.runs.now.items (process_number c.args.process) c.index_mut.result.now c.requires c.index_mut.ensures.value) c.in_ok-run.ensures.run

pub returns-clause-next : goal.returns-clause-next
returns-clause-next c = run-set c.args.runs.now.items (process_number c.args.process) c.index_mut.result.now c.end.new.self
    (λ told. nothing_so_far) c.requires c.index_mut.ensures.value c.in_ok-run.ensures.next

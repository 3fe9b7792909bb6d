-- So many of the runs are listed.
use Rattle.std.proofs.Common.{[], take, map}
use Rattle.vf_base.specs.Base.{process_number}
use Rattle.lockstep_block.specs.Runs.{NotesEnded}
use Rattle.lockstep_block.proofs.ended.list_own.Given as goal

abbrev pub invariant-runs : goal.invariant-runs
invariant-runs l = NotesEnded l.initial.apart.items l.apart.items (map process_number (take l.process-index l.own)) []

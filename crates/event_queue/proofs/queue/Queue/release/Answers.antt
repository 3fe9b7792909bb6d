-- A process that isn't held stays so.
use Rattle.std.proofs.Common.{sym}
use Rattle.vf_base.specs.Base.{process_number}
use Rattle.event_queue.proofs.Removed.{same-holding}
use Rattle.event_queue.proofs.queue.Queue.release.Goals as goal

pub returns-in-Free : goal.returns-in-Free
returns-in-Free c = same-holding c.args.self.now (process_number c.args.process) _ (sym c.in-Free.ensures)

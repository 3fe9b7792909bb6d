use Rattle.vf_base.specs.Base.{process_number}
use Rattle.event_queue.specs.ChangeLaws.{no-laters}
use Rattle.process_table.proofs.holds.append_later.Goals as goal

pub returns-in-Read : goal.returns-in-Read
returns-in-Read c = rw c.in-Read.is (no-laters c.args.queue.now (process_number c.args.process))

pub returns-in-Write : goal.returns-in-Write
returns-in-Write c = rw c.in-Write.is (no-laters c.args.queue.now (process_number c.args.process))

pub returns-in-Await : goal.returns-in-Await
returns-in-Await c = rw c.in-Await.is (no-laters c.args.queue.now (process_number c.args.process))

pub returns-in-Sleep : goal.returns-in-Sleep
returns-in-Sleep c = rw c.in-Sleep.is (no-laters c.args.queue.now (process_number c.args.process))

pub returns-in-Zero : goal.returns-in-Zero
returns-in-Zero c = rw c.in-Zero.is (no-laters c.args.queue.now (process_number c.args.process))

pub returns-in-Finished : goal.returns-in-Finished
returns-in-Finished c = rw c.in-Finished.is (no-laters c.args.queue.now (process_number c.args.process))

pub returns-in-Inner : goal.returns-in-Inner
returns-in-Inner c = rw c.in-Inner.is (no-laters c.args.queue.now (process_number c.args.process))

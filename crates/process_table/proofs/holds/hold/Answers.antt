use Rattle.std.proofs.Common.{◌≡◌, ℕ, List, sym, ap}
use Rattle.vf_base.specs.Base.{process_number}
use Rattle.event_queue.specs.declared.held.Holding.{Holding}
use Rattle.event_queue.specs.declared.held.Holding.TheVariants.{Free}
use Rattle.event_queue.specs.Queues.{HeldProcess, nothing_held, held_at, with_holding}
use Rattle.vf_base.specs.Lists.{change_at}
use Rattle.event_queue.specs.ChangeLaws.{change-none}
use Rattle.process_table.proofs.holds.hold.Goals as goal

-- a process that isn't held stays so
free : (queue : List HeldProcess) (p : ℕ) → (held_at queue p).holding ≡ Free → queue ≡ change_at queue p (with_holding Free)
free queue p e = sym (change-none nothing_held queue p (with_holding Free) (ap (λ (h : Holding). record (held_at queue p) { holding = h }) (sym e)))

pub returns-in-Ready : goal.returns-in-Ready
returns-in-Ready c = rw c.in-Ready.is (free c.args.queue.now (process_number c.args.process) c.requires.free)

pub returns-in-Waiting : goal.returns-in-Waiting
returns-in-Waiting c = rw c.in-Waiting.is (free c.args.queue.now (process_number c.args.process) c.requires.free)

pub returns-in-Done : goal.returns-in-Done
returns-in-Done c = rw c.in-Done.is (free c.args.queue.now (process_number c.args.process) c.requires.free)
